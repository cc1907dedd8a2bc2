-- Equality of headers: equality of their fields, with the used bytes compared one by one.
use Rattle.std.specs.Prelude.{Bool, ◌==◌, ◌&&◌, nat_eq}
use Rattle.std.specs.Bool.{beq}
use Rattle.std.specs.Cmp.Lexicographic.{pointwise}
use Rattle.ip_spec.specs.Fields.{RawFields, FragmentFields, AuthFields}

abbrev pub raw_equal : RawFields → RawFields → Bool
raw_equal v w = (v.next_header == w.next_header) && pointwise nat_eq v.payload w.payload

abbrev pub auth_equal : AuthFields → AuthFields → Bool
auth_equal v w =
    (v.next_header == w.next_header) && (v.spi == w.spi) && (v.sequence_number == w.sequence_number) && pointwise nat_eq v.raw_icv w.raw_icv

abbrev pub fragment_equal : FragmentFields → FragmentFields → Bool
fragment_equal v w =
    (v.next_header == w.next_header) && (v.fragment_offset == w.fragment_offset) && beq v.more_fragments w.more_fragments && (v.identification == w.identification)
