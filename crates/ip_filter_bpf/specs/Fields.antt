-- Fields of base headers that tests compare with a number, as instructions load them.
use Rattle.std.specs.Prelude.{ℕ, ◌/◌, ◌^◌, ◌-◌, ◌==◌, ◌&&◌, nat_le, bit_and, Bool, List, Option, None, Some, if◌then◌else◌}
use Rattle.ip_bpf.specs.Machine.{number_at}
use Rattle.ip_bpf.specs.declared.instruction.Width.{Width}
use Rattle.ip_bpf.specs.declared.instruction.Width.TheVariants as width
use Rattle.ip_filter_bpf.specs.declared.fields.Field.{Field}
use Rattle.ip_filter_bpf.specs.declared.version.Version.{Version}
use Rattle.ip_filter_bpf.specs.declared.version.Version.TheVariants as version

-- tests of this kind compare a field of the base header
abbrev pub compares_field : ℕ → Bool
compares_field kind = nat_le 12 kind && nat_le kind 15

-- what a packet has in the field
abbrev pub field_value : Field → List ℕ → ℕ
field_value f packet = bit_and (number_at packet f.offset f.width / 2 ^ f.shift) f.mask

abbrev pub field_at : Width → ℕ → ℕ → ℕ → Field
field_at w offset shift mask = record { width = w; offset = offset; shift = shift; mask = mask }

-- The field of a base header that a test of this kind compares: the time to live or hop limit, the differentiated services code
-- point, explicit congestion notification, and the flow label (RFC 791, section 3.1; RFC 8200, section 3; RFC 2474; RFC 3168).
abbrev pub field_of : ℕ → Version → Option Field
field_of kind version.None = None
field_of kind version.Ipv4 =
    if kind == 12 then Some (field_at width.Byte 8 0 0xffff_ffff)
    else if kind == 13 then Some (field_at width.Byte 1 2 0xffff_ffff)
    else if kind == 14 then Some (field_at width.Byte 1 0 3)
    else None
field_of kind version.Ipv6 =
    if kind == 12 then Some (field_at width.Byte 7 0 0xffff_ffff)
    else if kind == 13 then Some (field_at width.HalfWord 0 6 63)
    else if kind == 14 then Some (field_at width.HalfWord 0 4 3)
    else if kind == 15 then Some (field_at width.Word 0 0 0xf_ffff)
    else None
