-- A packet of the plain program, and an error with the source of a packet's length.
use Rattle.std.specs.Prelude.{◌≡◌, length}
use Rattle.ip_base.specs.declared.len_source.LenSource.{LenSource}
use Rattle.ip_ext_slices.specs.declared.err.ipv6_exts.header_slice_error.HeaderSliceError.{HeaderSliceError}
use Rattle.ip_ext_slices.specs.declared.err.ipv6_exts.header_slice_error.HeaderSliceError.TheVariants.{Len, Content}
use Rattle.ip_spec.specs.Chain.{bytes_of}
use Rattle.etherparse_ip.specs.Packet.{Parts}
use Rattle.check_reference.specs.declared.plain_packet.PlainPacket.{PlainPacket}

-- x has the lengths of the parts p, and the values that describe the payload
pub record HasLengthsOf (p : Parts) (x : PlainPacket) : Type 0 where
  pub header : x.header_len ≡ length p.base
  pub exts : x.exts_len ≡ length (bytes_of p.headers)
  pub payload : x.payload_len ≡ length p.payload
  pub number : x.number ≡ p.number
  pub fragmented : x.fragmented ≡ p.fragmented
  pub source : x.len_source ≡ p.source

-- the error with this source of the length, if it has one
abbrev pub sourced : LenSource → HeaderSliceError → HeaderSliceError
sourced source (Len e) = Len (record e { len_source = source })
sourced source (Content e) = Content e
