-- The cause of an error of a packet's headers, and the error with its offset moved.
use Rattle.std.specs.Prelude.{ℕ, ◌+◌, ◌<◌, ◌^◌, ⊤}
use Rattle.ip_base.specs.LenError.{moved}
use Rattle.ip_base.specs.PacketCause.{PacketCause, IpHeaders}
use Rattle.ip_base.specs.PacketCause as cause
use Rattle.ip_base.specs.declared.err.ip.headers_slice_error.HeadersSliceError.{HeadersSliceError}
use Rattle.ip_base.specs.declared.err.ip.headers_slice_error.HeadersSliceError.TheVariants.{Len, Content}

abbrev pub cause_of : HeadersSliceError → PacketCause
cause_of (Len e) = cause.Len e
cause_of (Content e) = IpHeaders e

-- the error with its offset, if it has one, increased by k
abbrev pub headers_moved : ℕ → HeadersSliceError → HeadersSliceError
headers_moved k (Len e) = Len (moved e.len_source k e)
headers_moved k (Content e) = Content e

abbrev pub HeadersOffsetFits : HeadersSliceError → ℕ → Type 0
HeadersOffsetFits (Len e) k = e.layer_start_offset + k < 2 ^ 64
HeadersOffsetFits (Content e) k = ⊤
