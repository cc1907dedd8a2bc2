-- The two kinds of error of an IPv6 chain.
use Rattle.std.specs.Prelude.{Option, Some, None}
use Rattle.ip_base.specs.declared.err.len_error.LenError.{LenError}
use Rattle.ip_base.specs.ChainCause.{ChainCause, Ipv6Exts}
use Rattle.ip_base.specs.ChainCause as cause
use Rattle.ip_base.specs.declared.err.ipv6_exts.header_error.HeaderError.{HeaderError}
use Rattle.ip_ext_slices.specs.declared.err.ipv6_exts.header_slice_error.HeaderSliceError.{HeaderSliceError}
use Rattle.ip_ext_slices.specs.declared.err.ipv6_exts.header_slice_error.HeaderSliceError.TheVariants.{Len, Content}

-- the length error, if any
abbrev pub len_of : HeaderSliceError → Option LenError
len_of (Len e) = Some e
len_of (Content e) = None

-- the error in the bytes, if any
abbrev pub content_of : HeaderSliceError → Option HeaderError
content_of (Len e) = None
content_of (Content e) = Some e

-- the error's cause
abbrev pub cause_of : HeaderSliceError → ChainCause
cause_of (Len e) = cause.Len e
cause_of (Content e) = Ipv6Exts e
