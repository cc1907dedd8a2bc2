-- The two kinds of error of the extension headers of a packet of either IP version.
use Rattle.std.specs.Prelude.{Option, Some, None}
use Rattle.ip_base.specs.declared.err.len_error.LenError.{LenError}
use Rattle.ip_base.specs.ChainCause.{ChainCause, IpExts}
use Rattle.ip_base.specs.ChainCause as cause
use Rattle.ip_base.specs.declared.err.ip_exts.header_error.HeaderError.{HeaderError}
use Rattle.ip_ext_chains.specs.declared.err.ip_exts.headers_slice_error.HeadersSliceError.{HeadersSliceError}
use Rattle.ip_ext_chains.specs.declared.err.ip_exts.headers_slice_error.HeadersSliceError.TheVariants.{Len, Content}

-- the length error, if any
abbrev pub len_of : HeadersSliceError → Option LenError
len_of (Len e) = Some e
len_of (Content e) = None

-- the error in the bytes, if any
abbrev pub content_of : HeadersSliceError → Option HeaderError
content_of (Len e) = None
content_of (Content e) = Some e

-- the error's cause
abbrev pub cause_of : HeadersSliceError → ChainCause
cause_of (Len e) = cause.Len e
cause_of (Content e) = IpExts e
