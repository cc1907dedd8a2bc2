-- The three kinds of error of a read of IPv6 extension headers within a limit.
use Rattle.std.specs.Prelude.{Option, Some, None}
use Rattle.std.specs.declared.io.Error.{Error}
use Rattle.ip_base.specs.declared.err.len_error.LenError.{LenError}
use Rattle.ip_base.specs.ChainCause.{ChainCause, Ipv6Exts}
use Rattle.ip_base.specs.ChainCause as cause
use Rattle.ip_base.specs.declared.err.ipv6_exts.header_error.HeaderError.{HeaderError}
use Rattle.ip_ext_chains.specs.declared.err.ipv6_exts.header_limited_read_error.HeaderLimitedReadError.{HeaderLimitedReadError}
use Rattle.ip_ext_chains.specs.declared.err.ipv6_exts.header_limited_read_error.HeaderLimitedReadError.TheVariants.{Io, Len, Content}

-- the reader's error, if any
abbrev pub io_of : HeaderLimitedReadError → Option Error
io_of (Io e) = Some e
io_of (Len e) = None
io_of (Content e) = None

-- the length error, if any
abbrev pub len_of : HeaderLimitedReadError → Option LenError
len_of (Io e) = None
len_of (Len e) = Some e
len_of (Content e) = None

-- the error in the bytes, if any
abbrev pub content_of : HeaderLimitedReadError → Option HeaderError
content_of (Io e) = None
content_of (Len e) = None
content_of (Content e) = Some e

-- the error's cause
abbrev pub cause_of : HeaderLimitedReadError → ChainCause
cause_of (Io e) = cause.Io e
cause_of (Len e) = cause.Len e
cause_of (Content e) = Ipv6Exts e
