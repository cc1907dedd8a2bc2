-- The two kinds of error of a read of IPv6 extension headers.
use Rattle.std.specs.Prelude.{Option, Some, None}
use Rattle.std.specs.declared.io.Error.{Error}
use Rattle.ip_base.specs.ChainCause.{ChainCause, Ipv6Exts}
use Rattle.ip_base.specs.ChainCause as cause
use Rattle.ip_base.specs.declared.err.ipv6_exts.header_error.HeaderError.{HeaderError}
use Rattle.ip_ext_chains.specs.declared.err.ipv6_exts.header_read_error.HeaderReadError.{HeaderReadError}
use Rattle.ip_ext_chains.specs.declared.err.ipv6_exts.header_read_error.HeaderReadError.TheVariants.{Io, Content}

-- the reader's error, if any
abbrev pub io_of : HeaderReadError → Option Error
io_of (Io e) = Some e
io_of (Content e) = None

-- the error in the bytes, if any
abbrev pub content_of : HeaderReadError → Option HeaderError
content_of (Io e) = None
content_of (Content e) = Some e

-- the error's cause
abbrev pub cause_of : HeaderReadError → ChainCause
cause_of (Io e) = cause.Io e
cause_of (Content e) = Ipv6Exts e
