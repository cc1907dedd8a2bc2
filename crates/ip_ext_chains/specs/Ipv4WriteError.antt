-- The two kinds of error of a write.
use Rattle.std.specs.Prelude.{Option, Some, None}
use Rattle.std.specs.declared.alloc.AllocError.{AllocError}
use Rattle.ip_base.specs.ChainCause.{ChainCause, Memory, Ipv4Walk}
use Rattle.ip_base.specs.declared.err.ipv4_exts.exts_walk_error.ExtsWalkError.{ExtsWalkError}
use Rattle.ip_ext_chains.specs.declared.err.ipv4_exts.header_write_error.HeaderWriteError.{HeaderWriteError}
use Rattle.ip_ext_chains.specs.declared.err.ipv4_exts.header_write_error.HeaderWriteError.TheVariants.{Io, Content}

-- the allocation error, if any
abbrev pub io_of : HeaderWriteError → Option AllocError
io_of (Io e) = Some e
io_of (Content e) = None

-- the error of the walk, if any
abbrev pub content_of : HeaderWriteError → Option ExtsWalkError
content_of (Io e) = None
content_of (Content e) = Some e

-- the error's cause
abbrev pub cause_of : HeaderWriteError → ChainCause
cause_of (Io e) = Memory e
cause_of (Content e) = Ipv4Walk e
