-- The two kinds of error of a read within a limit.
use Rattle.std.specs.Prelude.{Option, Some, None}
use Rattle.std.specs.declared.io.Error.{Error}
use Rattle.ip_base.specs.declared.err.len_error.LenError.{LenError}
use Rattle.ip_base.specs.Cause.{Cause}
use Rattle.ip_base.specs.Cause as cause
use Rattle.ip_base.specs.declared.err.io.limited_read_error.LimitedReadError.{LimitedReadError}
use Rattle.ip_base.specs.declared.err.io.limited_read_error.LimitedReadError.TheVariants.{Io, Len}

-- the reader's error, if any
abbrev pub io_of : LimitedReadError → Option Error
io_of (Io e) = Some e
io_of (Len e) = None

-- the length error, if any
abbrev pub len_of : LimitedReadError → Option LenError
len_of (Io e) = None
len_of (Len e) = Some e

-- the error's cause
abbrev pub cause_of : LimitedReadError → Cause
cause_of (Io e) = cause.Io e
cause_of (Len e) = cause.Len e
