-- The cause of a single header's error.
use Rattle.std.specs.declared.io.Error.{Error}
use Rattle.ip_base.specs.declared.err.len_error.LenError.{LenError}
use Rattle.ip_base.specs.declared.err.ip_auth.header_error.HeaderError.{HeaderError}
use Rattle.ip_base.specs.declared.err.source.Source.{Source}
use Rattle.ip_base.specs.declared.err.source.Source.TheVariants as source

-- a failed reader, too few bytes, or a malformed authentication header
pub data Cause : Type 0 where
  Io : (error : Error) → Cause
  Len : (error : LenError) → Cause
  IpAuth : (error : HeaderError) → Cause

-- the cause that a source reports
abbrev pub cause_in : Source → Cause
cause_in (source.Io e) = Io e.now
cause_in (source.Len e) = Len e.now
cause_in (source.IpAuth e) = IpAuth e.now
