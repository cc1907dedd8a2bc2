-- The cause of an extension header error.
use Rattle.std.specs.declared.alloc.AllocError.{AllocError}
use Rattle.std.specs.declared.io.Error.{Error}
use Rattle.ip_base.specs.declared.err.len_error.LenError.{LenError}
use Rattle.ip_base.specs.declared.err.ip_auth.header_error.HeaderError.{HeaderError as AuthError}
use Rattle.ip_base.specs.declared.err.ip_exts.header_error.HeaderError.{HeaderError as IpExtsError}
use Rattle.ip_base.specs.declared.err.ipv4_exts.exts_walk_error.ExtsWalkError.{ExtsWalkError as Ipv4WalkError}
use Rattle.ip_base.specs.declared.err.ipv6_exts.exts_walk_error.ExtsWalkError.{ExtsWalkError as Ipv6WalkError}
use Rattle.ip_base.specs.declared.err.ipv6_exts.header_error.HeaderError.{HeaderError as Ipv6ExtsError}
use Rattle.ip_base.specs.declared.err.chain_source.ChainSource.{ChainSource}
use Rattle.ip_base.specs.declared.err.chain_source.ChainSource.TheVariants as source

-- a failed reader, an allocation failure, too few bytes, malformed headers, or headers that a walk doesn't reach
pub data ChainCause : Type 0 where
  Io : (error : Error) → ChainCause
  Memory : (error : AllocError) → ChainCause
  Len : (error : LenError) → ChainCause
  IpAuth : (error : AuthError) → ChainCause
  Ipv6Exts : (error : Ipv6ExtsError) → ChainCause
  IpExts : (error : IpExtsError) → ChainCause
  Ipv4Walk : (error : Ipv4WalkError) → ChainCause
  Ipv6Walk : (error : Ipv6WalkError) → ChainCause

-- the cause that a source reports
abbrev pub chain_cause_in : ChainSource → ChainCause
chain_cause_in (source.Io e) = Io e.now
chain_cause_in (source.Memory e) = Memory e.now
chain_cause_in (source.Len e) = Len e.now
chain_cause_in (source.IpAuth e) = IpAuth e.now
chain_cause_in (source.Ipv6Exts e) = Ipv6Exts e.now
chain_cause_in (source.IpExts e) = IpExts e.now
chain_cause_in (source.Ipv4Walk e) = Ipv4Walk e.now
chain_cause_in (source.Ipv6Walk e) = Ipv6Walk e.now
