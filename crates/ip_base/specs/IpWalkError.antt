-- The cause of an error of a walk over extension headers of either IP version.
use Rattle.ip_base.specs.ChainCause.{ChainCause, Ipv4Walk, Ipv6Walk}
use Rattle.ip_base.specs.declared.err.ip_exts.exts_walk_error.ExtsWalkError.{ExtsWalkError}
use Rattle.ip_base.specs.declared.err.ip_exts.exts_walk_error.ExtsWalkError.TheVariants.{Ipv4Exts, Ipv6Exts}

-- the cause of the version's error
abbrev pub cause_of : ExtsWalkError → ChainCause
cause_of (Ipv4Exts e) = Ipv4Walk e
cause_of (Ipv6Exts e) = Ipv6Walk e
