-- The cause of an error in the bytes of an IPv6 chain.
use Rattle.std.specs.Prelude.{Option, Some, None}
use Rattle.ip_base.specs.ChainCause.{ChainCause, IpAuth}
use Rattle.ip_base.specs.declared.err.ipv6_exts.header_error.HeaderError.{HeaderError}
use Rattle.ip_base.specs.declared.err.ipv6_exts.header_error.HeaderError.TheVariants as error

-- the authentication header's error, if it is one
abbrev pub cause_of : HeaderError → Option ChainCause
cause_of error.HopByHopNotAtStart = None
cause_of (error.IpAuth e) = Some (IpAuth e)
