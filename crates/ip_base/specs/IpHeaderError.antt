-- The cause of an error in the bytes of extension headers of either IP version.
use Rattle.ip_base.specs.ChainCause.{ChainCause, IpAuth, Ipv6Exts}
use Rattle.ip_base.specs.declared.err.ip_exts.header_error.HeaderError.{HeaderError}
use Rattle.ip_base.specs.declared.err.ip_exts.header_error.HeaderError.TheVariants.{Ipv4Ext, Ipv6Ext}

-- the cause of the version's error
abbrev pub cause_of : HeaderError → ChainCause
cause_of (Ipv4Ext e) = IpAuth e
cause_of (Ipv6Ext e) = Ipv6Exts e
