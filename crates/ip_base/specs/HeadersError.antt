-- The cause of an error in the bytes of a packet's headers.
use Rattle.ip_base.specs.PacketCause.{PacketCause, IpAuth, Ipv6Exts}
use Rattle.ip_base.specs.PacketCause as cause
use Rattle.ip_base.specs.declared.err.ip.headers_error.HeadersError.{HeadersError}
use Rattle.ip_base.specs.declared.err.ip.headers_error.HeadersError.TheVariants.{Ip, Ipv4Ext, Ipv6Ext}

abbrev pub cause_of : HeadersError → PacketCause
cause_of (Ip e) = cause.Ip e
cause_of (Ipv4Ext e) = IpAuth e
cause_of (Ipv6Ext e) = Ipv6Exts e
