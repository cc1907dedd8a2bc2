-- The cause of an IPv6 packet's error.
use Rattle.ip_base.specs.PacketCause.{PacketCause, Ipv6Exts, Ipv6Header}
use Rattle.ip_base.specs.PacketCause as cause
use Rattle.etherparse_ip.specs.declared.err.ipv6.slice_error.SliceError.{SliceError}
use Rattle.etherparse_ip.specs.declared.err.ipv6.slice_error.SliceError.TheVariants.{Len, Header, Exts}

abbrev pub cause_of : SliceError → PacketCause
cause_of (Len e) = cause.Len e
cause_of (Header e) = Ipv6Header e
cause_of (Exts e) = Ipv6Exts e
