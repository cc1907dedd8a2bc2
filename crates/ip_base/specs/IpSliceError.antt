-- The cause of an error of a packet of either IP version.
use Rattle.ip_base.specs.PacketCause.{PacketCause}
use Rattle.ip_base.specs.PacketCause as cause
use Rattle.ip_base.specs.declared.err.ip.slice_error.SliceError.{SliceError}
use Rattle.ip_base.specs.declared.err.ip.slice_error.SliceError.TheVariants.{Len, IpHeaders}

abbrev pub cause_of : SliceError → PacketCause
cause_of (Len e) = cause.Len e
cause_of (IpHeaders e) = cause.IpHeaders e
