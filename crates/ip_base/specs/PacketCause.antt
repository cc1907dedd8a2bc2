-- The cause of a packet's error.
use Rattle.ip_base.specs.declared.err.ipv4.header_error.HeaderError.{HeaderError as Ipv4HeaderError}
use Rattle.ip_base.specs.declared.err.ipv6.header_error.HeaderError.{HeaderError as Ipv6HeaderError}
use Rattle.ip_base.specs.declared.err.len_error.LenError.{LenError}
use Rattle.ip_base.specs.declared.err.ip_auth.header_error.HeaderError.{HeaderError as AuthError}
use Rattle.ip_base.specs.declared.err.ipv6_exts.header_error.HeaderError.{HeaderError as Ipv6ExtsError}
use Rattle.ip_base.specs.declared.err.ip.header_error.HeaderError.{HeaderError}
use Rattle.ip_base.specs.declared.err.ip.headers_error.HeadersError.{HeadersError}
use Rattle.ip_base.specs.declared.err.packet_source.PacketSource.{PacketSource}
use Rattle.ip_base.specs.declared.err.packet_source.PacketSource.TheVariants as source

-- too few bytes, or malformed headers
pub data PacketCause : Type 0 where
  Len : (error : LenError) → PacketCause
  IpAuth : (error : AuthError) → PacketCause
  Ipv6Exts : (error : Ipv6ExtsError) → PacketCause
  Ip : (error : HeaderError) → PacketCause
  IpHeaders : (error : HeadersError) → PacketCause
  Ipv4Header : (error : Ipv4HeaderError) → PacketCause
  Ipv6Header : (error : Ipv6HeaderError) → PacketCause

-- the cause that a source reports
abbrev pub packet_cause_in : PacketSource → PacketCause
packet_cause_in (source.Len e) = Len e.now
packet_cause_in (source.IpAuth e) = IpAuth e.now
packet_cause_in (source.Ipv6Exts e) = Ipv6Exts e.now
packet_cause_in (source.Ip e) = Ip e.now
packet_cause_in (source.IpHeaders e) = IpHeaders e.now
packet_cause_in (source.Ipv4Header e) = Ipv4Header e.now
packet_cause_in (source.Ipv6Header e) = Ipv6Header e.now
