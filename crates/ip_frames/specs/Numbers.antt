-- The numbers by which headers of frames say what follows them.
use Rattle.std.specs.Prelude.{ℕ, Option, Some, None, ◌==◌, ◌||◌, if◌then◌else◌}
use Rattle.ip_frames.specs.declared.protocol_number.ProtocolNumber.{ProtocolNumber}
use Rattle.ip_frames.specs.declared.protocol_number.ProtocolNumber.TheVariants.{EtherType, Llc, Ppp, Nlpid, Family, Ieee80211}
use Rattle.ip_frames.specs.declared.header.HeaderKind.TheVariants as kind
use Rattle.ip_frames.specs.declared.header.Announced.{Announced}
use Rattle.ip_frames.specs.declared.header.Announced.TheVariants.{Header, Ip, Other}

-- The IP version that a number stands for. AF_INET is 2 everywhere; AF_INET6 is 10 on Linux, 24 on NetBSD and OpenBSD, 26
-- on Solaris, 28 on FreeBSD, 30 on Darwin.
abbrev pub ip_version : ProtocolNumber → Option ℕ
ip_version (EtherType n) = if n == 0x0800 then Some 4 else if n == 0x86dd then Some 6 else None
ip_version (Ppp n) = if n == 0x0021 then Some 4 else if n == 0x0057 then Some 6 else None
ip_version (Nlpid n) = if n == 0xcc then Some 4 else if n == 0x8e then Some 6 else None
ip_version (Family n) =
    if n == 2 then Some 4 else if (n == 10) || (n == 24) || (n == 26) || (n == 28) || (n == 30) then Some 6 else None
ip_version (Llc n) = None
ip_version (Ieee80211 n) = None

-- EtherTypes: IP (RFC 894, RFC 2464); tags of IEEE 802.1Q and 802.1ad, and the one in use before 802.1ad; MPLS (RFC 5332);
-- PPPoE sessions (RFC 2516); MACsec (IEEE 802.1AE); network service headers (RFC 8300); and the number below all EtherTypes by which Linux marks LLC frames in cooked captures.
abbrev pub after_ethertype : ℕ → Announced
after_ethertype n =
    if (n == 0x0800) || (n == 0x86dd) then Ip
    else if (n == 0x8100) || (n == 0x88a8) || (n == 0x9100) then Header kind.VlanTag
    else if (n == 0x8847) || (n == 0x8848) then Header kind.Mpls
    else if n == 0x8864 then Header kind.Pppoe
    else if n == 0x88e5 then Header kind.MacSec
    else if n == 0x894f then Header kind.Nsh
    else if n == 0x0004 then Header kind.Llc
    else Other

-- PPP protocol numbers: IP (RFC 1332, RFC 5072) and MPLS (RFC 3032).
abbrev pub after_ppp : ℕ → Announced
after_ppp n =
    if (n == 0x0021) || (n == 0x0057) then Ip
    else if (n == 0x0281) || (n == 0x0283) then Header kind.Mpls
    else Other

-- Network layer protocol identifiers: IP and SNAP (RFC 2427), and PPP (RFC 1973).
abbrev pub after_nlpid : ℕ → Announced
after_nlpid n =
    if (n == 0xcc) || (n == 0x8e) then Ip
    else if n == 0x80 then Header kind.Snap
    else if n == 0xcf then Header kind.Ppp
    else Other

-- AF_INET and AF_INET6 of the systems with BSD loopback headers, of Solaris, and of Linux.
abbrev pub after_family : ℕ → Announced
after_family n = if (n == 2) || (n == 10) || (n == 24) || (n == 28) || (n == 30) then Ip else Other

abbrev pub after_solaris_family : ℕ → Announced
after_solaris_family n = if (n == 2) || (n == 26) then Ip else Other

abbrev pub after_nflog_family : ℕ → Announced
after_nflog_family n = if (n == 2) || (n == 10) then Header kind.NflogAttribute else Other
