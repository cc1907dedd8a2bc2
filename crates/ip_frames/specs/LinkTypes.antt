-- The first header of a frame by its link type: LINKTYPE_ values of www.tcpdump.org/linktypes.html, and libpcap's DLT_ values.
use Rattle.std.specs.Prelude.{ℕ, Option, Some, None, ◌==◌, ◌||◌, if◌then◌else◌}
use Rattle.ip_frames.specs.declared.header.HeaderKind.TheVariants.{Ethernet, TokenRing, Fddi, Llc, Slip, Loopback, Cooked, CookedV2, Nflog, Ipnet, Ipoib, Ppp, PppDirection, Pppd, Serial, Pppoe, CiscoHdlc, CiscoHdlcDirection, FrameRelay, FrameRelayDirection, MultilinkFrameRelay, JuniperEthernet, JuniperAtm1, Ieee80211, Radiotap, Ppi}
use Rattle.ip_frames.specs.declared.header.Announced.{Announced}
use Rattle.ip_frames.specs.declared.header.Announced.TheVariants.{Header, Ip}

abbrev pub first_header : ℕ → Option Announced
first_header n =
    if n == 0 then Some (Header Loopback)
    else if n == 1 then Some (Header Ethernet)
    else if n == 6 then Some (Header TokenRing)
    else if n == 8 then Some (Header Slip)
    else if n == 9 then Some (Header Ppp)
    else if n == 10 then Some (Header Fddi)
    else if (n == 11) || (n == 100) then Some (Header Llc)
    else if (n == 12) || (n == 101) then Some Ip
    else if n == 50 then Some (Header Serial)
    else if n == 51 then Some (Header Pppoe)
    else if n == 104 then Some (Header CiscoHdlc)
    else if n == 105 then Some (Header Ieee80211)
    else if n == 107 then Some (Header FrameRelay)
    else if n == 108 then Some (Header Loopback)
    else if n == 113 then Some (Header Cooked)
    else if n == 127 then Some (Header Radiotap)
    else if n == 137 then Some (Header JuniperAtm1)
    else if n == 166 then Some (Header Pppd)
    else if n == 178 then Some (Header JuniperEthernet)
    else if n == 182 then Some (Header MultilinkFrameRelay)
    else if n == 192 then Some (Header Ppi)
    else if n == 204 then Some (Header PppDirection)
    else if n == 205 then Some (Header CiscoHdlcDirection)
    else if n == 206 then Some (Header FrameRelayDirection)
    else if n == 226 then Some (Header Ipnet)
    else if (n == 228) || (n == 229) then Some Ip
    else if n == 239 then Some (Header Nflog)
    else if n == 242 then Some (Header Ipoib)
    else if n == 276 then Some (Header CookedV2)
    else None
