-- The headers of a frame as a list, and what they lead to.
use Rattle.std.specs.Prelude.{◌≡◌, ℕ, ◌/◌, List, [], ◌∷◌, length, drop, sum_by, slice_index, option_to_list, Option, None, ◌==◌, ◌||◌, nat_lt, if◌then◌else◌}
use Rattle.std.specs.List.{flat_map}
use Rattle.std.specs.Option.{option_or}
use Rattle.ip_frames.specs.Reading.{truncated, not_ip}
use Rattle.ip_frames.specs.Ieee.{ethernet, vlan_tag, llc, snap, token_ring, fddi, ipoib, macsec, nsh, mpls, pppoe}
use Rattle.ip_frames.specs.Radio.{ieee80211, radiotap, ppi}
use Rattle.ip_frames.specs.System.{cooked, cooked_v2, loopback, ipnet, nflog, nflog_attribute, slip}
use Rattle.ip_frames.specs.Serial.{ppp, ppp_protocol, serial, cisco_hdlc, frame_relay, multiprotocol, cisco_frame, multilink_frame_relay, direction}
use Rattle.ip_frames.specs.Juniper.{juniper, juniper_cookie}
use Rattle.ip_frames.specs.declared.protocol_number.ProtocolNumber.{ProtocolNumber}
use Rattle.ip_frames.specs.declared.frame_contents.FrameEnd.{FrameEnd}
use Rattle.ip_frames.specs.declared.frame_contents.FrameEnd.TheVariants as end
use Rattle.ip_frames.specs.declared.frame_contents.VlanTags.{VlanTags}
use Rattle.ip_frames.specs.declared.frame_contents.FrameContents.{FrameContents}
use Rattle.ip_frames.specs.declared.header.HeaderKind.{HeaderKind}
use Rattle.ip_frames.specs.declared.header.HeaderKind.TheVariants as kind
use Rattle.ip_frames.specs.declared.header.FrameHeader.{FrameHeader}
use Rattle.ip_frames.specs.declared.header.Announced.{Announced}
use Rattle.ip_frames.specs.declared.header.Announced.TheVariants.{Header, Ip, IpByVersion, Other}
use Rattle.ip_frames.specs.declared.header.HeaderReading.{HeaderReading}
use Rattle.ip_frames.specs.declared.header.HeaderReading.TheVariants.{Whole, End}

-- what bytes begin with where a header of a kind is announced
unfoldable pub header_in : HeaderKind → List ℕ → HeaderReading
header_in kind.Ethernet b = ethernet b
header_in kind.VlanTag b = vlan_tag b
header_in kind.Llc b = llc b
header_in kind.Snap b = snap b
header_in kind.TokenRing b = token_ring b
header_in kind.Fddi b = fddi b
header_in kind.Ieee80211 b = ieee80211 b
header_in kind.Radiotap b = radiotap b
header_in kind.Ppi b = ppi b
header_in kind.Ipoib b = ipoib b
header_in kind.Cooked b = cooked b
header_in kind.CookedV2 b = cooked_v2 b
header_in kind.Loopback b = loopback b
header_in kind.Ipnet b = ipnet b
header_in kind.Nflog b = nflog b
header_in kind.NflogAttribute b = nflog_attribute b
header_in kind.MacSec b = macsec b
header_in kind.Nsh b = nsh b
header_in kind.Mpls b = mpls b
header_in kind.Pppoe b = pppoe b
header_in kind.Ppp b = ppp b
header_in kind.PppProtocol b = ppp_protocol b
header_in kind.Serial b = serial b
header_in kind.CiscoHdlc b = cisco_hdlc b
header_in kind.FrameRelay b = frame_relay b
header_in kind.Multiprotocol b = multiprotocol b
header_in kind.CiscoFrame b = cisco_frame b
header_in kind.MultilinkFrameRelay b = multilink_frame_relay b
header_in kind.PppDirection b = direction kind.PppDirection 1 kind.Ppp b
header_in kind.CiscoHdlcDirection b = direction kind.CiscoHdlcDirection 1 kind.CiscoHdlc b
header_in kind.FrameRelayDirection b = direction kind.FrameRelayDirection 1 kind.FrameRelay b
header_in kind.Pppd b = direction kind.Pppd 2 kind.Ppp b
header_in kind.Slip b = slip b
header_in kind.JuniperEthernet b = juniper kind.JuniperEthernet kind.Ethernet b
header_in kind.JuniperAtm1 b = juniper kind.JuniperAtm1 kind.JuniperCookie b
header_in kind.JuniperCookie b = juniper_cookie b

-- IP if the first four bits are 4 or 6
abbrev pub by_version : List ℕ → HeaderReading
by_version b =
    if nat_lt (length b) 1 then truncated 1
    else if (slice_index b 0 / 16 == 4) || (slice_index b 0 / 16 == 6) then End end.Ip None
    else not_ip

-- what bytes begin with after what was announced
abbrev pub reading : Announced → List ℕ → HeaderReading
reading (Header k) b = header_in k b
reading Ip b = End end.Ip None
reading IpByVersion b = by_version b
reading Other b = not_ip

-- the end of the headers, with a number if there is one
pub record Ending : Type 0 where
  pub end : FrameEnd
  pub number : Option ProtocolNumber

-- Headers hs follow one another from the start of bytes b, each where the one before it ends and as that one announces, and
-- the headers end so after the last.
abbrev pub AreHeaders : Announced → List ℕ → List FrameHeader → Ending → Type 0
AreHeaders what b [] e = reading what b ≡ End e.end e.number
AreHeaders what b (h ∷ hs) e = (reading what b ≡ Whole h) × AreHeaders h.announced (drop h.len b) hs e

-- the length of headers in bytes
abbrev pub headers_len : List FrameHeader → ℕ
headers_len hs = sum_by (λ h. h.len) hs

-- the last number of headers, or else the one before them, if there is one
abbrev pub last_number : Option ProtocolNumber → List FrameHeader → Option ProtocolNumber
last_number n [] = n
last_number n (h ∷ hs) = last_number (option_or h.number n) hs

-- the identifiers of VLAN tags
abbrev pub identifiers : List FrameHeader → List ℕ
identifiers hs = flat_map (λ h. option_to_list h.vlan) hs

-- the VLAN tags with these identifiers
abbrev pub vlan_tags : List ℕ → VlanTags
vlan_tags ids = record { count = length ids; first = slice_index ids 0; second = slice_index ids 1 }

-- what headers lead to that end so, after a number
abbrev pub contents : Option ProtocolNumber → List FrameHeader → Ending → FrameContents
contents n hs e = record {
  offset = headers_len hs;
  end = e.end;
  number = option_or e.number (last_number n hs);
  vlans = vlan_tags (identifiers hs);
}

-- Bytes b have headers as announced, which lead to x.
pub record LeadsTo (what : Announced) (n : Option ProtocolNumber) (b : List ℕ) (x : FrameContents) : Type 0 where
  pub headers : List FrameHeader
  pub ending : Ending
  pub follow : AreHeaders what b headers ending
  pub reached : x ≡ contents n headers ending
