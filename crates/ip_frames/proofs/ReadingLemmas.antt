-- A header that was read has at least one byte, and lies in the bytes.
use Rattle.std.proofs.Common.{◌≡◌, ℕ, ◌+◌, ◌≤◌, ◌/◌, Bool, true, false, cond, leb, ltb, ◌&&◌, ◌||◌, List, length, slice_index, bit_and, Option, None, refl, subst, arith, lit≤}
use Rattle.std.specs.Prelude.{◌==◌, not}
use Rattle.std.proofs.lemmas.Bool.{leb-true, ltb-false}
use Rattle.ip_frames.specs.Reading.{has_bits, of_bytes, header, truncated, not_ip}
use Rattle.ip_frames.specs.Ieee.{after_security_tag, macsec, nsh_len, nsh, vlan_tag, llc, snap, token_ring, routed_len, pppoe}
use Rattle.ip_frames.specs.Radio.{ieee80211, frame_type, is_plain_data, is_part, has_several, data_header_len, radio_len, sized_header, radiotap, ppi}
use Rattle.ip_frames.specs.System.{nflog, nflog_attribute, attribute_len, padded_len}
use Rattle.ip_frames.specs.Serial.{ppp, is_framed, ppp_protocol, serial, cisco_hdlc, frame_relay, with_address, multiprotocol}
use Rattle.ip_frames.specs.Juniper.{juniper, after_extensions, juniper_cookie}
use Rattle.ip_frames.specs.Headers.{header_in, by_version, reading}
use Rattle.ip_frames.specs.declared.protocol_number.ProtocolNumber.{ProtocolNumber}
use Rattle.ip_frames.specs.declared.frame_contents.FrameEnd.{FrameEnd}
use Rattle.ip_frames.specs.declared.frame_contents.FrameEnd.TheVariants as ends
use Rattle.ip_frames.specs.declared.header.FrameHeader.{FrameHeader}
use Rattle.ip_frames.specs.declared.header.HeaderKind.{HeaderKind}
use Rattle.ip_frames.specs.declared.header.HeaderKind.TheVariants as kind
use Rattle.ip_frames.specs.declared.header.Announced.{Announced}
use Rattle.ip_frames.specs.declared.header.Announced.TheVariants.{Header, Ip, IpByVersion, Other}
use Rattle.ip_frames.specs.declared.header.HeaderReading.{HeaderReading}
use Rattle.ip_frames.specs.declared.header.HeaderReading.TheVariants.{Whole, End}

-- a header of at least one byte and at most n, or none
pub record LiesWithin (n : ℕ) (r : HeaderReading) : Type 0 where
  pub header : (h : FrameHeader) → r ≡ Whole h → (1 ≤ h.len) × (h.len ≤ n)

whole : {n : ℕ} (h : FrameHeader) → 1 ≤ h.len → h.len ≤ n → LiesWithin n (Whole h)
whole {n = n} h some within = record { header = λ g e. let same : h ≡ g = cc in subst (λ (x : FrameHeader). (1 ≤ x.len) × (x.len ≤ n)) same (some, within) }

none : {n : ℕ} (e : FrameEnd) (m : Option ProtocolNumber) → LiesWithin n (End e m)
none e m = record { header = λ g e. absurd (cc) }

either : (t : Bool) {n : ℕ} {r s : HeaderReading} → LiesWithin n r → LiesWithin n s → LiesWithin n (cond t r s)
either true h k = h
either false h k = k

when : (t : Bool) {n : ℕ} {r s : HeaderReading} → (t ≡ true → LiesWithin n r) → LiesWithin n s → LiesWithin n (cond t r s)
when true h k = h refl
when false h k = k

otherwise : (t : Bool) {n : ℕ} {r s : HeaderReading} → LiesWithin n r → (t ≡ false → LiesWithin n s) → LiesWithin n (cond t r s)
otherwise true h k = h
otherwise false h k = k refl

left_of : (s t : Bool) → (s && t) ≡ true → s ≡ true
left_of true t e = refl
left_of false t e = e

if_there : (n : ℕ) (b : List ℕ) {r : HeaderReading} → (n ≤ length b → LiesWithin (length b) r) → LiesWithin (length b) (of_bytes n b r)
if_there n b h = when (leb n (length b)) (λ e. h (leb-true n (length b) e)) (none _ _)

-- a header of n bytes that are there
sized : (k : HeaderKind) (n : ℕ) (number : Option ProtocolNumber) (what : Announced) (b : List ℕ) → 1 ≤ n → LiesWithin (length b) (of_bytes n b (header k n number what))
sized k n number what b some = if_there n b (λ h. whole _ some h)

vlan_tag_within : (b : List ℕ) → LiesWithin (length b) (vlan_tag b)
vlan_tag_within b = if_there 4 b (λ h. whole _ (lit≤ tt) h)

llc_within : (b : List ℕ) → LiesWithin (length b) (llc b)
llc_within b = when _ (λ e. either _ (whole _ (lit≤ tt) (leb-true 3 (length b) e)) (none _ _)) (none _ _)

snap_within : (b : List ℕ) → LiesWithin (length b) (snap b)
snap_within b = if_there 5 b (λ h. either _ (whole _ (lit≤ tt) h) (none _ _))

token_ring_within : (b : List ℕ) → LiesWithin (length b) (token_ring b)
token_ring_within b = if_there 14 b (λ h. either _ (whole _ (lit≤ tt) h) (either _
    (if_there 15 b (λ _. if_there (routed_len b) b (λ k. whole _ (omega arith) k)))
    (whole _ (lit≤ tt) h)))

after_security_tag_within : (n : ℕ) (b : List ℕ) → LiesWithin (length b) (after_security_tag n b)
after_security_tag_within n b = sized _ (n + 2) _ _ b (omega arith)

macsec_within : (b : List ℕ) → LiesWithin (length b) (macsec b)
macsec_within b = if_there 6 b (λ _. either _ (none _ _) (either _ (after_security_tag_within 14 b) (after_security_tag_within 6 b)))

nsh_within : (b : List ℕ) → LiesWithin (length b) (nsh b)
nsh_within b = if_there 8 b (λ _. either _ (none _ _) (otherwise _ (none _ _) (λ e.
    let long : 8 ≤ nsh_len b = ltb-false (nsh_len b) 8 e in
    sized _ (nsh_len b) _ _ b (omega arith))))

sized_header_within : (k : HeaderKind) (what : Announced) (b : List ℕ) → LiesWithin (length b) (sized_header k what b)
sized_header_within k what b = either _ (none _ _) (otherwise _ (none _ _) (λ e.
    let long : 8 ≤ radio_len b = ltb-false (radio_len b) 8 e in
    sized _ (radio_len b) _ _ b (omega arith)))

data_header_some : (b : List ℕ) (t u v : Bool) → 1 ≤ cond t (cond u (cond v 30 24 + 6) (cond v 30 24 + 2)) (cond v 30 24)
data_header_some b true true true = lit≤ tt
data_header_some b true true false = lit≤ tt
data_header_some b true false true = lit≤ tt
data_header_some b true false false = lit≤ tt
data_header_some b false u true = lit≤ tt
data_header_some b false u false = lit≤ tt

data_within : (n : ℕ) (b : List ℕ) (s t : Bool) (m : Option ProtocolNumber) → 1 ≤ n
    → LiesWithin (length b) (of_bytes n b (cond s (End ends.NotIp m) (cond t (End ends.NotIp m) (header kind.Ieee80211 n m (Header kind.Llc)))))
data_within n b s t m some = if_there n b (λ h. either s (none _ _) (either t (none _ _) (whole _ some h)))

ieee80211_within : (b : List ℕ) → LiesWithin (length b) (ieee80211 b)
ieee80211_within b = if_there 2 b (λ _. either (not (is_plain_data b)) {r = End ends.NotIp (frame_type b)} (none _ _) (
    data_within (data_header_len b) b (is_part b) (has_several b) (frame_type b)
    (data_header_some b (has_bits b 0 0x80) (has_bits b 1 0x80) (bit_and (slice_index b 1) 3 == 3))))

radiotap_within : (b : List ℕ) → LiesWithin (length b) (radiotap b)
radiotap_within b = if_there 8 b (λ _. sized_header_within _ _ b)

ppi_within : (b : List ℕ) → LiesWithin (length b) (ppi b)
ppi_within b = if_there 8 b (λ _. sized_header_within _ _ b)

pppoe_within : (b : List ℕ) → LiesWithin (length b) (pppoe b)
pppoe_within b = if_there 6 b (λ h. either _ (whole _ (lit≤ tt) h) (none _ _))

nflog_within : (b : List ℕ) → LiesWithin (length b) (nflog b)
nflog_within b = if_there 4 b (λ h. either _ (whole _ (lit≤ tt) h) (whole _ (lit≤ tt) h))

nflog_attribute_within : (b : List ℕ) → LiesWithin (length b) (nflog_attribute b)
nflog_attribute_within b = if_there 4 b (λ h. otherwise _ (none _ _) (λ e.
    let long : 4 ≤ attribute_len b = ltb-false (attribute_len b) 4 e in
    either _ (whole _ (lit≤ tt) h) (sized _ (padded_len b) _ _ b (omega arith))))

ppp_protocol_within : (b : List ℕ) → LiesWithin (length b) (ppp_protocol b)
ppp_protocol_within b = if_there 1 b (λ h. either _ (whole _ (lit≤ tt) h) (sized _ 2 _ _ b (lit≤ tt)))

ppp_within : (b : List ℕ) → LiesWithin (length b) (ppp b)
ppp_within b = when (is_framed b) (λ e. whole _ (lit≤ tt) (leb-true 2 (length b) (left_of _ _ (left_of _ _ e)))) (ppp_protocol_within b)

cisco_hdlc_within : (b : List ℕ) → LiesWithin (length b) (cisco_hdlc b)
cisco_hdlc_within b = sized _ 4 _ _ b (lit≤ tt)

serial_within : (b : List ℕ) → LiesWithin (length b) (serial b)
serial_within b = if_there 1 b (λ _. either _ (cisco_hdlc_within b) (ppp_within b))

with_address_within : (n : ℕ) (b : List ℕ) → 2 ≤ n → LiesWithin (length b) (with_address n b)
with_address_within n b some = if_there (n + 1) b (λ h. whole _ (omega arith) (omega arith))

frame_relay_within : (b : List ℕ) → LiesWithin (length b) (frame_relay b)
frame_relay_within b = if_there 2 b (λ _. either _ (none _ _) (either _ (with_address_within 2 b (lit≤ tt))
    (if_there 3 b (λ _. either _ (with_address_within 3 b (lit≤ tt))
    (if_there 4 b (λ _. either _ (with_address_within 4 b (lit≤ tt)) (none _ _)))))))

multiprotocol_within : (b : List ℕ) → LiesWithin (length b) (multiprotocol b)
multiprotocol_within b = if_there 2 b (λ h. either _ (if_there 3 b (λ k. whole _ (lit≤ tt) k)) (whole _ (lit≤ tt) h))

after_extensions_within : (k : HeaderKind) (n : ℕ) (next : HeaderKind) (b : List ℕ) → 1 ≤ n → LiesWithin (length b) (after_extensions k n next b)
after_extensions_within k n next b some = either _ (sized k (n + 4) _ _ b (omega arith)) (sized k n _ _ b some)

juniper_within : (k next : HeaderKind) (b : List ℕ) → LiesWithin (length b) (juniper k next b)
juniper_within k next b = if_there 4 b (λ _. either _ (none _ _) (either _
    (if_there 6 b (λ _. after_extensions_within k _ next b (omega arith)))
    (after_extensions_within k 4 next b (lit≤ tt))))

juniper_cookie_within : (b : List ℕ) → LiesWithin (length b) (juniper_cookie b)
juniper_cookie_within b = if_there 4 b (λ h. either _ (whole _ (lit≤ tt) h) (if_there 5 b (λ _. whole _ (lit≤ tt) h)))

header_within : (k : HeaderKind) (b : List ℕ) → LiesWithin (length b) (header_in k b)
unfolding header_in
header_within kind.Ethernet b = sized _ 14 _ _ b (lit≤ tt)
header_within kind.VlanTag b = vlan_tag_within b
header_within kind.Llc b = llc_within b
header_within kind.Snap b = snap_within b
header_within kind.TokenRing b = token_ring_within b
header_within kind.Fddi b = sized _ 13 _ _ b (lit≤ tt)
header_within kind.Ieee80211 b = ieee80211_within b
header_within kind.Radiotap b = radiotap_within b
header_within kind.Ppi b = ppi_within b
header_within kind.Ipoib b = sized _ 44 _ _ b (lit≤ tt)
header_within kind.Cooked b = sized _ 16 _ _ b (lit≤ tt)
header_within kind.CookedV2 b = sized _ 20 _ _ b (lit≤ tt)
header_within kind.Loopback b = sized _ 4 _ _ b (lit≤ tt)
header_within kind.Ipnet b = sized _ 24 _ _ b (lit≤ tt)
header_within kind.Nflog b = nflog_within b
header_within kind.NflogAttribute b = nflog_attribute_within b
header_within kind.MacSec b = macsec_within b
header_within kind.Nsh b = nsh_within b
header_within kind.Mpls b = sized _ 4 _ _ b (lit≤ tt)
header_within kind.Pppoe b = pppoe_within b
header_within kind.Ppp b = ppp_within b
header_within kind.PppProtocol b = ppp_protocol_within b
header_within kind.Serial b = serial_within b
header_within kind.CiscoHdlc b = cisco_hdlc_within b
header_within kind.FrameRelay b = frame_relay_within b
header_within kind.Multiprotocol b = multiprotocol_within b
header_within kind.CiscoFrame b = sized _ 2 _ _ b (lit≤ tt)
header_within kind.MultilinkFrameRelay b = sized _ 2 _ _ b (lit≤ tt)
header_within kind.PppDirection b = sized _ 1 _ _ b (lit≤ tt)
header_within kind.CiscoHdlcDirection b = sized _ 1 _ _ b (lit≤ tt)
header_within kind.FrameRelayDirection b = sized _ 1 _ _ b (lit≤ tt)
header_within kind.Pppd b = sized _ 2 _ _ b (lit≤ tt)
header_within kind.Slip b = sized _ 16 _ _ b (lit≤ tt)
header_within kind.JuniperEthernet b = juniper_within _ _ b
header_within kind.JuniperAtm1 b = juniper_within _ _ b
header_within kind.JuniperCookie b = juniper_cookie_within b

by_version_within : (b : List ℕ) → LiesWithin (length b) (by_version b)
by_version_within b = either (ltb (length b) 1) {r = truncated 1} (none _ _) (
    either ((slice_index b 0 / 16 == 4) || (slice_index b 0 / 16 == 6)) {r = End ends.Ip None} {s = not_ip} (none _ _) (none _ _))

pub reading_within : (what : Announced) (b : List ℕ) → LiesWithin (length b) (reading what b)
reading_within (Header k) b = header_within k b
reading_within Ip b = none _ _
reading_within IpByVersion b = by_version_within b
reading_within Other b = none _ _
