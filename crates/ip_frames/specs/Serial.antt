-- Headers of serial lines: what bytes b begin with.
use Rattle.std.specs.Prelude.{ℕ, ◌+◌, List, length, Some, None, Bool, not, ◌==◌, ◌&&◌, ◌||◌, nat_le, bit_and, slice_index, if◌then◌else◌}
use Rattle.ip_frames.specs.Reading.{word_at, has_bits, header, typed, not_ip, of_bytes}
use Rattle.ip_frames.specs.Numbers.{after_ppp, after_nlpid}
use Rattle.ip_frames.specs.declared.protocol_number.ProtocolNumber.TheVariants as number
use Rattle.ip_frames.specs.declared.header.HeaderKind.{HeaderKind}
use Rattle.ip_frames.specs.declared.header.HeaderKind.TheVariants.{Ppp, PppProtocol, CiscoHdlc, FrameRelay, Multiprotocol, CiscoFrame, MultilinkFrameRelay}
use Rattle.ip_frames.specs.declared.header.Announced.TheVariants.{Header, Other}
use Rattle.ip_frames.specs.declared.header.HeaderReading.{HeaderReading}

-- RFC 1661, section 2: a protocol number of two bytes, or of one if it is odd.
abbrev pub ppp_protocol : List ℕ → HeaderReading
ppp_protocol b = of_bytes 1 b (
    if has_bits b 0 1 then header PppProtocol 1 (Some (number.Ppp (slice_index b 0))) (after_ppp (slice_index b 0))
    else of_bytes 2 b (header PppProtocol 2 (Some (number.Ppp (word_at b 0))) (after_ppp (word_at b 0))))

-- RFC 1662, section 3.1: an address byte, 0xff, and a control byte, 3, may come first.
abbrev pub is_framed : List ℕ → Bool
is_framed b = nat_le 2 (length b) && (slice_index b 0 == 0xff) && (slice_index b 1 == 3)

abbrev pub ppp : List ℕ → HeaderReading
ppp b = if is_framed b then header Ppp 2 None (Header PppProtocol) else ppp_protocol b

-- RFC 1547, section 4.3.1: an address, a byte of 0 and an EtherType.
abbrev pub cisco_hdlc : List ℕ → HeaderReading
cisco_hdlc b = of_bytes 4 b (typed CiscoHdlc 4 (word_at b 2))

-- LINKTYPE_PPP_HDLC: Cisco HDLC has the address 0x0f (unicast) or 0x8f (broadcast), and PPP has neither.
abbrev pub serial : List ℕ → HeaderReading
serial b = of_bytes 1 b (if (slice_index b 0 == 0x0f) || (slice_index b 0 == 0x8f) then cisco_hdlc b else ppp b)

-- RFC 2427, section 3: an address of n bytes, and then a control byte, 3, of a multiprotocol header, or Cisco's EtherType.
-- DLCI 0 is for signalling.
abbrev pub is_signalling : List ℕ → Bool
is_signalling b = not (has_bits b 0 0xfc || has_bits b 1 0xf0)

abbrev pub with_address : ℕ → List ℕ → HeaderReading
with_address n b = of_bytes (n + 1) b (header FrameRelay n None (
    if slice_index b n == 3 then Header Multiprotocol else if is_signalling b then Other else Header CiscoFrame))

-- An address has two to four bytes, of which the last is odd.
abbrev pub frame_relay : List ℕ → HeaderReading
frame_relay b = of_bytes 2 b (
    if has_bits b 0 1 then not_ip
    else if has_bits b 1 1 then with_address 2 b
    else of_bytes 3 b (
    if has_bits b 2 1 then with_address 3 b
    else of_bytes 4 b (if has_bits b 3 1 then with_address 4 b else not_ip)))

-- RFC 2427, section 3: a control byte, possibly a byte of 0 as padding, and a network layer protocol identifier.
abbrev pub identified : ℕ → ℕ → HeaderReading
identified n nlpid = header Multiprotocol n (Some (number.Nlpid nlpid)) (after_nlpid nlpid)

abbrev pub multiprotocol : List ℕ → HeaderReading
multiprotocol b = of_bytes 2 b (
    if slice_index b 1 == 0 then of_bytes 3 b (identified 3 (slice_index b 2)) else identified 2 (slice_index b 1))

abbrev pub cisco_frame : List ℕ → HeaderReading
cisco_frame b = of_bytes 2 b (typed CiscoFrame 2 (word_at b 0))

-- FRF.16.1: only the first fragment of a frame has its headers. Bits 7 and 5 of byte 0 say whether it is the first one, and
-- whether it is a control frame.
abbrev pub multilink_frame_relay : List ℕ → HeaderReading
multilink_frame_relay b = of_bytes 2 b (header MultilinkFrameRelay 2 None (
    if bit_and (slice_index b 0) 0xa0 == 0x80 then Header FrameRelay else Other))

-- A byte of libpcap's for the direction, or two with one of pppd's.
abbrev pub direction : HeaderKind → ℕ → HeaderKind → List ℕ → HeaderReading
direction k n next b = of_bytes n b (header k n None (Header next))
