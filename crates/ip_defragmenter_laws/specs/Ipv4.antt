-- The fragments of an IPv4 packet (RFC 791, section 3.2).
use Rattle.std.specs.Prelude.{◌≡◌, ℕ, ◌+◌, ◌-◌, ◌*◌, ◌/◌, ◌%◌, ◌≤◌, ◌<◌, nat_lt, Bool, false, List, ◌++◌, length, take, drop, slice_index, slice_set, if◌then◌else◌}
use Rattle.ip_base.specs.Checksum.{with_word, checksum_of}
use Rattle.ip_base.specs.Ipv4Header.{IsIpv4Header, ihl, ipv4_header_len, total_len, protocol, ipv4_source_octets, ipv4_destination_octets, ipv4_fragment_offset, ipv4_more_fragments}
use Rattle.ip_base.specs.BaseHeaderFields.{ipv4_ecn, ipv4_identification}
use Rattle.ip_dissect.specs.Dissection.{dissected}
use Rattle.ip_dissect.specs.End.{has_error}
use Rattle.ip_reassembly.specs.Fragment.{Fragment}
use Rattle.ip_defragmenter.specs.Sent.{ipv4_base, ipv4_first}
use Rattle.ip_defragmenter.specs.declared.key.FragmentKey.{FragmentKey}
use Rattle.ip_defragmenter.specs.declared.key.FragmentKey.TheVariants as key

-- what all fragments of the IPv4 packet s have in common
abbrev pub ipv4_key : List ℕ → FragmentKey
ipv4_key s = key.Ipv4 (ipv4_source_octets s) (ipv4_destination_octets s) (record { 0 = protocol s }) (ipv4_identification s)

-- its payload
abbrev pub ipv4_payload : List ℕ → List ℕ
ipv4_payload s = drop (ipv4_header_len s) s

-- The bytes f are the fragment of the IPv4 packet s with this piece of its payload: a base header, the piece and padding.
-- The base header has the addresses, the protocol, the identification and the ECN code point of s, no more options than s,
-- and says where the piece lies. That of the first fragment is the one of s with what fragmentation changes, and the
-- headers after it end in the fragment without an error.
pub record IsIpv4Fragment (s : List ℕ) (p : Fragment) (f : List ℕ) : Type 0 where
  pub base : List ℕ
  pub padding : List ℕ
  pub joined : f ≡ base ++ (p.bytes ++ padding)
  pub header : IsIpv4Header base
  pub options : ihl base ≤ ihl s
  pub stated : total_len base ≡ length base + length p.bytes
  pub source : ipv4_source_octets base ≡ ipv4_source_octets s
  pub destination : ipv4_destination_octets base ≡ ipv4_destination_octets s
  pub number : protocol base ≡ protocol s
  pub identification : ipv4_identification base ≡ ipv4_identification s
  pub ecn : ipv4_ecn base ≡ ipv4_ecn s
  pub offset : 8 * ipv4_fragment_offset base ≡ p.offset
  pub more : ipv4_more_fragments base ≡ p.more
  pub first : p.offset ≡ 0 → (t : ℕ) × ((x : ℕ) × (base ≡ ipv4_first s t x))
  pub whole : p.offset ≡ 0 → has_error (dissected f).end ≡ false

-- the base header of s with these options and the total length t; byte 0 has the version 4 and the header length
abbrev pub with_options : List ℕ → List ℕ → ℕ → List ℕ
with_options s options t = with_word (slice_set (take 20 s ++ options) 0 (0x45 + length options / 4)) 2 t

-- a base header with the more fragments flag, if more follow, and the offset in units of 8 bytes
abbrev pub with_place : List ℕ → Bool → ℕ → List ℕ
with_place b more offset = slice_set (slice_set b 6 (slice_index b 6 + (if more then 0x20 else 0) + offset / 256)) 7 (offset % 256)

-- with its checksum
abbrev pub with_checksum : List ℕ → List ℕ
with_checksum b = with_word b 10 (checksum_of (with_word b 10 0))

-- the base header of the fragment of s that has n bytes of payload from an offset on, with those of its options that are
-- copied
abbrev pub ipv4_fragment_header : List ℕ → List ℕ → ℕ → ℕ → Bool → List ℕ
ipv4_fragment_header s options start n more = with_checksum (with_place (with_options s options (20 + length options + n)) more (start / 8))

-- the fragment of s with these options that has its payload from one offset to another
abbrev pub ipv4_fragment_bytes : List ℕ → List ℕ → ℕ → ℕ → List ℕ
ipv4_fragment_bytes s options start end =
    ipv4_fragment_header s options start (end - start) (nat_lt end (length (ipv4_payload s))) ++ take (end - start) (drop start (ipv4_payload s))

-- It is one: the bytes are some of the payload, not all, from a multiple of 8 on. The options are whole words, no more than
-- those of s, and in the first fragment they are those of s.
pub record IsIpv4Part (s options : List ℕ) (start end : ℕ) : Type 0 where
  pub units : start % 8 ≡ 0
  pub order : start ≤ end
  pub within : end ≤ length (ipv4_payload s)
  pub several : start ≡ 0 → end < length (ipv4_payload s)
  pub words : length options % 4 ≡ 0
  pub fewer : 20 + length options ≤ ipv4_header_len s
  pub first : start ≡ 0 → options ≡ drop 20 (ipv4_base s)
