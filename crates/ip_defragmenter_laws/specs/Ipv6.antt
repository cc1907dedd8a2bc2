-- The fragments of an IPv6 packet (RFC 8200, section 4.5).
use Rattle.std.specs.Prelude.{◌≡◌, ℕ, ◌+◌, ◌-◌, ◌*◌, ◌/◌, ◌%◌, ◌^◌, ◌≤◌, ◌<◌, nat_lt, Bool, true, false, List, [], ◌∷◌, ◌++◌, length, take, drop, slice_index, if◌then◌else◌}
use Rattle.std.specs.Int.{to_be_bytes, w32}
use Rattle.std.specs.List.{list_any}
use Rattle.ip_base.specs.BaseHeaderFields.{ipv6_traffic_class}
use Rattle.ip_base.specs.Ipv6Header.{IsIpv6Header, payload_length, ipv6_next_header, ipv6_source_octets, ipv6_destination_octets}
use Rattle.ip_spec.specs.Chain.{ExtHeader, IsChain, bytes_of}
use Rattle.ip_spec.specs.Fields.{fragment_fields}
use Rattle.ip_spec.specs.Numbers.{FRAGMENT}
use Rattle.ip_dissect.specs.Dissection.{dissected}
use Rattle.ip_dissect.specs.End.{has_error}
use Rattle.ip_dissect.specs.Fragment.{is_fragment_header}
use Rattle.ip_reassembly.specs.Fragment.{Fragment}
use Rattle.ip_defragmenter.specs.Sent.{ipv6_first}
use Rattle.ip_defragmenter.specs.Split.{link_after}
use Rattle.ip_defragmenter.specs.declared.key.FragmentKey.{FragmentKey}
use Rattle.ip_defragmenter.specs.declared.key.FragmentKey.TheVariants as key

-- what all fragments of the IPv6 packet s with this identification have in common
abbrev pub ipv6_key : List ℕ → ℕ → FragmentKey
ipv6_key s id = key.Ipv6 (ipv6_source_octets s) (ipv6_destination_octets s) id

-- The bytes f are the fragment of the IPv6 packet s with this identification and this piece of what follows the first n
-- bytes of s: a base header, extension headers, a fragment header, the piece and padding. They have the addresses and the
-- ECN code point of s and no more headers than those n bytes, and the fragment header says where the piece lies. The
-- headers of the first fragment are those of s with what fragmentation changes, and the headers after its fragment header
-- end in it without an error. No piece is the whole payload: its fragment would be a packet by itself (RFC 6946).
pub record IsIpv6Fragment (s : List ℕ) (n link id : ℕ) (p : Fragment) (f : List ℕ) : Type 0 where
  pub base : List ℕ
  pub before : List ExtHeader
  pub header : ExtHeader
  pub padding : List ℕ
  pub joined : f ≡ base ++ (bytes_of before ++ (header.bytes ++ (p.bytes ++ padding)))
  pub is_base : IsIpv6Header base
  pub chain : IsChain (ipv6_next_header base) (before ++ header ∷ [])
  pub number : header.number ≡ FRAGMENT
  pub one : list_any is_fragment_header before ≡ false
  pub headers : length base + length (bytes_of before) ≤ n
  pub stated : payload_length base ≡ length (bytes_of before) + (length header.bytes + length p.bytes)
  pub source : ipv6_source_octets base ≡ ipv6_source_octets s
  pub destination : ipv6_destination_octets base ≡ ipv6_destination_octets s
  pub identification : (fragment_fields header.bytes).identification ≡ id
  pub ecn : ipv6_traffic_class base % 4 ≡ ipv6_traffic_class s % 4
  pub offset : 8 * (fragment_fields header.bytes).fragment_offset ≡ p.offset
  pub more : (fragment_fields header.bytes).more_fragments ≡ p.more
  pub first : p.offset ≡ 0 → (t : ℕ) × (base ++ bytes_of before ≡ ipv6_first s n link t)
  pub place : p.offset ≡ 0 → link_after 40 before ≡ link
  pub next : p.offset ≡ 0 → (fragment_fields header.bytes).next_header ≡ slice_index s link
  pub several : p.offset ≡ 0 → p.more ≡ true
  pub whole : p.offset ≡ 0 → has_error (dissected f).end ≡ false

-- A fragment header: the next header, a reserved byte, the offset, which is a multiple of 8, with the more fragments flag in
-- its lowest bit, and the identification.
abbrev pub fragment_header_bytes : ℕ → ℕ → Bool → ℕ → List ℕ
fragment_header_bytes next start more id = next ∷ 0 ∷ (start / 256) ∷ (start % 256 + (if more then 1 else 0)) ∷ to_be_bytes w32 id

-- the fragment of s with this identification that has what follows its first n bytes, from one offset to another
abbrev pub ipv6_fragment_bytes : List ℕ → ℕ → ℕ → ℕ → ℕ → ℕ → List ℕ
ipv6_fragment_bytes s n link id start end =
    ipv6_first s n link (n - 40 + 8 + (end - start))
    ++ (fragment_header_bytes (slice_index s link) start (nat_lt end (length (drop n s))) id ++ take (end - start) (drop start (drop n s)))

-- It is one: the bytes are some of those that follow, not all, from a multiple of 8 on, and fit the payload length field. The
-- first n bytes of s are its base header and these extension headers, none of which is a fragment header, and the last next
-- header field is at the offset `link`.
pub record IsIpv6Part (s : List ℕ) (n link id start end : ℕ) (c : List ExtHeader) : Type 0 where
  pub units : start % 8 ≡ 0
  pub order : start ≤ end
  pub within : end ≤ length (drop n s)
  pub several : start ≡ 0 → end < length (drop n s)
  pub fits : n - 40 + 8 + (end - start) ≤ 65535
  pub identification : id < 2 ^ 32
  pub chain : IsChain (ipv6_next_header s) c
  pub headers : bytes_of c ≡ drop 40 (take n s)
  pub none : list_any is_fragment_header c ≡ false
  pub place : link_after 40 c ≡ link
