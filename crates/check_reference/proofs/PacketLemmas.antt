-- The error after an IPv6 header, and the answer for a packet, by the version in its first byte.
use Rattle.ip_spec.proofs.Common.{refl, ◌≡◌, ℕ, ◌+◌, ◌-◌, ◌≤◌, List, length, drop, arith, le-ltb, length-take-le, ap, sym, ◌∙◌, inl, inr, Bool, Option, None, option_map, codes, eqb_tells, rules, ExtHeader, IsLongestChain, leads_to, bytes_of, is_empty, has_fragmenting, rest_after}
use Rattle.std.proofs.Common.{length-drop}
use Rattle.ip_spec.proofs.ChainLemmas.{one_longest, some_longest}
use Rattle.ip_base.specs.declared.len_source.LenSource.{LenSource}
use Rattle.ip_base.specs.Ipv6Header.{payload_length, ipv6_next_header}
use Rattle.etherparse_ip.specs.LenSources.{front, ipv6_len_source}
use Rattle.ip_ext_slices.specs.ChainFault.{Fault, slice_fault, chain_fault, exts_in_packet}
use Rattle.check_reference.proofs.AnswerLemmas.{length-prefix}
use Rattle.ip_ext_slices.specs.Longest.{longest_chain}
use Rattle.ip_base.specs.Ipv4Header.{version}
use Rattle.etherparse_ip.specs.Packet.{Parts}
use Rattle.etherparse_ip.specs.PartsIn.{ipv4_parts_in, ipv6_parts_in}
use Rattle.etherparse_ip.specs.PacketFault.{ip_fault, ip_fault_of_ipv6, ipv6_after, ip_of_ipv6}
use Rattle.ipexts_tool.specs.PacketAnswer.{parts_lines, packet_answer}
use Rattle.check_reference.specs.PlainPacket.{HasLengthsOf, sourced}
use Rattle.check_reference.specs.declared.plain_packet.PlainPacket.{PlainPacket}

-- an error's offset may count from the packet's start at once
from_start : (source : LenSource) (k j : ℕ) (first : Bool) (m : ℕ) (r : List ℕ)
    → option_map (exts_in_packet source j) (option_map (λ f. f.0) (slice_fault k first m r)) ≡ option_map (sourced source) (option_map (λ f. f.0) (slice_fault (k + j) first m r))
from_start source k j first m r = search rules

-- The longest chain c from n at the start of s, and what is read after it: the number m and the bytes r.
module _ (n : ℕ) (s : List ℕ) (c : List ExtHeader) (longest : IsLongestChain n s c) (r : List ℕ) (left : r ≡ rest_after c s) where
  same_chain : longest_chain n s ≡ c
  same_chain = one_longest n s (longest_chain n s) c (some_longest n s).1 longest

  pub read_len : length s - length r ≡ length (bytes_of c)
  read_len = omega (arith, ap length left, length-drop (length (bytes_of c)) s, length-prefix (bytes_of c) s longest.has.prefix)

  pub end_len : length s - length r ≡ length (bytes_of (longest_chain n s))
  end_len = cc (read_len, same_chain)

  pub end_fragmented : (b : Bool) → b ≡ has_fragmenting c → b ≡ has_fragmenting (longest_chain n s)
  end_fragmented b e = e ∙ ap has_fragmenting (sym same_chain)

  pub end_fault : (source : LenSource) (first : Bool) (m : ℕ) (f : Option Fault) → first ≡ is_empty c → m ≡ leads_to n c → f ≡ slice_fault (length s - length r + 40) first m r
      → option_map ip_of_ipv6 (option_map (sourced source) (option_map (λ e. e.0) f)) ≡ option_map ip_of_ipv6 (option_map (exts_in_packet source 40) (option_map (λ e. e.0) (chain_fault n s)))
  end_fault source first m f none leads is = search (rules, from_start, read_len, same_chain)

-- An IPv6 packet with all the bytes that it states, read with payload length p, and the bytes after its base header.
module _ (s after : List ℕ) (source : LenSource) (p : ℕ) (field : p ≡ payload_length s) (stated : 40 + p ≤ length s)
    (by : source ≡ ipv6_len_source p (length s)) (packet : List ℕ) (whole : packet ≡ front source p s) (left : after ≡ drop 40 packet) where
  by_field : source ≡ ipv6_len_source (payload_length s) (length s)
  by_field = by ∙ ap (λ k. ipv6_len_source k (length s)) field

  same : ipv6_after s ≡ after
  same = rw (← by_field, ← field, ← whole, ← left) refl

  pub ipv6_fault_is : option_map ip_of_ipv6 (option_map (exts_in_packet source 40) (option_map (λ f. f.0) (chain_fault (ipv6_next_header s) after))) ≡ ip_fault_of_ipv6 s
  ipv6_fault_is = search (rules, by_field, same, le-ltb)

  pub ipv6_lengths : (k m : ℕ) (fragmented : Bool) → k ≡ length (bytes_of (longest_chain (ipv6_next_header s) after)) → m ≡ leads_to (ipv6_next_header s) (longest_chain (ipv6_next_header s) after)
      → fragmented ≡ has_fragmenting (longest_chain (ipv6_next_header s) after)
      → HasLengthsOf (ipv6_parts_in s) (record { header_len = 40; exts_len = k; payload_len = length after - k; number = m; fragmented = fragmented; len_source = source })
  ipv6_lengths k m fragmented len leads fragments =
      let header = sym (length-take-le 40 s (omega arith)) in
      rw same (record { header = header; exts = len; payload = search (rules, length-drop); number = leads; fragmented = fragments; source = by_field })

-- what holds of the lines of the parts holds of the answer
pub parts_answer : (s name : List ℕ) (x : PlainPacket) (L : List ℕ → Type 0) → None ≡ ip_fault s
    → (version s ≡ 4 → (name ≡ codes "ipv4") × HasLengthsOf (ipv4_parts_in s) x)
    → ((version s ≡ 4 → ⊥) → (name ≡ codes "ipv6") × HasLengthsOf (ipv6_parts_in s) x)
    → ((p : Parts) → HasLengthsOf p x → L (parts_lines name p)) → L (packet_answer s)
unfolding packet_answer
parts_answer s name x L ok four six lines = elim (eqb_tells (version s) 4) [
  | inl is ↦ rw (← ok, is.0) (rw (four is.1).0 at (lines (ipv4_parts_in s) (four is.1).1))
  | inr not ↦ rw (← ok, not.0) (rw (six not.1).0 at (lines (ipv6_parts_in s) (six not.1).1))
]
