-- The parts of a packet joined, and the packets in truncated bytes.
use Rattle.ip_spec.proofs.Common.{rules, ◌≡◌, ℕ, ◌-◌, ◌≤◌, List, [], ◌∷◌, ◌++◌, length, take, drop, sym, ap, ◌∙◌, arith, common_steps, append_assoc, drop-append_seam, take-append_seam, length-append, ◌+◌, refl, Option, None, Some, IsPrefix, ExtHeader, bytes_of, headers_within, rest_after, AtMostOneOf, zero, suc}
use Rattle.ip_spec.proofs.PrefixLemmas.{prefix-append, prefix-length}
use Rattle.ip_spec.proofs.DemandKinds.{at_most_one_of}
use Rattle.ip_spec.proofs.ShorterLemmas.{longest_shorter}
use Rattle.ip_spec.proofs.UnderLemmas.{whole_longest_under, one_longest_under}
use Rattle.ip_base.specs.Ipv4Header.{protocol, ipv4_header_len}
use Rattle.ip_base.specs.Ipv6Header.{ipv6_next_header}
use Rattle.ip_ext_slices.specs.Ipv4Longest.{longest_ipv4_chain}
use Rattle.ip_ext_slices.specs.Longest.{longest_chain}
use Rattle.ip_ext_slices.proofs.LongestLemmas.{longest_chain-longest, longest_chain-bytes_of}
use Rattle.ip_ext_slices.proofs.Ipv4Lemmas.{ipv4_longest, whole_header}
use Rattle.ip_dissect.specs.LaterDemand.{NothingAfterLater, nothing_after_later}
use Rattle.ip_dissect.specs.Later.{chain_to_later}
use Rattle.ip_dissect.specs.Extent.{packet_bytes, after_base, ipv4_stated, ipv6_stated, ipv4_chain, ipv4_chain_in, ipv6_chain}
use Rattle.ip_dissect.specs.Dissection.{DissectedParts, HasParts, version_of, base_of, dissected}
use Rattle.ip_base.specs.Ipv4HeaderSlice as ipv4_header
use Rattle.ip_base.specs.Ipv6HeaderSlice as ipv6_header
use Rattle.ip_dissect.specs.Summary.{IsBaseOf}
use Rattle.ip_dissect.specs.declared.dissection.BaseHeader.{BaseHeader}
use Rattle.ip_dissect.specs.declared.dissection.BaseHeader.TheVariants.{Ipv4, Ipv6}
use Rattle.ip_dissect.specs.declared.dissection.Dissection.{Dissection}
use Rattle.ip_dissect.proofs.LaterLemmas.{chain_to_later-longest}
use Rattle.ip_dissect.proofs.Ipv4Lemmas.{ipv4_prefix}
use Rattle.ip_dissect.proofs.DissectedLemmas.{BeginIpv4, begin_ipv4, begins4, BeginIpv6, begin_ipv6, begins6, BeginNone, begins_none}

-- the packet's bytes are a prefix of s that starts with the base header
packet_split : (b : List ℕ) (t : Option ℕ) (s : List ℕ) → packet_bytes b t s ++ drop (length (packet_bytes b t s)) s ≡ s
packet_split b t s = grind (arith, common_steps)

packet_begins : (b : List ℕ) (t : Option ℕ) (s : List ℕ) → IsPrefix b s → IsPrefix b (packet_bytes b t s)
packet_begins b t s p = grind (arith, common_steps)

module _ (b s : List ℕ) (t : Option ℕ) (n : ℕ) (c : List ExtHeader) (start : IsPrefix b s) (front : IsPrefix (bytes_of c) (after_base b t s)) where
  after_split : bytes_of c ++ rest_after c (after_base b t s) ≡ after_base b t s
  after_split = sym (prefix-append (bytes_of c) (after_base b t s) front)

  packet_is : b ++ after_base b t s ≡ packet_bytes b t s
  packet_is = sym (prefix-append b (packet_bytes b t s) (packet_begins b t s start))

  pub joined : b ++ bytes_of c ++ rest_after c (after_base b t s) ++ drop (length (packet_bytes b t s)) s ≡ s
  joined = cc (append_assoc b (bytes_of c) (rest_after c (after_base b t s)), after_split, packet_is, packet_split b t s)

-- the parts of any bytes
abbrev parts_of : DissectedParts → List ℕ
parts_of p = p.base ++ bytes_of p.headers ++ p.payload ++ p.padding

pub parts_joined : (s : List ℕ) (b : Option BaseHeader) → IsBaseOf s b → parts_of (dissected s) ≡ s
parts_joined s None is = let w : BeginNone s = begins_none s is in ap parts_of w.is
parts_joined s (Some (Ipv4 h)) is =
    let b : List ℕ = ipv4_header.bytes h in
    let w : BeginIpv4 s b = begins4 s (Some (Ipv4 h)) b is refl refl in
    ap parts_of w.is ∙ joined b s (ipv4_stated b) (protocol b) (ipv4_chain b s) w.prefix (ipv4_prefix b _).prefix
parts_joined s (Some (Ipv6 h)) is =
    let b : List ℕ = ipv6_header.bytes h in
    let w : BeginIpv6 s b = begins6 s (Some (Ipv6 h)) b is refl refl in
    ap parts_of w.is ∙ joined b s (ipv6_stated b) (ipv6_next_header b) (ipv6_chain b s) w.prefix (chain_to_later-longest _ _).has.0.prefix

-- and those of a dissection
pub dissection_joined : (s : List ℕ) (b : Option BaseHeader) (d : Dissection) → IsBaseOf s b → HasParts (dissected s) d → base_of d ++ d.extensions.now ++ d.payload.now ++ d.padding.now ≡ s
dissection_joined s b d is h = cc (h.base, h.extensions, h.payload, h.padding, parts_joined s b is)

-- Where each of four joined parts lies.
module _ (a b c d s : List ℕ) (whole : a ++ b ++ c ++ d ≡ s) (i j k l : ℕ) (is : i ≡ length a) (js : j ≡ length b) (ks : k ≡ length c) (ls : l ≡ length d) where
  pub parts_fit : i + j + k + l ≡ length s
  parts_fit = omega (arith, is, js, ks, ls, ap length (sym whole), length-append (a ++ b ++ c) d, length-append (a ++ b) c, length-append a b)

  split : a ++ (b ++ (c ++ d)) ≡ s
  split = sym (append_assoc a b (c ++ d)) ∙ sym (append_assoc (a ++ b) c d) ∙ whole

  after_first : drop i s ≡ b ++ (c ++ d)
  after_first = ap (drop i) (sym split) ∙ ap (λ n. drop n (a ++ (b ++ (c ++ d)))) is ∙ drop-append_seam a (b ++ (c ++ d))

  pub second_part : take (i + j - i) (drop i s) ≡ b
  second_part = let size : i + j - i ≡ length b = omega (arith, js) in ap (λ n. take n (drop i s)) size ∙ ap (take (length b)) after_first ∙ take-append_seam b (c ++ d)

  after_second : drop (i + j) s ≡ c ++ d
  after_second =
      let size : i + j ≡ length (a ++ b) = omega (arith, is, js, length-append a b) in
      ap (drop (i + j)) (sym (sym (append_assoc (a ++ b) c d) ∙ whole)) ∙ ap (λ n. drop n ((a ++ b) ++ (c ++ d))) size ∙ drop-append_seam (a ++ b) (c ++ d)

  pub third_part : take (i + j + k - (i + j)) (drop (i + j) s) ≡ c
  third_part = let size : i + j + k - (i + j) ≡ length c = omega (arith, ks) in ap (λ n. take n (drop (i + j) s)) size ∙ ap (take (length c)) after_second ∙ take-append_seam c d

  pub last_part : drop (length s - l) s ≡ d
  last_part =
      let size : length s - l ≡ length (a ++ b ++ c) = omega (arith, ls, ap length (sym whole), length-append (a ++ b ++ c) d) in
      ap (drop (length s - l)) (sym whole) ∙ ap (λ n. drop n (a ++ b ++ c ++ d)) size ∙ drop-append_seam (a ++ b ++ c) d

-- Truncated bytes: those of the packet, and those after its base header.
drop_take : (k j : ℕ) (s : List ℕ) → drop k (take j s) ≡ take (j - k) (drop k s)
drop_take zero j s = let e : j ≡ j - 0 = omega arith in ap (λ n. take n s) e
drop_take (suc k) zero s = let e : 0 ≡ 0 - suc k = omega arith in ap (λ n. take n (drop (suc k) s)) e
drop_take (suc k) (suc j) [] = grind (arith, common_steps)
drop_take (suc k) (suc j) (x ∷ s) = grind (arith, common_steps, drop_take k j s)

take_swap : (k j : ℕ) (s : List ℕ) → take k (take j s) ≡ take j (take k s)
take_swap k j s = grind (arith, common_steps)

packet_shorter : (b : List ℕ) (t : Option ℕ) (j : ℕ) (s : List ℕ) → packet_bytes b t (take j s) ≡ take j (packet_bytes b t s)
packet_shorter b t j s = search (rules, take_swap)

after_shorter : (b : List ℕ) (t : Option ℕ) (j : ℕ) (s : List ℕ) → after_base b t (take j s) ≡ take (j - length b) (after_base b t s)
after_shorter b t j s = ap (drop (length b)) (packet_shorter b t j s) ∙ drop_take (length b) j (packet_bytes b t s)

pub chain_to_later-shorter : (n j : ℕ) (s : List ℕ) → chain_to_later n (take j s) ≡ headers_within j (chain_to_later n s)
chain_to_later-shorter n j s = longest_shorter NothingAfterLater nothing_after_later n j s (chain_to_later n s) (chain_to_later n (take j s)) (chain_to_later-longest n s) (chain_to_later-longest n (take j s))

pub ipv6_shorter : (j : ℕ) (b s : List ℕ) → ipv6_chain b (take j s) ≡ headers_within (j - length b) (ipv6_chain b s)
ipv6_shorter j b s = ap (chain_to_later (ipv6_next_header b)) (after_shorter b (ipv6_stated b) j s) ∙ chain_to_later-shorter (ipv6_next_header b) (j - length b) (after_base b (ipv6_stated b) s)

chain_in-shorter : (j : ℕ) (b x : List ℕ) → ipv4_chain_in b (take j x) ≡ headers_within j (ipv4_chain_in b x)
chain_in-shorter j b x = search (rules, whole_header)

pub ipv4_shorter : (j : ℕ) (b s : List ℕ) → ipv4_chain b (take j s) ≡ headers_within (j - length b) (ipv4_chain b s)
ipv4_shorter j b s = ap (ipv4_chain_in b) (after_shorter b (ipv4_stated b) j s) ∙ chain_in-shorter (j - length b) b (after_base b (ipv4_stated b) s)

-- the headers are the longest chain of their own bytes
ipv6_again : (b s : List ℕ) → longest_chain (ipv6_next_header b) (bytes_of (ipv6_chain b s)) ≡ ipv6_chain b s
ipv6_again b s = longest_chain-bytes_of _ (ipv6_chain b s) (chain_to_later-longest _ _).has.0.chain

one_of : (b x : List ℕ) → AtMostOneOf 51 (ipv4_chain_in b x)
one_of b x = search (rules, ipv4_longest, (at_most_one_of 51).empty)

ipv4_again : (b s : List ℕ) → longest_ipv4_chain (protocol b) (bytes_of (ipv4_chain b s)) ≡ ipv4_chain b s
ipv4_again b s = search (rules, one_longest_under (AtMostOneOf 51) (at_most_one_of 51), ipv4_longest, whole_longest_under (AtMostOneOf 51) (at_most_one_of 51), ipv4_prefix, one_of)

-- so a parse of them from the base header's number returns the headers
pub ipv6_found : (s : List ℕ) (d : Dissection) (b : List ℕ) (n : ℕ) (c : List ExtHeader) → version_of d ≡ 6 → base_of d ≡ b → n ≡ ipv6_next_header b → c ≡ longest_chain n d.extensions.now → HasParts (dissected s) d → c ≡ (dissected s).headers
ipv6_found s d b n c six base ns cs h =
    let b' : List ℕ = take 40 s in
    let w : BeginIpv6 s b' = begin_ipv6 s (sym h.version ∙ six) in
    let same : b ≡ b' = cc (h.base, w.is) in
    let bytes : d.extensions.now ≡ bytes_of (ipv6_chain b' s) = cc (h.extensions, w.is) in
    cc (ipv6_again b' s)

pub ipv4_found : (s : List ℕ) (d : Dissection) (b : List ℕ) (n : ℕ) (c : List ExtHeader) → version_of d ≡ 4 → base_of d ≡ b → n ≡ protocol b → c ≡ longest_ipv4_chain n d.extensions.now → HasParts (dissected s) d → c ≡ (dissected s).headers
ipv4_found s d b n c four base ns cs h =
    let b' : List ℕ = take (ipv4_header_len s) s in
    let w : BeginIpv4 s b' = begin_ipv4 s (sym h.version ∙ four) in
    let same : b ≡ b' = cc (h.base, w.is) in
    let bytes : d.extensions.now ≡ bytes_of (ipv4_chain b' s) = cc (h.extensions, w.is) in
    cc (ipv4_again b' s)

-- they lie within the bytes that were parsed
pub found_within : (n : ℕ) (x y : List ℕ) (c : List ExtHeader) → bytes_of c ≡ y → c ≡ longest_chain n x → length y ≤ length x
found_within n x y c whole is = omega (arith, ap length whole, ap (λ d. length (bytes_of d)) is, prefix-length (bytes_of (longest_chain n x)) x (longest_chain-longest n x).has.prefix)
