-- IPv6 packets of which all stated bytes are there, without padding, with other headers.
use Rattle.ip_spec.proofs.Common.{◌≡◌, ℕ, ◌+◌, ◌≤◌, List, ◌++◌, length, drop, refl, sym, ◌∙◌, ap, arith, inr, true, cond-false, ne_eqb, is_some, ◌==◌, slice_set, slice_index, length-append, append_assoc, subst, drop-append_seam, Option, None, Some, AreLinked, ExtHeader, bytes_of, leads_to}
use Rattle.std.proofs.lemmas.Grind.{flat_map-append}
use Rattle.ip_base.specs.Checksum.{with_word}
use Rattle.ip_base.specs.Ipv6Header.{IsIpv6Header, payload_length, ipv6_next_header}
use Rattle.ip_spec.proofs.PrefixLemmas.{prefix-append, prefix_of-append}
use Rattle.ip_dissect.specs.Dissection.{DissectedParts, dissected, ipv6_dissected}
use Rattle.ip_dissect.specs.Extent.{after_base, ipv6_stated, packet_bytes}
use Rattle.ip_dissect.specs.Later.{chain_to_later}
use Rattle.ip_dissect.proofs.DissectedLemmas.{begun6}
use Rattle.ip_dissect.proofs.LaterLemmas.{chain_to_later-longest}
use Rattle.ip_rewrite.specs.Headers.{number_of_first, linked_headers}
use Rattle.ip_rewrite.specs.Jumbogram.{stating_at}
use Rattle.ip_rewrite.specs.Rewritten.{rewritten, joined}
use Rattle.ip_rewrite.specs.Writing.{front_with}
use Rattle.ip_rewrite.proofs.FrontLemmas.{first_is, linked_same}
use Rattle.ip_rewrite.proofs.Ipv6Lemmas.{all_stated}
use Rattle.ip_rewrite.proofs.JumbogramLemmas.{stated_no_jumbogram}
use Rattle.ip_rewrite.proofs.RestoringLemmas.{word_set}
use Rattle.ip_rewrite_laws.proofs.SelectionLemmas.{first_append, linked_append}

-- The packet p has this base header, and its headers, which are a chain, and payload are the bytes y.
pub record IsComplete (b y : List ℕ) (p : DissectedParts) : Type 0 where
  pub version : p.version ≡ 6
  pub base : p.base ≡ b
  pub stated : is_some p.stated ≡ true
  pub headers : p.headers ≡ chain_to_later (slice_index b 6) y
  pub links : AreLinked (slice_index b 6) p.headers
  pub number : p.number ≡ leads_to (slice_index b 6) p.headers
  pub bytes : bytes_of p.headers ++ p.payload ≡ y

module _ (s b y : List ℕ) (is : s ≡ b ++ y) (header : IsIpv6Header b) (stated : 40 + payload_length b ≡ length s) (some : 1 ≤ length y) where
  abbrev d : DissectedParts
  d = ipv6_dissected b s

  size : length s ≡ 40 + length y
  size = ap length is ∙ (length-append b y ∙ ap (λ k. k + length y) header.len)

  all : packet_bytes b (ipv6_stated b) s ≡ s
  all = all_stated b s (payload_length b) (40 + payload_length b) (omega (arith, size, header.len)) (inr stated)

  after : after_base b (ipv6_stated b) s ≡ y
  after = ap (drop (length b)) (all ∙ is) ∙ drop-append_seam b y

  is_stated : is_some (ipv6_stated b) ≡ true
  is_stated = ap is_some (cond-false (payload_length b == 0) None (Some (40 + payload_length b)) (ne_eqb (payload_length b) 0 (λ e. omega (arith, e, stated, size, some))))

  joined_bytes : bytes_of d.headers ++ d.payload ≡ y
  joined_bytes =
      let x : List ℕ = after_base b (ipv6_stated b) s in
      sym (prefix-append (bytes_of d.headers) x (chain_to_later-longest (ipv6_next_header b) x).has.0.prefix) ∙ after

  parts : IsComplete b y d
  parts = record {
    version = refl;
    base = refl;
    stated = is_stated;
    headers = ap (chain_to_later (slice_index b 6)) after;
    links = (chain_to_later-longest (ipv6_next_header b) (after_base b (ipv6_stated b) s)).has.0.chain.links;
    number = refl;
    bytes = joined_bytes;
  }

  pub complete : IsComplete b y (dissected s)
  complete = subst (IsComplete b y) (sym (begun6 s b header (prefix_of-append b y s is))) parts

-- what is written of a packet that states its length
rewritten6 : (p : DissectedParts) (c : List ExtHeader) (m : ℕ) (q : List ℕ) → p.version ≡ 6 → is_some p.stated ≡ true
    → rewritten p c m q ≡ with_word (slice_set p.base 6 (number_of_first c m)) 4 (length (bytes_of c) + length q) ++ bytes_of (linked_headers m c) ++ q
rewritten6 p c m q six stated =
    ap (λ (o : Option ℕ). joined p (stating_at o (length (bytes_of c) + length q) c) m q) (stated_no_jumbogram p stated) ∙ base p.version p.stated six stated
  where
    base : (v : ℕ) (o : Option ℕ) → v ≡ 6 → is_some o ≡ true → joined (record p { version = v; stated = o }) c m q
        ≡ with_word (slice_set p.base 6 (number_of_first c m)) 4 (length (bytes_of c) + length q) ++ bytes_of (linked_headers m c) ++ q
    base v o e f = rw (e, f) refl

-- New headers c before headers d that are linked already, the first of which has the number g, and the payload: all bytes from d
-- on are x.
pub rewritten_front : (p : DissectedParts) (c d : List ExtHeader) (g : ℕ) (x : List ℕ) → p.version ≡ 6 → is_some p.stated ≡ true → AreLinked g d → p.number ≡ leads_to g d → bytes_of d ++ p.payload ≡ x
    → rewritten p (c ++ d) p.number p.payload ≡ front_with 6 (with_word p.base 4 (length (bytes_of c) + length x)) c g ++ x
rewritten_front p c d g x six stated links number bytes =
    let m : ℕ = p.number in
    let q : List ℕ = p.payload in
    let first : number_of_first d m ≡ g = ap (number_of_first d) number ∙ first_is g d links in
    let same : linked_headers m d ≡ d = ap (λ k. linked_headers k d) number ∙ linked_same g d links in
    let chain : linked_headers m (c ++ d) ≡ linked_headers g c ++ d =
    linked_append c d m ∙ (ap (λ k. linked_headers k c ++ linked_headers m d) first ∙ ap (λ e. linked_headers g c ++ e) same) in
    let name : number_of_first (c ++ d) m ≡ number_of_first c g = first_append c d m ∙ ap (number_of_first c) first in
    let both : bytes_of (c ++ d) ≡ bytes_of c ++ bytes_of d = flat_map-append (λ (h : ExtHeader). h.bytes) c d in
    let size : length (bytes_of (c ++ d)) + length q ≡ length (bytes_of c) + length x =
    omega (arith, ap length both, length-append (bytes_of c) (bytes_of d), ap length bytes, length-append (bytes_of d) q) in
    let base : with_word (slice_set p.base 6 (number_of_first (c ++ d) m)) 4 (length (bytes_of (c ++ d)) + length q) ≡ slice_set (with_word p.base 4 (length (bytes_of c) + length x)) 6 (number_of_first c g) =
    ap (λ k. with_word (slice_set p.base 6 k) 4 (length (bytes_of (c ++ d)) + length q)) name
    ∙ (ap (with_word (slice_set p.base 6 (number_of_first c g)) 4) size
    ∙ sym (word_set p.base 4 (length (bytes_of c) + length x) 6 (number_of_first c g) (λ e. omega (arith, e)) (λ e. omega (arith, e)))) in
    let front : List ℕ = slice_set (with_word p.base 4 (length (bytes_of c) + length x)) 6 (number_of_first c g) in
    rewritten6 p (c ++ d) m q six stated
    ∙ (ap (λ y. y ++ bytes_of (linked_headers m (c ++ d)) ++ q) base
    ∙ (ap (λ e. front ++ bytes_of e ++ q) chain
    ∙ (ap (λ y. front ++ y ++ q) (flat_map-append (λ (h : ExtHeader). h.bytes) (linked_headers g c) d)
    ∙ (ap (λ y. y ++ q) (sym (append_assoc front (bytes_of (linked_headers g c)) (bytes_of d)))
    ∙ (append_assoc (front ++ bytes_of (linked_headers g c)) (bytes_of d) q ∙ ap (λ y. front ++ bytes_of (linked_headers g c) ++ y) bytes)))))
