-- A packet with cleared reserved bits.
use Rattle.ip_spec.proofs.Common.{◌≡◌, ℕ, ◌≤◌, List, [], ◌∷◌, ◌++◌, length, drop, inl, inr, refl, sym, ◌∙◌, ap, arith, and_assoc, Bool, cases_Bool, eqb-true, or-false, or_assoc, ◌&&◌, ◌||◌, ◌==◌, list_any, slice_set, slice_index, length-append, length-set, get_or-set_other, get_or-set_same, get_or_append_left, AllByRecursion, bit_and, Option, None, Some, IsHeader, cleared_header, cleared_chain, unreserved_bits, ExtHeader, bytes_of}
use Rattle.std.proofs.lemmas.List.{set-append_left}
use Rattle.ip_spec.proofs.ClearedLemmas.{cleared_same}
use Rattle.ip_spec.proofs.HeaderLemmas.{header-least}
use Rattle.ip_dissect.specs.LaterDemand.{is_later, has_later, NothingAfterLater}
use Rattle.ip_dissect.specs.Fragment.{fragments}
use Rattle.ip_dissect.specs.Dissection.{DissectedParts, dissected}
use Rattle.ip_dissect.specs.Summary.{IsBaseOf, is_later_end}
use Rattle.ip_dissect.specs.declared.dissection.BaseHeader.{BaseHeader}
use Rattle.ip_rewrite.specs.Jumbogram.{jumbo_offset}
use Rattle.ip_rewrite.specs.Rewritten.{rewritten, rewritten_parts}
use Rattle.ip_rewrite.specs.Without.{is_authentication, packet_fault}
use Rattle.ip_rewrite.specs.Clearing.{has_reserved, reserved_fragmented, reserved_covered, reserved_fault, clearing_fault}
use Rattle.ip_rewrite.specs.Writing.{HasOption, link_of}
use Rattle.ip_rewrite.specs.declared.which.Authentication.{Authentication}
use Rattle.ip_rewrite.proofs.ChainLemmas.{AreHeaders, NoZero}
use Rattle.ip_rewrite.proofs.JumbogramLemmas.{has_option}
use Rattle.ip_rewrite.proofs.DissectLemmas.{none_first, whole_chain, CanFollow, as_is, changed}

-- one more header
pub reserved_more : (after : Bool) (c : List ExtHeader) (h : ExtHeader) → reserved_fragmented after (c ++ h ∷ []) ≡ (reserved_fragmented after c || (after || list_any fragments c) && has_reserved h)
reserved_more after [] h = or-false (after && has_reserved h) ∙ ap (λ b. b && has_reserved h) (sym (or-false after))
reserved_more after (g ∷ c) h =
    let mine : Bool = after && has_reserved g in
    let later : Bool = reserved_fragmented (after || fragments g) c in
    ap (λ x. mine || x) (reserved_more (after || fragments g) c h)
    ∙ (sym (or_assoc mine later (((after || fragments g) || list_any fragments c) && has_reserved h))
    ∙ ap (λ b. (mine || later) || b && has_reserved h) (or_assoc after (fragments g) (list_any fragments c)))

pub covered_more : (after : Bool) (c : List ExtHeader) (h : ExtHeader) → reserved_covered after (c ++ h ∷ []) ≡ (reserved_covered after c || ((after || list_any is_authentication c) || is_authentication h) && has_reserved h)
covered_more after [] h = or-false ((after || is_authentication h) && has_reserved h) ∙ ap (λ b. (b || is_authentication h) && has_reserved h) (sym (or-false after))
covered_more after (g ∷ c) h =
    let mine : Bool = (after || is_authentication g) && has_reserved g in
    let later : Bool = reserved_covered (after || is_authentication g) c in
    ap (λ x. mine || x) (covered_more (after || is_authentication g) c h)
    ∙ (sym (or_assoc mine later ((((after || is_authentication g) || list_any is_authentication c) || is_authentication h) && has_reserved h))
    ∙ ap (λ b. (mine || later) || (b || is_authentication h) && has_reserved h) (or_assoc after (is_authentication g) (list_any is_authentication c)))

-- the header at the start of bytes
pub cleared_start : (n : ℕ) (b r : List ℕ) → 4 ≤ length b → cleared_header n (b ++ r) ≡ cleared_header n b ++ r
cleared_start n b r least = elim (cases_Bool (n == 44)) [
  | inl s ↦ rw s (
      ap (λ x. slice_set x 3 (unreserved_bits (slice_index (b ++ r) 3))) (set-append_left b r 1 0 (omega (arith, least)))
      ∙ (ap (λ x. slice_set (slice_set b 1 0 ++ r) 3 (unreserved_bits x)) (get_or_append_left b r 0 3 (omega (arith, least)))
      ∙ set-append_left (slice_set b 1 0) r 3 (unreserved_bits (slice_index b 3)) (omega (arith, least, length-set b 1 0))))
  | inr s ↦ elim (cases_Bool (n == 51)) [
    | inl t ↦ rw (s, t) (
        ap (λ x. slice_set x 3 0) (set-append_left b r 2 0 (omega (arith, least)))
        ∙ set-append_left (slice_set b 2 0) r 3 0 (omega (arith, least, length-set b 2 0)))
    | inr t ↦ rw (s, t) refl
  ]
]

-- what clearing leaves unchanged
header_len : (n : ℕ) (b : List ℕ) → length (cleared_header n b) ≡ length b
header_len n b = elim (cases_Bool (n == 44)) [
  | inl s ↦ rw s (length-set (slice_set b 1 0) 3 (unreserved_bits (slice_index b 3)) ∙ length-set b 1 0)
  | inr s ↦ elim (cases_Bool (n == 51)) [
    | inl t ↦ rw (s, t) (length-set (slice_set b 2 0) 3 0 ∙ length-set b 2 0)
    | inr t ↦ rw (s, t) refl
  ]
]

pub cleared_len : (c : List ExtHeader) → length (bytes_of (cleared_chain c)) ≡ length (bytes_of c)
cleared_len [] = refl
cleared_len (h ∷ c) = omega (arith, cleared_len c, header_len h.number h.bytes, length-append (cleared_header h.number h.bytes) (bytes_of (cleared_chain c)), length-append h.bytes (bytes_of c))

link_cleared : (l k : ℕ) (b d : List ℕ) (c : List ExtHeader) → length d ≡ length b → l ≡ k → link_of l d (cleared_chain c) ≡ link_of k b c
link_cleared l k b d [] size same = same
link_cleared l k b d (h ∷ c) size same = omega (arith, size, link_cleared 0 0 h.bytes (cleared_header h.number h.bytes) c (header_len h.number h.bytes) refl)

pub cleared_link : (l : ℕ) (b : List ℕ) (c : List ExtHeader) → link_of l b (cleared_chain c) ≡ link_of l b c
cleared_link l b c = link_cleared l l b b c refl refl

high_bits : (x : ℕ) → bit_and (unreserved_bits x) 0xf8 ≡ bit_and x 0xf8
high_bits x = and_assoc 0xf8 x 0xf9

pub later_same : (h : ExtHeader) → IsHeader h.number h.bytes → is_later (record { number = h.number; bytes = cleared_header h.number h.bytes }) ≡ is_later h
later_same h x = elim (cases_Bool (h.number == 44)) [
  | inl s ↦ rw s (fields h.bytes (header-least h.number h.bytes x))
  | inr s ↦ rw s refl
]
  where
    fields : (b : List ℕ) → 8 ≤ length b → is_later (record { number = 44; bytes = slice_set (slice_set b 1 0) 3 (unreserved_bits (slice_index b 3)) }) ≡ is_later (record { number = 44; bytes = b })
    fields b least =
        let d : List ℕ = slice_set (slice_set b 1 0) 3 (unreserved_bits (slice_index b 3)) in
        let high : slice_index d 2 ≡ slice_index b 2 = get_or-set_other (slice_set b 1 0) 3 2 (unreserved_bits (slice_index b 3)) 0 (λ e. cc) ∙ get_or-set_other b 1 2 0 0 (λ e. cc) in
        let low : slice_index d 3 ≡ unreserved_bits (slice_index b 3) = get_or-set_same (slice_set b 1 0) 3 (unreserved_bits (slice_index b 3)) 0 (omega (arith, least, length-set b 1 0)) in
        rw (high, low, high_bits (slice_index b 3)) refl

later_cleared : (c : List ExtHeader) → AreHeaders c → has_later (cleared_chain c) ≡ has_later c
later_cleared [] a = refl
later_cleared (h ∷ c) a = ap (λ b. b || has_later (cleared_chain c)) (later_same h a.0) ∙ ap (λ b. is_later h || b) (later_cleared c a.1)

demand_cleared : (c : List ExtHeader) → AreHeaders c → NothingAfterLater c → NothingAfterLater (cleared_chain c)
demand_cleared [] a q = tt
demand_cleared (h ∷ c) a q = (λ t. ap cleared_chain (q.0 (sym (later_same h a.0) ∙ t)), demand_cleared c a.1 q.1)

pub cleared_count : (c : List ExtHeader) → length (cleared_chain c) ≡ length c
cleared_count [] = refl
cleared_count (h ∷ c) = omega (arith, cleared_count c)

cleared_numbers : (k : ℕ) (c : List ExtHeader) → AllByRecursion (λ h. h.number ≡ k) c → AllByRecursion (λ h. h.number ≡ k) (cleared_chain c)
cleared_numbers k [] a = tt
cleared_numbers k (h ∷ c) a = (a.0, cleared_numbers k c a.1)

pub has_cleared : (o : Option ℕ) (c : List ExtHeader) → HasOption o c → HasOption o (cleared_chain c)
has_cleared None c a = tt
has_cleared (Some k) [] a = a
has_cleared (Some k) (h ∷ c) a = (a.0, a.1, rw (eqb-true h.number 0 a.0) a.2)

headers_cleared : (c : List ExtHeader) → AreHeaders c → AreHeaders (cleared_chain c)
headers_cleared [] a = tt
headers_cleared (h ∷ c) a = ((cleared_same h.bytes h.number a.0).header, headers_cleared c a.1)

no_zero_cleared : (c : List ExtHeader) → NoZero c → NoZero (cleared_chain c)
no_zero_cleared [] a = tt
no_zero_cleared (h ∷ c) a = (a.0, no_zero_cleared c a.1)

zero_cleared : (c : List ExtHeader) → NoZero (drop 1 c) → NoZero (drop 1 (cleared_chain c))
zero_cleared [] a = tt
zero_cleared (h ∷ c) a = no_zero_cleared c a

pub follow_cleared : (v : ℕ) (l : Bool) (c : List ExtHeader) (m : ℕ) → CanFollow v l c m → CanFollow v l (cleared_chain c) m
follow_cleared v l c m f = record {
  headers = headers_cleared c f.headers;
  zero = zero_cleared c f.zero;
  later = later_cleared c f.headers ∙ f.later;
  demand = demand_cleared c f.headers f.demand;
  ipv6 = f.ipv6;
  ipv4 = λ four. record { one = omega (arith, (f.ipv4 four).one, cleared_count c); number = cleared_numbers 51 c (f.ipv4 four).number };
  last = λ four n. omega (arith, f.last four n, cleared_count c);
}

pub clearing_dissects : (a : Authentication) (room : ℕ) (s : List ℕ) (o : Option BaseHeader) → IsBaseOf s o → clearing_fault a (dissected s) room ≡ None
    → dissected (rewritten (dissected s) (cleared_chain (dissected s).headers) (dissected s).number (dissected s).payload) ≡ rewritten_parts (dissected s) (cleared_chain (dissected s).headers) (dissected s).number (dissected s).payload
clearing_dissects a room s o is e =
    let p : DissectedParts = dissected s in
    let first = none_first (packet_fault p) _ e in
    let second = none_first (reserved_fault a p) _ first.1 in
    changed (cleared_chain p.headers) p.number p.payload room s o is first.0 (follow_cleared p.version (is_later_end p.end) p.headers p.number (as_is p (whole_chain s o is first.0))) (has_cleared (jumbo_offset p) p.headers (has_option p)) second.1
