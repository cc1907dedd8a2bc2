-- Reserved bits that are cleared before a fragment header.
use Rattle.ip_spec.proofs.Common.{◌≡◌, ℕ, ◌+◌, ◌*◌, ◌/◌, ◌%◌, List, [], ◌∷◌, ◌++◌, refl, sym, ◌∙◌, ap, inl, inr, arith, common_steps, Bool, true, false, cases_Bool, eq-eqb, ◌||◌, ◌&&◌, ◌==◌, if◌then◌else◌, list_any, map-append, slice_set, slice_index, get_or-set_other, None, cleared_header, cleared_chain, unreserved_bits, ExtHeader}
use Rattle.std.proofs.lemmas.Bool.{or_from, or_parts, not_from_true}
use Rattle.std.proofs.lemmas.List.{set_comm}
use Rattle.ip_spec.proofs.FragmentBitLemmas.{packed_reserved}
use Rattle.ip_dissect.specs.Dissection.{DissectedParts}
use Rattle.ip_dissect.specs.Fragment.{fragments}
use Rattle.ip_defragmenter_laws.specs.Ipv6.{fragment_header_bytes}
use Rattle.ip_rewrite.specs.Headers.{number_of_first, leading_to, linked_headers}
use Rattle.ip_rewrite.specs.Clearing.{has_reserved, reserved_fragmented, reserved_fault, clearing_fault}
use Rattle.ip_rewrite.specs.Without.{packet_fault}
use Rattle.ip_rewrite.specs.declared.which.Authentication.{Authentication}
use Rattle.ip_rewrite.proofs.DissectLemmas.{none_first}
use Rattle.ip_rewrite.proofs.ReservedLemmas.{unchanged}
use Rattle.ip_rewrite_laws.proofs.InsertedLemmas.{first_linked, led_twice}
use Rattle.ip_rewrite_laws.proofs.SelectionLemmas.{second_on}

-- The next header isn't reserved.
swapped : (n : ℕ) (b : List ℕ) (m : ℕ) → cleared_header n (slice_set b 0 m) ≡ slice_set (cleared_header n b) 0 m
swapped n b m = elim (cases_Bool (n == 44)) [
  | inl s ↦ rw s (
      ap (λ x. slice_set (slice_set (slice_set b 0 m) 1 0) 3 (unreserved_bits x)) (get_or-set_other b 0 3 m 0 (λ e. cc))
      ∙ (ap (λ x. slice_set x 3 (unreserved_bits (slice_index b 3))) (set_comm b 0 1 m 0 (λ e. cc))
      ∙ set_comm (slice_set b 1 0) 0 3 m (unreserved_bits (slice_index b 3)) (λ e. cc)))
  | inr s ↦ elim (cases_Bool (n == 51)) [
    | inl t ↦ rw (s, t) (ap (λ x. slice_set x 3 0) (set_comm b 0 2 m 0 (λ e. cc)) ∙ set_comm (slice_set b 2 0) 0 3 m 0 (λ e. cc))
    | inr t ↦ rw (s, t) refl
  ]
]

pub first_cleared : (m : ℕ) (c : List ExtHeader) → number_of_first (cleared_chain c) m ≡ number_of_first c m
first_cleared m [] = refl
first_cleared m (h ∷ c) = refl

pub first_led : (k m : ℕ) (c : List ExtHeader) → number_of_first (cleared_chain (linked_headers k c)) m ≡ number_of_first (cleared_chain c) m
first_led k m c = first_cleared m (linked_headers k c) ∙ (first_linked k m c ∙ sym (first_cleared m c))

pub linked_cleared : (k m : ℕ) (c : List ExtHeader) → linked_headers m (cleared_chain (linked_headers k c)) ≡ linked_headers m (cleared_chain c)
linked_cleared k m [] = refl
linked_cleared k m (h ∷ c) =
    let g : ExtHeader = record { number = h.number; bytes = cleared_header h.number h.bytes } in
    let x : ℕ = number_of_first (cleared_chain (linked_headers k c)) m in
    let d : List ExtHeader = linked_headers m (cleared_chain (linked_headers k c)) in
    ap (λ (b : List ℕ). let y : ExtHeader = record { number = h.number; bytes = b } in leading_to x y ∷ d) (swapped h.number h.bytes (number_of_first c k))
    ∙ led_twice g x (number_of_first (cleared_chain c) m) (number_of_first c k) d (linked_headers m (cleared_chain c)) (first_led k m c) (linked_cleared k m c)

pub cleared_append : (c d : List ExtHeader) → cleared_chain (c ++ d) ≡ cleared_chain c ++ cleared_chain d
cleared_append c d = map-append (λ (h : ExtHeader). let g : ExtHeader = record { number = h.number; bytes = cleared_header h.number h.bytes } in g) c d

-- No reserved bit is 1 in a fragment header that was made, or in what follows it.
none_reserved : (c : List ExtHeader) → reserved_fragmented true c ≡ false → list_any has_reserved c ≡ false
none_reserved [] e = refl
none_reserved (h ∷ c) e =
    let parts = or_parts (has_reserved h) (reserved_fragmented true c) e in
    or_from (has_reserved h) (list_any has_reserved c) parts.0 (none_reserved c parts.1)

after_it : (after : Bool) (c : List ExtHeader) (x : ExtHeader) (d : List ExtHeader) → fragments x ≡ true → reserved_fragmented after (c ++ x ∷ d) ≡ false → reserved_fragmented true d ≡ false
after_it after [] x d own e = ap (λ b. reserved_fragmented b d) (sym (second_on after (fragments x) own)) ∙ (or_parts (after && has_reserved x) (reserved_fragmented (after || fragments x) d) e).1
after_it after (h ∷ c) x d own e = after_it (after || fragments h) c x d own (or_parts (after && has_reserved h) (reserved_fragmented (after || fragments h) (c ++ x ∷ d)) e).1

made_reserved : (g start id : ℕ) (more : Bool) → start % 8 ≡ 0 → has_reserved (record { number = 44; bytes = fragment_header_bytes g start more id }) ≡ false
made_reserved g start id more units =
    let low : ℕ = start % 256 + (if more then 1 else 0) in
    let high : start / 8 % 32 * 8 ≡ start % 256 = omega (arith, units) in
    let same : unreserved_bits low ≡ low = ap (λ k. unreserved_bits (k + (if more then 1 else 0))) (sym high) ∙ (packed_reserved (start / 8) more ∙ ap (λ k. k + (if more then 1 else 0)) high) in
    not_from_true (unreserved_bits low == low) (eq-eqb (unreserved_bits low) low same)

pub later_stays : (c : List ExtHeader) (g start id : ℕ) (more : Bool) (d : List ExtHeader) → start % 8 ≡ 0 → (let x : ExtHeader = record { number = 44; bytes = fragment_header_bytes g start more id } in
    fragments x ≡ true → reserved_fragmented false (c ++ x ∷ d) ≡ false → cleared_chain (x ∷ d) ≡ x ∷ d)
later_stays c g start id more d units own e =
    let x : ExtHeader = record { number = 44; bytes = fragment_header_bytes g start more id } in
    let none : list_any has_reserved (x ∷ d) ≡ false = or_from (has_reserved x) (list_any has_reserved d) (made_reserved g start id more units) (none_reserved d (after_it false c x d own e)) in
    (unchanged (list_any has_reserved (x ∷ d)) (x ∷ d) refl).0 none

-- clearing that is accepted
unfragmented : (a : Authentication) (p : DissectedParts) → reserved_fault a p ≡ None → reserved_fragmented false p.headers ≡ false
unfragmented a p e = grind (arith, common_steps)

pub clearing : (a : Authentication) (p : DissectedParts) (room : ℕ) → clearing_fault a p room ≡ None → reserved_fragmented false p.headers ≡ false
clearing a p room e = unfragmented a p (none_first (reserved_fault a p) _ (none_first (packet_fault p) _ e).1).0
