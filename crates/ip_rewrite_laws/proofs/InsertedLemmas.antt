-- A header that is inserted before a fragment header.
use Rattle.ip_spec.proofs.Common.{◌≡◌, ℕ, zero, suc, ◌≤◌, List, [], ◌∷◌, ◌++◌, length, take, drop, refl, sym, ◌∙◌, ap, arith, common_steps, Bool, true, false, false≢true, ◌&&◌, ◌||◌, ◌==◌, not, nat_lt, if◌then◌else◌, is_empty, list_any, take-append-le, drop-append-le, append_assoc, None, ExtHeader}
use Rattle.std.proofs.lemmas.Bool.{or_parts}
use Rattle.std.proofs.lemmas.List.{set-set}
use Rattle.ip_dissect.specs.Dissection.{DissectedParts}
use Rattle.ip_dissect.specs.Fragment.{fragments, is_fragment_header}
use Rattle.ip_rewrite.specs.Headers.{is_options, number_of_first, leading_to, linked_headers}
use Rattle.ip_rewrite.specs.Insertion.{inserted, header_fault, insertion_fault, is_misplaced}
use Rattle.ip_rewrite.specs.Rewritten.{jumbo_fault, room_fault}
use Rattle.ip_rewrite.specs.Without.{packet_fault}
use Rattle.ip_rewrite.specs.declared.which.Authentication.{Authentication}
use Rattle.ip_rewrite.proofs.DissectLemmas.{none_first}
use Rattle.ip_rewrite.proofs.InsertionLemmas.{IsInserted, insertable}

pub inserted_append : (i : ℕ) (h : ExtHeader) (c d : List ExtHeader) → i ≤ length c → inserted i h (c ++ d) ≡ inserted i h c ++ d
inserted_append i h c d within =
    ap (λ y. y ++ h ∷ drop i (c ++ d)) (take-append-le i c d within)
    ∙ (ap (λ y. take i c ++ h ∷ y) (drop-append-le i c d within) ∙ sym (append_assoc (take i c) (h ∷ drop i c) d))

-- headers that are linked twice
pub linked_count : (k : ℕ) (c : List ExtHeader) → length (linked_headers k c) ≡ length c
linked_count k [] = refl
linked_count k (h ∷ c) = omega (arith, linked_count k c)

pub first_linked : (k m : ℕ) (c : List ExtHeader) → number_of_first (linked_headers k c) m ≡ number_of_first c m
first_linked k m [] = refl
first_linked k m (h ∷ c) = refl

pub led_twice : (h : ExtHeader) (x y z : ℕ) (c d : List ExtHeader) → x ≡ y → c ≡ d → leading_to x (leading_to z h) ∷ c ≡ leading_to y h ∷ d
led_twice h x y z c d e f =
    ap (λ (m : ℕ). leading_to m (leading_to z h) ∷ c) e
    ∙ (ap (λ (b : List ℕ). let g : ExtHeader = record { number = h.number; bytes = b } in g ∷ c) (set-set h.bytes 0 z y) ∙ ap (λ (x : List ExtHeader). leading_to y h ∷ x) f)

pub linked_again : (k m : ℕ) (c : List ExtHeader) → linked_headers m (linked_headers k c) ≡ linked_headers m c
linked_again k m [] = refl
linked_again k m (h ∷ c) =
    led_twice h (number_of_first (linked_headers k c) m) (number_of_first c m) (number_of_first c k) (linked_headers m (linked_headers k c)) (linked_headers m c) (first_linked k m c) (linked_again k m c)

-- and a header is inserted in between
pub first_inserted : (i k m : ℕ) (h : ExtHeader) (c : List ExtHeader) → number_of_first (inserted i h (linked_headers k c)) m ≡ number_of_first (inserted i h c) m
first_inserted zero k m h [] = refl
first_inserted zero k m h (g ∷ c) = refl
first_inserted (suc i) k m h [] = refl
first_inserted (suc i) k m h (g ∷ c) = refl

pub linked_inserted : (i k m : ℕ) (h : ExtHeader) (c : List ExtHeader) → linked_headers m (inserted i h (linked_headers k c)) ≡ linked_headers m (inserted i h c)
linked_inserted zero k m h [] = refl
linked_inserted zero k m h (g ∷ c) = ap (λ (e : List ExtHeader). leading_to g.number h ∷ e) (linked_again k m (g ∷ c))
linked_inserted (suc i) k m h [] = refl
linked_inserted (suc i) k m h (g ∷ c) =
    led_twice g (number_of_first (inserted i h (linked_headers k c)) m) (number_of_first (inserted i h c) m) (number_of_first c k) (linked_headers m (inserted i h (linked_headers k c))) (linked_headers m (inserted i h c))
    (first_inserted i k m h c) (linked_inserted i k m h c)

-- an insertion that is accepted
pub insertion : (a : Authentication) (i : ℕ) (h : ExtHeader) (p : DissectedParts) (room : ℕ) → insertion_fault a i h p room ≡ None → IsInserted i h p
insertion a i h p room e = insertable a i h p (none_first (header_fault a i h p) _ (none_first (packet_fault p) _ e).1).0

pub before_fragment : (i : ℕ) (c : List ExtHeader) (x : ExtHeader) (d : List ExtHeader) → fragments x ≡ true → list_any fragments (take i (c ++ x ∷ d)) ≡ false → i ≤ length c
before_fragment zero c x d own none = omega arith
before_fragment (suc i) [] x d own none = absurd (false≢true (sym (or_parts (fragments x) (list_any fragments (take i d)) none).0 ∙ own))
before_fragment (suc i) (g ∷ c) x d own none = omega (arith, before_fragment i c x d own (or_parts (fragments g) (list_any fragments (take i (c ++ x ∷ d))) none).1)

pub room_left : (a : Authentication) (i : ℕ) (h : ExtHeader) (p : DissectedParts) (room : ℕ) → insertion_fault a i h p room ≡ None → room_fault p (inserted i h p.headers) p.payload room ≡ None
room_left a i h p room e =
    let second = none_first (header_fault a i h p) _ (none_first (packet_fault p) _ e).1 in
    (none_first (jumbo_fault (is_fragment_header h) p) _ second.1).1

-- No hop-by-hop options follow another header.
misplaced : (a : Authentication) (i : ℕ) (h : ExtHeader) (p : DissectedParts) → header_fault a i h p ≡ None → is_misplaced i h p ≡ false
misplaced a i h p e = grind (arith, common_steps)

later_options : (a b : Bool) (i : ℕ) (x y : Bool) → (a || b || (if i == 0 then x else y)) ≡ false → (i ≡ 0 → ⊥) → y ≡ false
later_options a b i x y e later = grind (arith, common_steps)

pub not_options : (a : Authentication) (i : ℕ) (h : ExtHeader) (p : DissectedParts) → header_fault a i h p ≡ None → (i ≡ 0 → ⊥) → is_options h ≡ false
not_options a i h p e later =
    later_options (nat_lt (length p.headers) i) ((p.version == 4) && not (is_empty p.headers)) i (list_any is_options (take 1 p.headers)) (is_options h) (misplaced a i h p e) later
