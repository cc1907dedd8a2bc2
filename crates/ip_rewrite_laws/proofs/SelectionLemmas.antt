-- Headers that are selected before a fragment header, and headers that are linked anew.
use Rattle.ip_spec.proofs.Common.{◌≡◌, ℕ, ◌+◌, List, [], ◌∷◌, ◌++◌, length, refl, sym, ◌∙◌, ap, arith, common_steps, None, Bool, true, false, false≢true, cond-false, ◌||◌, ◌&&◌, if◌then◌else◌, slice_set, ExtHeader, bytes_of}
use Rattle.std.proofs.lemmas.Bool.{or_parts}
use Rattle.std.proofs.lemmas.List.{set-set}
use Rattle.ip_dissect.specs.Dissection.{DissectedParts}
use Rattle.ip_dissect.specs.Fragment.{fragments}
use Rattle.ip_rewrite.specs.Headers.{number_of_first, leading_to, linked_headers}
use Rattle.ip_rewrite.specs.Selection.{selects, kept_from, any_selected, selects_fragmented}
use Rattle.ip_rewrite.specs.Without.{packet_fault, selection_fault, without_fault}
use Rattle.ip_rewrite.specs.declared.which.Authentication.{Authentication}
use Rattle.ip_rewrite.specs.declared.which.Which.{Which}
use Rattle.ip_rewrite.specs.declared.which.Which.TheVariants.{Index, Number, Headers}
use Rattle.ip_rewrite.proofs.DissectLemmas.{none_first}
use Rattle.ip_rewrite.proofs.FrontLemmas.{joined_len}

first_off : (x y : Bool) → (x && y) ≡ false → y ≡ true → x ≡ false
first_off true y e own = absurd (false≢true (sym e ∙ own))
first_off false y e own = refl

pub second_on : (x y : Bool) → y ≡ true → (x || y) ≡ true
second_on true y own = refl
second_on false y own = own

-- What follows a fragment header isn't selected.
none_kept : (w : Which) (i : ℕ) (c : List ExtHeader) → selects_fragmented w i true c ≡ false → kept_from w i c ≡ c
none_kept w i [] e = refl
none_kept w i (h ∷ c) e =
    let parts = or_parts (selects w i h) (selects_fragmented w (i + 1) true c) e in
    cond-false (selects w i h) (kept_from w (i + 1) c) (h ∷ kept_from w (i + 1) c) parts.0 ∙ ap (λ d. h ∷ d) (none_kept w (i + 1) c parts.1)

pub kept_before : (w : Which) (i : ℕ) (after : Bool) (c : List ExtHeader) (x : ExtHeader) (rest : List ExtHeader) → fragments x ≡ true
    → any_selected fragments w i (c ++ x ∷ rest) ≡ false → selects_fragmented w i after (c ++ x ∷ rest) ≡ false → kept_from w i (c ++ x ∷ rest) ≡ kept_from w i c ++ x ∷ rest
kept_before w i after [] x rest own none free =
    let first = or_parts (selects w i x && fragments x) (any_selected fragments w (i + 1) rest) none in
    let later = or_parts (after && selects w i x) (selects_fragmented w (i + 1) (after || fragments x) rest) free in
    let fragmented : selects_fragmented w (i + 1) true rest ≡ false = ap (λ b. selects_fragmented w (i + 1) b rest) (sym (second_on after (fragments x) own)) ∙ later.1 in
    cond-false (selects w i x) (kept_from w (i + 1) rest) (x ∷ kept_from w (i + 1) rest) (first_off (selects w i x) (fragments x) first.0 own) ∙ ap (λ d. x ∷ d) (none_kept w (i + 1) rest fragmented)
kept_before w i after (h ∷ c) x rest own none free =
    let first = or_parts (selects w i h && fragments h) (any_selected fragments w (i + 1) (c ++ x ∷ rest)) none in
    let later = or_parts (after && selects w i h) (selects_fragmented w (i + 1) (after || fragments h) (c ++ x ∷ rest)) free in
    pick (selects w i h) (kept_before w (i + 1) (after || fragments h) c x rest own first.1 later.1)
  where
    pick : (b : Bool) → kept_from w (i + 1) (c ++ x ∷ rest) ≡ kept_from w (i + 1) c ++ x ∷ rest
        → (if b then kept_from w (i + 1) (c ++ x ∷ rest) else h ∷ kept_from w (i + 1) (c ++ x ∷ rest)) ≡ (if b then kept_from w (i + 1) c else h ∷ kept_from w (i + 1) c) ++ x ∷ rest
    pick true e = e
    pick false e = ap (λ d. h ∷ d) e

-- Whether a header is selected doesn't depend on its bytes.
selects_same : (w : Which) (i : ℕ) (h : ExtHeader) (b : List ℕ) → selects w i (record { number = h.number; bytes = b }) ≡ selects w i h
selects_same (Index j) i h b = refl
selects_same (Number n) i h b = refl
selects_same (Headers s) i h b = refl

pub first_kept : (w : Which) (i k m : ℕ) (c : List ExtHeader) → number_of_first (kept_from w i (linked_headers k c)) m ≡ number_of_first (kept_from w i c) m
first_kept w i k m [] = refl
first_kept w i k m (h ∷ c) =
    let g : ExtHeader = leading_to (number_of_first c k) h in
    let d : List ExtHeader = kept_from w (i + 1) (linked_headers k c) in
    ap (λ (b : Bool). number_of_first (if b then d else g ∷ d) m) (selects_same w i h (slice_set h.bytes 0 (number_of_first c k))) ∙ pick (selects w i h) (first_kept w (i + 1) k m c)
  where
    pick : (b : Bool) → number_of_first (kept_from w (i + 1) (linked_headers k c)) m ≡ number_of_first (kept_from w (i + 1) c) m
        → number_of_first (if b then kept_from w (i + 1) (linked_headers k c) else leading_to (number_of_first c k) h ∷ kept_from w (i + 1) (linked_headers k c)) m
        ≡ number_of_first (if b then kept_from w (i + 1) c else h ∷ kept_from w (i + 1) c) m
    pick true e = e
    pick false e = refl

-- Headers that are linked before a selection and after it
pub linked_kept : (w : Which) (i k m : ℕ) (c : List ExtHeader) → linked_headers m (kept_from w i (linked_headers k c)) ≡ linked_headers m (kept_from w i c)
linked_kept w i k m [] = refl
linked_kept w i k m (h ∷ c) =
    let g : ExtHeader = leading_to (number_of_first c k) h in
    let d : List ExtHeader = kept_from w (i + 1) (linked_headers k c) in
    ap (λ (b : Bool). linked_headers m (if b then d else g ∷ d)) (selects_same w i h (slice_set h.bytes 0 (number_of_first c k))) ∙ pick (selects w i h) (linked_kept w (i + 1) k m c)
  where
    pick : (b : Bool) → linked_headers m (kept_from w (i + 1) (linked_headers k c)) ≡ linked_headers m (kept_from w (i + 1) c)
        → linked_headers m (if b then kept_from w (i + 1) (linked_headers k c) else leading_to (number_of_first c k) h ∷ kept_from w (i + 1) (linked_headers k c))
        ≡ linked_headers m (if b then kept_from w (i + 1) c else h ∷ kept_from w (i + 1) c)
    pick true e = e
    pick false e =
        let j : ℕ = number_of_first c k in
        let d : List ExtHeader = linked_headers m (kept_from w (i + 1) (linked_headers k c)) in
        let n : ℕ = number_of_first (kept_from w (i + 1) c) m in
        ap (λ (y : ℕ). leading_to y (leading_to j h) ∷ d) (first_kept w (i + 1) k m c)
        ∙ (ap (λ (b : List ℕ). let g : ExtHeader = record { number = h.number; bytes = b } in g ∷ d) (set-set h.bytes 0 j n) ∙ ap (λ (y : List ExtHeader). leading_to n h ∷ y) e)

pub kept_len : (w : Which) (i k : ℕ) (c : List ExtHeader) → length (bytes_of (kept_from w i (linked_headers k c))) ≡ length (bytes_of (kept_from w i c))
kept_len w i k c = sym (joined_len (kept_from w i (linked_headers k c)) 0) ∙ (ap (λ d. length (bytes_of d)) (linked_kept w i k 0 c) ∙ joined_len (kept_from w i c) 0)

-- headers before others
pub first_append : (c d : List ExtHeader) (m : ℕ) → number_of_first (c ++ d) m ≡ number_of_first c (number_of_first d m)
first_append [] d m = refl
first_append (h ∷ c) d m = refl

pub linked_append : (c d : List ExtHeader) (m : ℕ) → linked_headers m (c ++ d) ≡ linked_headers (number_of_first d m) c ++ linked_headers m d
linked_append [] d m = refl
linked_append (h ∷ c) d m =
    ap (λ (y : ℕ). leading_to y h ∷ linked_headers m (c ++ d)) (first_append c d m) ∙ ap (λ (x : List ExtHeader). leading_to (number_of_first c (number_of_first d m)) h ∷ x) (linked_append c d m)

-- what is known of a selection that is accepted
pub record IsFree (w : Which) (p : DissectedParts) : Type 0 where
  pub alone : any_selected fragments w 0 p.headers ≡ false
  pub unfragmented : selects_fragmented w 0 false p.headers ≡ false

selection_free : (w : Which) (a : Authentication) (p : DissectedParts) → selection_fault w a p ≡ None → IsFree w p
selection_free w a p e = record { alone = grind (arith, common_steps); unfragmented = grind (arith, common_steps) }

pub free : (w : Which) (a : Authentication) (p : DissectedParts) (room : ℕ) → without_fault w a p room ≡ None → IsFree w p
free w a p room e = selection_free w a p (none_first (selection_fault w a p) _ (none_first (packet_fault p) _ e).1).0
