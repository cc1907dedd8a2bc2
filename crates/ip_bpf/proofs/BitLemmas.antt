-- Bits of the words that are marked.
use Rattle.std.proofs.Common.{◌≡◌, ◌≢◌, ◌⊎◌, ◌↔◌, ℕ, ◌+◌, ◌*◌, ◌%◌, ◌^◌, ◌<◌, max, Bool, true, false, cond, eqb, inl, inr, List, length, get_or, set, bit_and, bit_or, sym, ap, subst, ◌∙◌, arith, get_or-set_same, get_or-set_other, w16}
use Rattle.std.proofs.lemmas.List.{length-set}
use Rattle.std.proofs.lemmas.Nat.Bits.{bit_at_or, bit_at-lt, bit_at-zero, bit_at_ones, bit_at_clear_same, bit_at_clear_other}
use Rattle.std.proofs.lemmas.Bool.{cases_eq, eq-eqb, ne_eqb}
use Rattle.std.specs.Int.{bit_at, bit_not}
use Rattle.std.specs.Prelude.{Option, Some}
use mir.Val.{bits}

one_of : (a b : ℕ) → a < 2 → b < 2 → max a b ≡ 1 → (a ≡ 1) ⊎ (b ≡ 1)
one_of a b la lb h = elim (cases_eq a 1) [ inl one ↦ inl one | inr other ↦ inr (omega arith) ]

either : (n a b p place : ℕ) → a < 2 → b < 2 → n ≡ max a b → p ≡ place → (n ≡ 1) ↔ ((a ≡ 1) ⊎ ((b ≡ 1) × (p ≡ place)))
either n a b p place la lb e same = (
  λ h. elim (one_of a b la lb (sym e ∙ h)) [ inl one ↦ inl one | inr one ↦ inr (one, same) ],
  λ h. elim h [ inl one ↦ omega arith | inr one ↦ let o : b ≡ 1 = one.0 in omega arith ],
)

-- a mark at a place
pub marked_once : (words : List ℕ) (place mark p k : ℕ) → p < length words → (bit_at (get_or (set words place (bit_or (get_or words place 0) mark)) p 0) k ≡ 1) ↔ ((bit_at (get_or words p 0) k ≡ 1) ⊎ ((bit_at mark k ≡ 1) × (p ≡ place)))
marked_once words place mark p k less = elim (cases_eq p place) [
  | inl same ↦
      let within : place < length words = omega arith in
      let there : get_or (set words place (bit_or (get_or words place 0) mark)) p 0 ≡ bit_or (get_or words p 0) mark =
      ap (λ (q : ℕ). get_or (set words place (bit_or (get_or words place 0) mark)) q 0) same
      ∙ get_or-set_same words place (bit_or (get_or words place 0) mark) 0 within
      ∙ ap (λ (q : ℕ). bit_or (get_or words q 0) mark) (sym same) in
      let bits : bit_at (get_or (set words place (bit_or (get_or words place 0) mark)) p 0) k ≡ max (bit_at (get_or words p 0) k) (bit_at mark k) =
      ap (λ (n : ℕ). bit_at n k) there ∙ bit_at_or (get_or words p 0) mark k in
      either (bit_at (get_or (set words place (bit_or (get_or words place 0) mark)) p 0) k) (bit_at (get_or words p 0) k) (bit_at mark k) p place (bit_at-lt (get_or words p 0) k) (bit_at-lt mark k) bits same
  | inr other ↦
      let there : bit_at (get_or (set words place (bit_or (get_or words place 0) mark)) p 0) k ≡ bit_at (get_or words p 0) k =
      ap (λ (n : ℕ). bit_at n k) (get_or-set_other words place p (bit_or (get_or words place 0) mark) 0 other) in
      (λ h. inl (sym there ∙ h), λ h. elim h [ inl old ↦ there ∙ old | inr new ↦ absurd (other new.1) ])
]

-- the marks of both ways of an operation
pub marked_twice : (words once twice : List ℕ) (first second mark p k : ℕ) → once ≡ set words first (bit_or (get_or words first 0) mark) → twice ≡ set once second (bit_or (get_or once second 0) mark) → p < length words
    → (bit_at (get_or twice p 0) k ≡ 1) ↔ ((bit_at (get_or words p 0) k ≡ 1) ⊎ ((bit_at mark k ≡ 1) × ((p ≡ first) ⊎ (p ≡ second))))
marked_twice words once twice first second mark p k e f less =
    let within : p < length once = omega (arith, ap length e, length-set words first (bit_or (get_or words first 0) mark)) in
    let one : (bit_at (get_or once p 0) k ≡ 1) ↔ ((bit_at (get_or words p 0) k ≡ 1) ⊎ ((bit_at mark k ≡ 1) × (p ≡ first))) =
    subst (λ (w : List ℕ). (bit_at (get_or w p 0) k ≡ 1) ↔ ((bit_at (get_or words p 0) k ≡ 1) ⊎ ((bit_at mark k ≡ 1) × (p ≡ first)))) (sym e) (marked_once words first mark p k less) in
    let two : (bit_at (get_or twice p 0) k ≡ 1) ↔ ((bit_at (get_or once p 0) k ≡ 1) ⊎ ((bit_at mark k ≡ 1) × (p ≡ second))) =
    subst (λ (w : List ℕ). (bit_at (get_or w p 0) k ≡ 1) ↔ ((bit_at (get_or once p 0) k ≡ 1) ⊎ ((bit_at mark k ≡ 1) × (p ≡ second)))) (sym f) (marked_once once second mark p k within) in (
      λ h. elim (two.0 h) [
        | inl old ↦ elim (one.0 old) [ inl older ↦ inl older | inr new ↦ inr (new.0, inl new.1) ]
        | inr new ↦ inr (new.0, inr new.1)
      ],
      λ h. elim h [
        | inl old ↦ two.1 (inl (one.1 (inl old)))
        | inr new ↦ elim new.1 [
          | inl e ↦ two.1 (inl (one.1 (inr (new.0, e))))
          | inr e ↦ two.1 (inr (new.0, e))
        ]
      ],
    )

-- the words without one of them
pub cleared : (words k j : ℕ) (stored : Option ℕ) → k < 16 → j < 16 → stored ≡ Some k → (bit_at (bit_and words (bit_not w16 (1 * 2 ^ k % 2 ^ bits w16))) j ≡ 1) ↔ ((bit_at words j ≡ 1) × (stored ≢ Some j))
cleared words k j stored lk lj e = elim (cases_eq j k) [
  | inl same ↦
      let zero_there : bit_at (bit_and words (bit_not w16 (1 * 2 ^ k % 2 ^ bits w16))) j ≡ 0 =
      ap (λ (i : ℕ). bit_at (bit_and words (bit_not w16 (1 * 2 ^ k % 2 ^ bits w16))) i) same ∙ bit_at_clear_same w16 words k lk in
      (λ h. absurd (omega arith), λ h. absurd (h.1 (e ∙ ap Some (sym same))))
  | inr other ↦
      let there : bit_at (bit_and words (bit_not w16 (1 * 2 ^ k % 2 ^ bits w16))) j ≡ bit_at words j = bit_at_clear_other w16 words k lk j lj other in
      (λ h. (sym there ∙ h, λ s. let x : Some k ≡ Some j = sym e ∙ s in let same : k ≡ j = cc in other (sym same)), λ h. there ∙ h.0)
]

-- whether the words are marked before the first instruction
abbrev pub first_mark : ℕ → ℕ
first_mark p = cond (eqb p 0) 1 0

pub all_first : (p k : ℕ) → p ≡ 0 → k < 16 → bit_at 65535 k ≡ first_mark p
all_first p k e small = bit_at_ones 16 k small ∙ ap (λ (b : Bool). cond b 1 0) (sym (eq-eqb p 0 e))

pub none_later : (p k : ℕ) → (p ≡ 0 → ⊥) → bit_at 0 k ≡ first_mark p
none_later p k ne = bit_at-zero k ∙ ap (λ (b : Bool). cond b 1 0) (sym (ne_eqb p 0 ne))

-- one more place is marked
pub start_more : (words : List ℕ) (place word p k : ℕ) → place < length words → p < place + 1 → bit_at word k ≡ first_mark place → ((q : ℕ) → q < place → bit_at (get_or words q 0) k ≡ first_mark q) → bit_at (get_or (set words place word) p 0) k ≡ first_mark p
start_more words place word p k within less here before = elim (cases_eq p place) [
  | inl same ↦
      ap (λ (q : ℕ). bit_at (get_or (set words place word) q 0) k) same
      ∙ ap (λ (n : ℕ). bit_at n k) (get_or-set_same words place word 0 within)
      ∙ here ∙ ap first_mark (sym same)
  | inr other ↦ ap (λ (n : ℕ). bit_at n k) (get_or-set_other words place p word 0 other) ∙ before p (omega arith)
]

-- both ways of an operation
pub both_ways : (skipped : Bool → ℕ) (p place first second : ℕ) → first ≡ skipped true → second ≡ skipped false → ((p ≡ place + 1 + first) ⊎ (p ≡ place + 1 + second)) ↔ ((is_met : Bool) × (p ≡ place + 1 + skipped is_met))
both_ways skipped p place first second e f = (
  λ h. elim h [
    | inl a ↦ (true, a ∙ ap (λ (n : ℕ). place + 1 + n) e)
    | inr b ↦ (false, b ∙ ap (λ (n : ℕ). place + 1 + n) f)
  ],
  λ h. way h.0 h.1,
)
  where
    way : (t : Bool) → p ≡ place + 1 + skipped t → (p ≡ place + 1 + first) ⊎ (p ≡ place + 1 + second)
    way true h = inl (h ∙ ap (λ (n : ℕ). place + 1 + n) (sym e))
    way false h = inr (h ∙ ap (λ (n : ℕ). place + 1 + n) (sym f))
