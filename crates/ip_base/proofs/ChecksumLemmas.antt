-- Sums of words of which one is changed.
use Rattle.std.proofs.Common.{◌≡◌, ◌≢◌, ℕ, zero, suc, ◌+◌, ◌-◌, ◌*◌, ◌/◌, ◌%◌, ◌<◌, ◌≤◌, List, length, slice_index, slice_set, sym, refl, ◌∙◌, ap, arith, length-set, get_or-set_other, get_or-set_same, inl, inr, subst}
use Rattle.std.proofs.lemmas.Bool.{cases_lt, cases_eq}
use Rattle.std.proofs.lemmas.List.{get_or_past}
use Rattle.std.proofs.lemmas.List.Elements.{All-get_or}
use Rattle.std.specs.List.{All}
use Rattle.ip_base.specs.Checksum.{with_word, add_ones, word_of, sum_of, ones_sum, checksum_of}

pub add_zero : (s : ℕ) → s ≤ 65535 → add_ones s 0 ≡ s
add_zero s p = grind arith

pub add_fits : (a b : ℕ) → a ≤ 65535 → b ≤ 65535 → add_ones a b ≤ 65535
add_fits a b p q = grind arith

-- the last two of three numbers may be exchanged
pub add_swapped : (a b c : ℕ) → a ≤ 65535 → b ≤ 65535 → c ≤ 65535 → add_ones (add_ones a b) c ≡ add_ones (add_ones a c) b
add_swapped a b c p q r = grind arith

-- a number and its one's complement
pub add_complement : (a : ℕ) → a ≤ 65535 → add_ones a (65535 - a) ≡ 65535
add_complement a p = grind arith

pub word_len : (b : List ℕ) (i n : ℕ) → length (with_word b i n) ≡ length b
word_len b i n = length-set (slice_set b i (n / 256)) (i + 1) (n % 256) ∙ length-set b i (n / 256)

-- a byte outside of the word
pub word_other : (b : List ℕ) (i n j : ℕ) → j ≢ i → j ≢ i + 1 → slice_index (with_word b i n) j ≡ slice_index b j
word_other b i n j p q = get_or-set_other (slice_set b i (n / 256)) (i + 1) j (n % 256) 0 q ∙ get_or-set_other b i j (n / 256) 0 p

-- the word that was stored
pub word_stored : (b : List ℕ) (i n : ℕ) → 2 * i + 1 < length b → word_of (with_word b (2 * i) n) i ≡ n
word_stored b i n fits =
    let high : slice_index (with_word b (2 * i) n) (2 * i) ≡ n / 256 = get_or-set_other (slice_set b (2 * i) (n / 256)) (2 * i + 1) (2 * i) (n % 256) 0 (λ e. omega (arith, e)) ∙ get_or-set_same b (2 * i) (n / 256) 0 (omega arith) in
    let low : slice_index (with_word b (2 * i) n) (2 * i + 1) ≡ n % 256 = get_or-set_same (slice_set b (2 * i) (n / 256)) (2 * i + 1) (n % 256) 0 (omega (arith, length-set b (2 * i) (n / 256))) in
    omega (arith, high, low)

-- another word
pub word_elsewhere : (b : List ℕ) (i n j : ℕ) → j ≢ i → word_of (with_word b (2 * i) n) j ≡ word_of b j
word_elsewhere b i n j other =
    let high : slice_index (with_word b (2 * i) n) (2 * j) ≡ slice_index b (2 * j) = word_other b (2 * i) n (2 * j) (λ e. other (omega (arith, e))) (λ e. omega (arith, e)) in
    let low : slice_index (with_word b (2 * i) n) (2 * j + 1) ≡ slice_index b (2 * j + 1) = word_other b (2 * i) n (2 * j + 1) (λ e. omega (arith, e)) (λ e. other (omega (arith, e))) in
    omega (arith, high, low)

byte_fits : (b : List ℕ) (i : ℕ) → All (λ x. x < 256) b → slice_index b i < 256
byte_fits b i bytes = elim (cases_lt i (length b)) [
  | inl less ↦ All-get_or (λ x. x < 256) b i 0 less bytes
  | inr past ↦ omega (arith, get_or_past b i 0 past)
]

pub word_fits : (b : List ℕ) (i : ℕ) → All (λ x. x < 256) b → word_of b i ≤ 65535
word_fits b i bytes = omega (arith, byte_fits b (2 * i) bytes, byte_fits b (2 * i + 1) bytes)

abbrev pub AreWords : List ℕ → Type 0
AreWords b = (k : ℕ) → word_of b k ≤ 65535

pub sum_fits : (b : List ℕ) (n : ℕ) → AreWords b → sum_of b n ≤ 65535
sum_fits b zero words = omega arith
sum_fits b (suc n) words = add_fits (sum_of b n) (word_of b n) (sum_fits b n words) (words n)

-- the words are those of b, but for this one
pub with_words : (b : List ℕ) (i n : ℕ) → AreWords b → 2 * i + 1 < length b → n ≤ 65535 → AreWords (with_word b (2 * i) n)
with_words b i n words fits small k = elim (cases_eq k i) [
  | inl e ↦ omega (arith, ap (word_of (with_word b (2 * i) n)) e, word_stored b i n fits)
  | inr other ↦ omega (arith, word_elsewhere b i n k other, words k)
]

pub sum_same : (a b : List ℕ) (n : ℕ) → ((k : ℕ) → k < n → word_of a k ≡ word_of b k) → sum_of a n ≡ sum_of b n
sum_same a b zero same = refl
sum_same a b (suc n) same = ap (λ s. add_ones s (word_of a n)) (sum_same a b n (λ k less. same k (omega arith))) ∙ ap (add_ones (sum_of b n)) (same n (omega arith))

-- A word of the sum may come last.
pub sum_split : (b : List ℕ) (i n : ℕ) → AreWords b → 2 * i + 1 < length b → i < n → sum_of b n ≡ add_ones (sum_of (with_word b (2 * i) 0) n) (word_of b i)
sum_split b i zero words fits less = absurd (omega arith)
sum_split b i (suc n) words fits less = elim (cases_eq i n) [
  | inl e ↦
      let before : sum_of (with_word b (2 * i) 0) n ≡ sum_of b n = sum_same (with_word b (2 * i) 0) b n (λ k p. word_elsewhere b i 0 k (λ q. omega (arith, p, q, e))) in
      let none : word_of (with_word b (2 * i) 0) n ≡ 0 = ap (word_of (with_word b (2 * i) 0)) (sym e) ∙ word_stored b i 0 fits in
      ap (λ k. add_ones (sum_of b n) (word_of b k)) (sym e) ∙ sym (ap (λ s. add_ones s (word_of b i)) (ap (add_ones (sum_of (with_word b (2 * i) 0) n)) none ∙ (ap (λ s. add_ones s 0) before ∙ add_zero (sum_of b n) (sum_fits b n words))))
  | inr other ↦
      let word : word_of (with_word b (2 * i) 0) n ≡ word_of b n = word_elsewhere b i 0 n (λ q. other (sym q)) in
      ap (λ s. add_ones s (word_of b n)) (sum_split b i n words fits (omega (arith, other)))
      ∙ (add_swapped (sum_of (with_word b (2 * i) 0) n) (word_of b i) (word_of b n) (sum_fits (with_word b (2 * i) 0) n (with_words b i 0 words fits (omega arith))) (words i) (words n)
      ∙ ap (λ w. add_ones (add_ones (sum_of (with_word b (2 * i) 0) n) w) (word_of b i)) (sym word))
]

-- the sum with another word in a word's place
pub sum_with : (b : List ℕ) (i x n : ℕ) → AreWords b → 2 * i + 1 < length b → x ≤ 65535 → i < n → sum_of (with_word b (2 * i) x) n ≡ add_ones (sum_of (with_word b (2 * i) 0) n) x
sum_with b i x n words fits small less =
    let changed : List ℕ = with_word b (2 * i) x in
    let within : 2 * i + 1 < length changed = omega (arith, word_len b (2 * i) x, fits) in
    let same : (k : ℕ) → k < n → word_of (with_word changed (2 * i) 0) k ≡ word_of (with_word b (2 * i) 0) k = λ k _. elim (cases_eq k i) [
      | inl e ↦ ap (word_of (with_word changed (2 * i) 0)) e ∙ (word_stored changed i 0 within ∙ (sym (word_stored b i 0 fits) ∙ ap (word_of (with_word b (2 * i) 0)) (sym e)))
      | inr other ↦ word_elsewhere changed i 0 k other ∙ (word_elsewhere b i x k other ∙ sym (word_elsewhere b i 0 k other))
    ] in
    sum_split changed i n (with_words b i x words fits small) within less
    ∙ (ap (λ s. add_ones s (word_of changed i)) (sum_same (with_word changed (2 * i) 0) (with_word b (2 * i) 0) n same)
    ∙ ap (add_ones (sum_of (with_word b (2 * i) 0) n)) (word_stored b i x fits))

-- the words of all bytes, of which one is changed
pub all_with : (b : List ℕ) (i x : ℕ) → AreWords b → 2 * i + 1 < length b → x ≤ 65535 → ones_sum (with_word b (2 * i) x) ≡ add_ones (ones_sum (with_word b (2 * i) 0)) x
all_with b i x words fits small =
    ap (λ n. sum_of (with_word b (2 * i) x) ((n + 1) / 2)) (word_len b (2 * i) x)
    ∙ (sum_with b i x ((length b + 1) / 2) words fits small (omega (arith, fits))
    ∙ ap (λ n. add_ones (sum_of (with_word b (2 * i) 0) ((n + 1) / 2)) x) (sym (word_len b (2 * i) 0)))

pub all_fit : (b : List ℕ) → AreWords b → ones_sum b ≤ 65535
all_fit b words = sum_fits b ((length b + 1) / 2) words

pub whole_sum : (b : List ℕ) (i : ℕ) → All (λ x. x < 256) b → 2 * i + 1 < length b → ones_sum (with_word b (2 * i) (checksum_of (with_word b (2 * i) 0))) ≡ 65535
whole_sum b i bytes fits =
    let words : AreWords b = λ k. word_fits b k bytes in
    all_with b i (checksum_of (with_word b (2 * i) 0)) words fits (omega arith)
    ∙ add_complement (ones_sum (with_word b (2 * i) 0)) (all_fit (with_word b (2 * i) 0) (with_words b i 0 words fits (omega arith)))

-- a word is taken from a sum by adding its complement, and another one comes in its place
add_updated : (s m n : ℕ) → s ≤ 65535 → m ≤ 65535 → n ≤ 65535 → 0 < add_ones s n → add_ones (add_ones (add_ones s m) (65535 - m)) n ≡ add_ones s n
add_updated s m n p q r some = grind arith

pub updated_sum : (b : List ℕ) (i n : ℕ) → All (λ x. x < 256) b → 2 * i + 1 < length b → n ≤ 65535 → 0 < ones_sum (with_word b (2 * i) n) → checksum_of (with_word b (2 * i) n) ≡ 65535 - add_ones (add_ones (65535 - checksum_of b) (65535 - word_of b i)) n
updated_sum b i n bytes fits small some =
    let words : AreWords b = λ k. word_fits b k bytes in
    let zeroed : List ℕ = with_word b (2 * i) 0 in
    let rest : ones_sum zeroed ≤ 65535 = all_fit zeroed (with_words b i 0 words fits (omega arith)) in
    let now : ones_sum (with_word b (2 * i) n) ≡ add_ones (ones_sum zeroed) n = all_with b i n words fits small in
    let was : ones_sum b ≡ add_ones (ones_sum zeroed) (word_of b i) =
    sum_split b i ((length b + 1) / 2) words fits (omega (arith, fits)) ∙ ap (λ k. add_ones (sum_of zeroed ((k + 1) / 2)) (word_of b i)) (sym (word_len b (2 * i) 0)) in
    let twice : 65535 - checksum_of b ≡ ones_sum b = omega (arith, all_fit b words) in
    ap (λ s. 65535 - s) (now ∙ sym (ap (λ s. add_ones (add_ones s (65535 - word_of b i)) n) (twice ∙ was) ∙ add_updated (ones_sum zeroed) (word_of b i) n rest (words i) small (subst (λ s. 0 < s) now some)))
