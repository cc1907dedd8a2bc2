-- The first word of a text.
use Rattle.std.proofs.Common.{suc}
use Rattle.std.proofs.Math.Seq.{drop-cons}
use Rattle.ip_spec.proofs.Common.{◌≡◌, ℕ, ◌+◌, ◌-◌, ◌<◌, ◌≤◌, List, [], ◌∷◌, length, take, drop, get_or, refl, sym, ap, ◌∙◌, subst, arith, common_steps, Bool, true, false, ◌||◌, ◌⊎◌, inl, inr, bytes_eq-Decides, if◌then◌else◌, cases_Bool, drop_all, drop-drop, take_rest, length-drop, nat_tests}
use Rattle.std.proofs.lemmas.List.{get_or-drop}
use Rattle.std.specs.Str.{bytes_eq}
use Rattle.ip_filter.specs.Reading.{IsPlace, IsSuffix}
use Rattle.ip_filter.specs.Words.{words, word_len, with_byte, is_white_space, joins, Word}

pub or_cases : (a b : Bool) → (a || b) ≡ true → (a ≡ true) ⊎ (b ≡ true)
or_cases true b e = inl refl
or_cases false b e = inr e

pub same_word : (k c : Word) → bytes_eq k c ≡ true → k ≡ c
same_word k c = (bytes_eq-Decides k c).0

-- what holds of two words holds of a word that is one of them
pub either_word : (P : Word → Type 0) (w a b : Word) → (bytes_eq w a || bytes_eq w b) ≡ true → P a → P b → P w
either_word P w a b is pa pb = elim (or_cases (bytes_eq w a) (bytes_eq w b) is) [ inl x ↦ subst P (sym (same_word w a x)) pa | inr x ↦ subst P (sym (same_word w b x)) pb ]

module _ (s : List ℕ) (i : ℕ) (some : 1 ≤ i) where
  at : i ≤ length s → drop (i - 1) s ≡ get_or s (i - 1) 0 ∷ drop i s
  at inside = let e : suc (i - 1) ≡ i = omega arith in drop-cons s (i - 1) 0 (omega arith) ∙ ap (λ k. get_or s (i - 1) 0 ∷ drop k s) e

  step : i < length s → word_len (drop (i - 1) s) ≡ (if joins (get_or s (i - 1) 0) (get_or s i 0) then suc (word_len (drop i s)) else 1)
  unfolding word_len
  step inside =
      let next : drop i s ≡ get_or s i 0 ∷ drop (suc i) s = drop-cons s i 0 inside in
      ap word_len (at (omega arith)) ∙ ap (λ r. word_len (get_or s (i - 1) 0 ∷ r)) next
      ∙ ap (λ r. if joins (get_or s (i - 1) 0) (get_or s i 0) then suc (word_len r) else 1) (sym next)

  pub word_goes_on : i < length s → joins (get_or s (i - 1) 0) (get_or s i 0) ≡ true → word_len (drop (i - 1) s) ≡ suc (word_len (drop i s))
  word_goes_on inside t = step inside ∙ ap (λ b. if b then suc (word_len (drop i s)) else 1) t

  pub word_ends : i < length s → joins (get_or s (i - 1) 0) (get_or s i 0) ≡ false → word_len (drop (i - 1) s) ≡ 1
  word_ends inside f = step inside ∙ ap (λ b. if b then suc (word_len (drop i s)) else 1) f

  pub last_byte : i ≡ length s → word_len (drop (i - 1) s) ≡ 1
  unfolding word_len
  last_byte end = ap word_len (at (omega arith)) ∙ ap (λ r. word_len (get_or s (i - 1) 0 ∷ r)) (drop_all i s (omega arith))

-- white space before a word doesn't count
pub skip : (s : List ℕ) (k : ℕ) → k < length s → is_white_space (get_or s k 0) ≡ true → words (drop (suc k) s) ≡ words (drop k s)
unfolding words
skip s k inside space =
    sym (ap words (drop-cons s k 0 inside) ∙ ap (λ b. if b then words (drop (suc k) s) else with_byte (get_or s k 0) (drop (suc k) s) (words (drop (suc k) s))) space)

-- what joins a byte is no white space
no_space : (c d : ℕ) → joins c d ≡ true → is_white_space d ≡ false
no_space c d j = grind (arith, common_steps, nat_tests)

apart : (c d : ℕ) (s : List ℕ) (ws : List Word) → joins c d ≡ false → with_byte c (d ∷ s) ws ≡ (c ∷ []) ∷ ws
apart c d s [] f = refl
apart c d s (w ∷ ws) f = ap (λ b. if b then (c ∷ w) ∷ ws else (c ∷ []) ∷ w ∷ ws) f

pub first : (c : ℕ) (s : List ℕ) → is_white_space c ≡ false
    → words (c ∷ s) ≡ take (word_len (c ∷ s)) (c ∷ s) ∷ words (drop (word_len (c ∷ s)) (c ∷ s))
unfolding words word_len
first c [] plain = ap (λ b. if b then [] else (c ∷ []) ∷ []) plain
first c (d ∷ s) plain =
    let n = word_len (d ∷ s) in
    let begins : words (c ∷ d ∷ s) ≡ with_byte c (d ∷ s) (words (d ∷ s)) = ap (λ b. if b then words (d ∷ s) else with_byte c (d ∷ s) (words (d ∷ s))) plain in
    let parts : (b : Bool) → joins c d ≡ b → take (if b then suc n else 1) (c ∷ d ∷ s) ∷ words (drop (if b then suc n else 1) (c ∷ d ∷ s)) ≡ take (word_len (c ∷ d ∷ s)) (c ∷ d ∷ s) ∷ words (drop (word_len (c ∷ d ∷ s)) (c ∷ d ∷ s))
    = λ b e. ap (λ b. take (if b then suc n else 1) (c ∷ d ∷ s) ∷ words (drop (if b then suc n else 1) (c ∷ d ∷ s))) (sym e) in
    elim (cases_Bool (joins c d)) [
      | inl t ↦
          begins ∙ ap (with_byte c (d ∷ s)) (first d s (no_space c d t))
          ∙ ap (λ b. if b then (c ∷ take n (d ∷ s)) ∷ words (drop n (d ∷ s)) else (c ∷ []) ∷ take n (d ∷ s) ∷ words (drop n (d ∷ s))) t
          ∙ parts true t
      | inr f ↦ begins ∙ apart c d s (words (d ∷ s)) f ∙ parts false f
    ]

pub first_of : (s : List ℕ) → 0 < length s → is_white_space (get_or s 0 0) ≡ false → words s ≡ take (word_len s) s ∷ words (drop (word_len s) s)
first_of [] some plain = absurd (omega arith)
first_of (c ∷ s) some plain = first c s plain

pub no_words : (s : List ℕ) → length s ≡ 0 → words s ≡ []
unfolding words
no_words [] e = refl
no_words (c ∷ s) e = absurd (omega arith)

with_byte-len : (c : ℕ) (s : List ℕ) (ws : List Word) → length (with_byte c s ws) ≤ suc (length ws)
with_byte-len c [] ws = omega arith
with_byte-len c (d ∷ s) [] = omega arith
with_byte-len c (d ∷ s) (w ∷ ws) = elim (cases_Bool (joins c d)) [
  | inl t ↦ omega (arith, ap (λ b. length (if b then (c ∷ w) ∷ ws else (c ∷ []) ∷ w ∷ ws)) t)
  | inr f ↦ omega (arith, ap (λ b. length (if b then (c ∷ w) ∷ ws else (c ∷ []) ∷ w ∷ ws)) f)
]

-- there are at most as many words as bytes
pub words_short : (s : List ℕ) → length (words s) ≤ length s
unfolding words
words_short [] = omega arith
words_short (c ∷ s) = elim (cases_Bool (is_white_space c)) [
  | inl t ↦ omega (arith, ap (λ b. length (if b then words s else with_byte c s (words s))) t, words_short s)
  | inr f ↦ omega (arith, ap (λ b. length (if b then words s else with_byte c s (words s))) f, words_short s, with_byte-len c s (words s))
]

-- the text after some white space, of which the first n bytes are a word
module _ (text from : List ℕ) (n : ℕ) (same : words from ≡ words text) (shorter : length from ≤ length text) (end : from ≡ drop (length text - length from) text)
    (some : 0 < length from) (plain : is_white_space (get_or from 0 0) ≡ false) (within : n ≤ length from) where
  pub begins_with : n ≡ word_len from → words text ≡ take n from ∷ words (take (length from - n) (drop n from))
  begins_with is =
      sym same ∙ first_of from some plain
      ∙ ap (λ k. take k from ∷ words (drop k from)) (sym is)
      ∙ ap (λ s. take n from ∷ words s) (sym (take_rest from n))

  pub place_of : IsPlace text [] (length from)
  place_of = record {
    within = shorter;
    words_before = sym same ∙ ap words end;
    begins =
        let k = length text - length from in
        λ _. ap (λ i. is_white_space (get_or text i 0)) (let e : k ≡ k + 0 = omega arith in e) ∙ ap is_white_space (sym (get_or-drop k text 0 0) ∙ ap (λ s. get_or s 0 0) (sym end)) ∙ plain;
  }

  pub end_of : IsSuffix text (take (length from - n) (drop n from))
  end_of =
      let rest : take (length from - n) (drop n from) ≡ drop n from = take_rest from n in
      let len : length (take (length from - n) (drop n from)) ≡ length from - n = ap length rest ∙ length-drop n from in (
        omega (arith, len, shorter),
        rest ∙ ap (drop n) end ∙ drop-drop n (length text - length from) text ∙ ap (λ k. drop k text) (omega (arith, len, shorter, within)),
      )
