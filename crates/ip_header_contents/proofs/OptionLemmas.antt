-- The options at the start of bytes.
use Rattle.std.proofs.Common.{zero, suc}
use Rattle.std.proofs.Math.Seq.{take-add}
use Rattle.ip_spec.proofs.Common.{◌≡◌, ℕ, ◌+◌, ◌≤◌, ◌≢◌, ◌⊎◌, ◌∷◌, ◌++◌, [], List, length, take, drop, refl, sym, ap, ◌∙◌, inl, inr, true, false, arith, common_steps, nat_tests, ◌==◌, nat_le, take-append-drop, take-append_seam, drop-append_seam, length-append, length-drop, drop-drop, flat_map, length-take-le, cases_eq, cases_Bool, leb-true, eq-eqb, ne_eqb, IsPrefix}
use Rattle.ip_header_contents.specs.Options.{OptionFields, StartsWithOption, option_bytes, options_len, options_after, options_in, pad_1}

-- b are the option's bytes and those after them
split : (b : List ℕ) (o : OptionFields) → StartsWithOption b o → b ≡ option_bytes o ++ drop (length (option_bytes o)) b
split b o starts = sym (take-append-drop (length (option_bytes o)) b) ∙ ap (λ x. x ++ drop (length (option_bytes o)) b) starts.prefix

skip : (k : ℕ) (b : List ℕ) → options_after k b ≡ options_in (drop k b)
unfolding options_after
skip zero b = refl
skip (suc k) [] = refl
skip (suc k) (c ∷ b) = skip k b

pad_first : (rest : List ℕ) → options_in (0 ∷ rest) ≡ pad_1 ∷ options_in rest
unfolding options_after
pad_first [] = refl
pad_first (c ∷ rest) = refl

other_first : (t : ℕ) (v rest : List ℕ) → t ≢ 0 → options_in (t ∷ length v ∷ (v ++ rest)) ≡ record { option_type = t; value = v } ∷ options_in rest
unfolding options_after
other_first t v rest other =
    let differs : (t == 0) ≡ false = ne_eqb t 0 other in
    let fits : nat_le (length v) (length (v ++ rest)) ≡ true = grind (arith, common_steps, nat_tests, length-append v rest) in
    rw (differs, fits, skip (length v) (v ++ rest), take-append_seam v rest, drop-append_seam v rest) refl

-- as the option's bytes and those after them
module _ (rest : List ℕ) (o : OptionFields) (pad : o.option_type ≡ 0 → o.value ≡ []) where
  joined : options_in (option_bytes o ++ rest) ≡ o ∷ options_in rest
  joined = elim (cases_eq o.option_type 0) [
    | inl is ↦ rw (eq-eqb o.option_type 0 is, pad is, is) (pad_first rest)
    | inr other ↦ rw (ne_eqb o.option_type 0 other) (other_first o.option_type o.value rest other)
  ]

first : (b : List ℕ) (o : OptionFields) → StartsWithOption b o → options_in b ≡ o ∷ options_in (drop (length (option_bytes o)) b)
first b o starts = ap options_in (split b o starts) ∙ joined (drop (length (option_bytes o)) b) o starts.pad

-- at byte k, where the option has n bytes
pub first_from : (h b : List ℕ) (k n : ℕ) (o : OptionFields) → b ≡ drop k h → StartsWithOption b o → n ≡ length (option_bytes o) → options_in (drop k h) ≡ o ∷ options_in (drop (k + n) h)
first_from h b k n o is starts len =
    rw (sym is, first b o starts, sym (drop-drop n k h), sym is, len) refl

pub has_first : (b : List ℕ) (o : OptionFields) → StartsWithOption b o → options_in b ≢ []
has_first b o starts is = grind (arith, common_steps, sym (first b o starts) ∙ is)

abbrev HasNone : List ℕ → Type 0
HasNone b = (o : OptionFields) → StartsWithOption b o → ⊥

pad_starts : (t : ℕ) (b : List ℕ) → t ≡ 0 → StartsWithOption (t ∷ b) pad_1
pad_starts t b is = record { pad = λ _. refl; prefix = ap (λ x. x ∷ []) is }

module _ (t len : ℕ) (rest : List ℕ) (other : t ≢ 0) (fits : len ≤ length rest) where
  abbrev fitting : OptionFields
  fitting = record { option_type = t; value = take len rest }

  bytes : option_bytes fitting ≡ t ∷ len ∷ take len rest
  bytes = rw (ne_eqb t 0 other, length-take-le len rest fits) refl

  other_starts : StartsWithOption (t ∷ len ∷ rest) fitting
  other_starts = record {
    pad = λ is. absurd (other is);
    prefix = rw (bytes, length-take-le len rest fits) refl;
  }

abbrev IsOne : List ℕ → Type 0
IsOne b = (o : OptionFields) × StartsWithOption b o

start : (b : List ℕ) → IsOne b ⊎ (options_in b ≡ [])
unfolding options_after
start [] = inr refl
start (t ∷ []) = elim (cases_eq t 0) [
  | inl is ↦ inl (pad_1, pad_starts t [] is)
  | inr other ↦ inr (rw (ne_eqb t 0 other) refl)
]
start (t ∷ len ∷ rest) = elim (cases_eq t 0) [
  | inl is ↦ inl (pad_1, pad_starts t (len ∷ rest) is)
  | inr other ↦ elim (cases_Bool (nat_le len (length rest))) [
    | inl fits ↦ inl (fitting t len rest other (leb-true len (length rest) fits), other_starts t len rest other (leb-true len (length rest) fits))
    | inr past ↦ inr (rw (ne_eqb t 0 other, past) refl)
  ]
]

pub none : (b : List ℕ) → HasNone b → options_in b ≡ []
none b refused = elim (start b) [
  | inl one ↦ absurd (refused one.0 one.1)
  | inr is ↦ is
]

-- the options' bytes begin b, and no option follows them
abbrev AreAll : List ℕ → List OptionFields → Type 0
AreAll b xs = IsPrefix (flat_map option_bytes xs) b × HasNone (drop (options_len xs) b)

one_more : (b : List ℕ) (o : OptionFields) (xs : List OptionFields) → StartsWithOption b o → AreAll (drop (length (option_bytes o)) b) xs → AreAll b (o ∷ xs)
one_more b o xs starts all = (
  rw (length-append (option_bytes o) (flat_map option_bytes xs), take-add (length (option_bytes o)) (length (flat_map option_bytes xs)) b, starts.prefix, all.0) refl,
  rw (length-append (option_bytes o) (flat_map option_bytes xs), sym (drop-drop (length (flat_map option_bytes xs)) (length (option_bytes o)) b)) all.1,
)

some_bytes : (o : OptionFields) → 1 ≤ length (option_bytes o)
some_bytes o = elim (cases_eq o.option_type 0) [
  | inl is ↦ rw (eq-eqb o.option_type 0 is) (omega (arith))
  | inr other ↦ rw (ne_eqb o.option_type 0 other) (omega (arith))
]

all_within : (n : ℕ) (b : List ℕ) → length b ≤ n → AreAll b (options_in b)
unfolding options_after
all_within zero [] few = (refl, λ o starts. has_first [] o starts refl)
all_within zero (t ∷ b) few = absurd (omega (arith, few))
all_within (suc n) b few = elim (start b) [
  | inl one ↦
      let shorter : length (drop (length (option_bytes one.0)) b) ≤ n = omega (arith, few, some_bytes one.0, length-drop (length (option_bytes one.0)) b) in
      rw (first b one.0 one.1) (one_more b one.0 (options_in (drop (length (option_bytes one.0)) b)) one.1 (all_within n (drop (length (option_bytes one.0)) b) shorter))
  | inr is ↦ rw is (refl, λ o starts. has_first b o starts is)
]

pub all_bytes : (b : List ℕ) → IsPrefix (flat_map option_bytes (options_in b)) b
all_bytes b = (all_within (length b) b (omega (arith))).0

pub all_whole : (b : List ℕ) → HasNone (drop (options_len (options_in b)) b)
all_whole b = (all_within (length b) b (omega (arith))).1
