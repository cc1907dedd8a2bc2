-- Chains by their length.
use Rattle.std.proofs.Common.{◌≡◌, ◌≢◌, ℕ, ◌+◌, ◌-◌, ◌*◌, ◌^◌, ◌<◌, ◌≤◌, ◌==◌, ◌&&◌, ◌||◌, inl, inr, refl, sym, ap, ◌∙◌, subst, arith, nat_lt, not, lit≤, min, ◌/◌}
use Rattle.std.proofs.Math.Pow.{pow_mono}
use Rattle.std.proofs.lemmas.Bool.{cases_lt}
use Rattle.std.proofs.lemmas.Grind.{common_steps}
use Rattle.ip_statistics.specs.Lengths.{least_length, is_for_length}

pub least_small : (i : ℕ) → i < 64 → least_length i ≡ 4 * i
least_small i l = grind (arith, common_steps)

pub least_large : (i : ℕ) → 64 ≤ i → least_length i ≡ 2 ^ (i - 56)
least_large i l = grind (arith, common_steps)

-- A larger index is for longer chains.
large_mono : (i j : ℕ) → 64 ≤ i → i ≤ j → least_length i ≤ least_length j
large_mono i j l m = let p : 2 ^ (i - 56) ≤ 2 ^ (j - 56) = pow_mono (omega (arith, l, m)) in
    subst (λ a. a ≤ least_length j) (sym (least_large i l)) (subst (λ b. 2 ^ (i - 56) ≤ b) (sym (least_large j (omega (arith, l, m)))) p)

pub least_mono : (i j : ℕ) → i ≤ j → least_length i ≤ least_length j
least_mono i j m = elim (cases_lt i 64) [
  | inl small ↦ elim (cases_lt j 64) [
    | inl small_too ↦ omega (arith, least_small i small, least_small j small_too, m)
    | inr large ↦ let least : 256 ≤ least_length j = large_mono 64 j (lit≤ tt) large in omega (arith, least_small i small, least, small)
  ]
  | inr large ↦ large_mono i j large m
]

-- whether a ≤ n < b, for an index i that is the right one r, or below it, or above it
at_same : (n a b i : ℕ) → a ≤ n → (i ≢ 72 → n < b) → (not (nat_lt n a) && ((i == 72) || nat_lt n b)) ≡ (i == i)
at_same n a b i low high = grind (arith, common_steps)

at_below : (n a b i r : ℕ) → i < r → r < 73 → b ≤ n → (not (nat_lt n a) && ((i == 72) || nat_lt n b)) ≡ (r == i)
at_below n a b i r below l past = grind (arith, common_steps)

at_above : (n a b i r : ℕ) → r < i → n < a → (not (nat_lt n a) && ((i == 72) || nat_lt n b)) ≡ (r == i)
at_above n a b i r above before = grind (arith, common_steps)

-- Exactly one of the 73 indices is for n bytes.
pub one_index : (n r : ℕ) → r < 73 → least_length r ≤ n → (r ≢ 72 → n < least_length (r + 1)) → (i : ℕ) → i < 73 → is_for_length i n ≡ (r == i)
one_index n r l low high i m = elim (cases_lt i r) [
  | inl below ↦ at_below n (least_length i) (least_length (i + 1)) i r below l (omega (arith, least_mono (i + 1) r (omega (arith, below)), low))
  | inr not_below ↦ elim (cases_lt r i) [
    | inl above ↦ at_above n (least_length i) (least_length (i + 1)) i r above (omega (arith, high (λ e. omega (arith, e, above, m)), least_mono (r + 1) i (omega (arith, above))))
    | inr not_above ↦ let same : i ≡ r = omega (arith, not_below, not_above) in
        subst (λ j. is_for_length j n ≡ (r == j)) (sym same) (at_same n (least_length r) (least_length (r + 1)) r low high)
  ]
]

-- The index of n bytes is a quarter of n if n is below 256,
least_to_64 : (i : ℕ) → i ≤ 64 → least_length i ≡ 4 * i
least_to_64 i l = elim (cases_lt i 64) [
  | inl small ↦ least_small i small
  | inr large ↦ subst (λ j. least_length j ≡ 4 * j) (let e : 64 ≡ i = omega (arith, l, large) in e) refl
]

pub quarter : (n : ℕ) → n < 256 → (n / 4 < 73) × (least_length (n / 4) ≤ n) × (n / 4 ≢ 72 → n < least_length (n / 4 + 1))
quarter n l = (omega (arith, l), omega (arith, l, least_to_64 (n / 4) (omega (arith, l))), λ _. omega (arith, l, least_to_64 (n / 4 + 1) (omega (arith, l))))

-- and otherwise 56 more than the power of two at which it begins, at most 72.
doubled : (k : ℕ) → 2 ^ (k + 1) ≡ 2 * 2 ^ k
doubled k = grind (arith, common_steps)

eight_at_least : (n k : ℕ) → 256 ≤ n → n < 2 * 2 ^ k → 8 ≤ k
eight_at_least n k l high = elim (cases_lt k 8) [
  | inl less ↦ let most : 2 ^ (k + 1) ≤ 256 = pow_mono {i = k + 1} {j = 8} (omega (arith, less)) in omega (arith, most, doubled k, l, high)
  | inr not_less ↦ not_less
]

least_at : (m : ℕ) → 8 ≤ m → least_length (56 + m) ≡ 2 ^ m
least_at m l = least_large (56 + m) (omega (arith, l)) ∙ ap (λ j. 2 ^ j) (let e : 56 + m - 56 ≡ m = omega arith in e)

pub power : (n k m : ℕ) → 256 ≤ n → 2 ^ k ≤ n → n < 2 * 2 ^ k → m ≡ min k 16 → (56 + m < 73) × (least_length (56 + m) ≤ n) × (56 + m ≢ 72 → n < least_length (56 + m + 1))
power n k m l low high e = let eight = eight_at_least n k l high in
    let begins : 2 ^ m ≤ 2 ^ k = pow_mono (omega (arith, e)) in (
      omega (arith, e),
      omega (arith, least_at m (omega (arith, e, eight)), begins, low),
      λ other.
          let same : m ≡ k = omega (arith, e, other) in
          let next : least_length (56 + m + 1) ≡ 2 ^ (k + 1) = ap least_length (let i : 56 + m + 1 ≡ 56 + (k + 1) = omega (arith, same) in i) ∙ least_at (k + 1) (omega (arith, eight)) in
          omega (arith, next, doubled k, high),
    )
