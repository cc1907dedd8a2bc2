-- Sets of types of options.
use Rattle.ip_spec.proofs.Common.{◌≡◌, ℕ, ◌*◌, ◌/◌, ◌%◌, ◌^◌, ◌<◌, List, length, refl, sym, ap, ◌∙◌, arith, common_steps, inl, inr, Bool, nat_lt, ◌==◌, ◌&&◌, ◌||◌, slice_index, slice_set, get_or-set_same, get_or-set_other, bit_and, cases_eq, cases_lt, eq-eqb, ne_eqb, lt-ltb, le-ltb}
use Rattle.std.proofs.Common.{bit_or}
use Rattle.std.specs.Int.{bit_at}
use Rattle.std.proofs.lemmas.Nat.Bits.{shr_and_one}
use Rattle.ip_filter.proofs.FactsLemmas.{one_bit, bit_same, bit_other}

-- a type that is asked for
pub asked : (w n : ℕ) → n < 256 → (bit_and (w / 2 ^ (n % 64)) 1 == 1) ≡ (nat_lt n 256 && (bit_at w (n % 64) == 1))
asked w n byte = rw (lt-ltb n 256 byte, shr_and_one w (n % 64)) refl

-- the set with these words has the type n
abbrev has : List ℕ → ℕ → Bool
has ws n = nat_lt n 256 && (bit_at (slice_index ws (n / 64)) (n % 64) == 1)

-- one more type t
module _ (ws : List ℕ) (t n : ℕ) (four : length ws ≡ 4) (byte : t < 256) where
  abbrev more : List ℕ
  more = slice_set ws (t / 64) (bit_or (slice_index ws (t / 64)) (2 ^ (t % 64)))

  same_word : n / 64 ≡ t / 64 → slice_index more (n / 64) ≡ bit_or (slice_index ws (n / 64)) (2 ^ (t % 64))
  same_word e = rw e (get_or-set_same ws (t / 64) _ 0 (omega (arith, four, byte)))

  other_word : (n / 64 ≡ t / 64 → ⊥) → slice_index more (n / 64) ≡ slice_index ws (n / 64)
  other_word other = get_or-set_other ws (t / 64) (n / 64) _ 0 other

  is_bit : n / 64 ≡ t / 64 → n % 64 ≡ t % 64 → t ≡ n
  is_bit e b = omega (arith, e, b)

  bit_more : n < 256 → (bit_at (slice_index more (n / 64)) (n % 64) == 1) ≡ ((bit_at (slice_index ws (n / 64)) (n % 64) == 1) || (t == n))
  bit_more small = elim (cases_eq (n / 64) (t / 64)) [
    | inl word ↦ elim (cases_eq (n % 64) (t % 64)) [
      | inl bit ↦ rw (same_word word, bit, bit_same (slice_index ws (n / 64)) (t % 64), eq-eqb t n (is_bit word bit)) (grind (arith, common_steps))
      | inr other ↦ rw (same_word word, bit_other (slice_index ws (n / 64)) (t % 64) (n % 64) other, ne_eqb t n (λ e. other (ap (λ k. k % 64) (sym e)))) (grind (arith, common_steps))
    ]
    | inr other ↦ rw (other_word other, ne_eqb t n (λ e. other (ap (λ k. k / 64) (sym e)))) (grind (arith, common_steps))
  ]

  has_more : has more n ≡ (has ws n || (t == n))
  has_more = elim (cases_lt n 256) [
    | inl small ↦ rw (lt-ltb n 256 small, bit_more small) refl
    | inr large ↦ rw (le-ltb n 256 large, ne_eqb t n (λ e. omega (arith, e, large, byte))) refl
  ]

  pub inserted : (xs : List ℕ) → xs ≡ slice_set ws (t / 64) (bit_or (slice_index ws (t / 64)) (1 * 2 ^ (t % 64) % 2 ^ 64)) → has xs n ≡ (has ws n || (t == n))
  inserted xs is = ap (λ ys. has ys n) (is ∙ ap (λ b. slice_set ws (t / 64) (bit_or (slice_index ws (t / 64)) b)) (one_bit (t % 64) 64 (omega arith))) ∙ has_more
