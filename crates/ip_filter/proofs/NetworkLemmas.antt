-- Addresses that begin alike, told by their halves.
use Rattle.std.proofs.Common.{pow_pos, mod-lt}
use Rattle.std.proofs.Math.Nat.{div-add-mod, div-div-eq-div-mul}
use Rattle.std.proofs.lemmas.Nat.{pow-add, mod-pow-add, div-mul-add}
use Rattle.ip_spec.proofs.Common.{◌≡◌, ℕ, ◌≤◌, ◌/◌, ◌%◌, ◌^◌, ◌+◌, ◌-◌, refl, sym, subst, arith, common_steps, eqb_tells, ◌==◌, ◌&&◌}
use Rattle.ip_filter.specs.Network.{begin_alike}

-- the quotient by 2 ^ (j + k), in two steps
in_two_steps : (a j k : ℕ) → a / 2 ^ j / 2 ^ k ≡ a / 2 ^ (j + k)
in_two_steps a j k = rw (pow-add 2 j k) (div-div-eq-div-mul a (2 ^ j) (2 ^ k))

first_parts_tell : (a b j k : ℕ) → begin_alike k (a / 2 ^ j) (b / 2 ^ j) ≡ begin_alike (j + k) a b
first_parts_tell a b j k = rw (in_two_steps a j k, in_two_steps b j k) refl

two_parts_tell : (x y m : ℕ) → ((x / m == y / m) && (x % m == y % m)) ≡ (x == y)
two_parts_tell x y m = grind (arith, common_steps, eqb_tells, div-add-mod x m, div-add-mod y m)

-- the last j + k bits of a, without the last k of them
last_part : (a j k : ℕ) → a % 2 ^ (j + k) / 2 ^ k ≡ a / 2 ^ k % 2 ^ j
last_part a j k = rw (mod-pow-add a j k) (div-mul-add (a / 2 ^ k % 2 ^ j) (2 ^ k) (a % 2 ^ k) (mod-lt a (pow_pos k)))

both_parts_tell : (a b j k : ℕ) → ((a / 2 ^ (k + j) == b / 2 ^ (k + j)) && begin_alike k (a % 2 ^ (j + k)) (b % 2 ^ (j + k))) ≡ begin_alike k a b
both_parts_tell a b j k = rw (last_part a j k, last_part b j k, ← in_two_steps a k j, ← in_two_steps b k j) (two_parts_tell (a / 2 ^ k) (b / 2 ^ k) (2 ^ j))

-- of two numbers of 128 bits, whose first n count
module _ (a b n : ℕ) where
  pub first_half_tells : n ≤ 64 → begin_alike (64 - n) (a / 2 ^ 64) (b / 2 ^ 64) ≡ begin_alike (128 - n) a b
  first_half_tells within =
      let all : 64 + (64 - n) ≡ 128 - n = omega (arith, within) in
      rw (sym all) (first_parts_tell a b 64 (64 - n))

  pub both_halves_tell : 64 ≤ n → ((a / 2 ^ 64 == b / 2 ^ 64) && begin_alike (128 - n) (a % 2 ^ 64) (b % 2 ^ 64)) ≡ begin_alike (128 - n) a b
  both_halves_tell beyond =
      let k : ℕ = 128 - n in
      let sum : (64 - k) + k ≡ 64 = omega (arith, beyond) in
      let turned : k + (64 - k) ≡ 64 = omega (arith, beyond) in
      subst (λ i. ((a / 2 ^ i == b / 2 ^ i) && begin_alike k (a % 2 ^ 64) (b % 2 ^ 64)) ≡ begin_alike k a b) turned (
      subst (λ i. ((a / 2 ^ (k + (64 - k)) == b / 2 ^ (k + (64 - k))) && begin_alike k (a % 2 ^ i) (b % 2 ^ i)) ≡ begin_alike k a b) sum (both_parts_tell a b (64 - k) k))
