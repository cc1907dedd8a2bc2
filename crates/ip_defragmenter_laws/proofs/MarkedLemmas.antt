-- Base headers that have the code point of congestion.
use Rattle.std.proofs.Common.{◌≡◌, ℕ, ◌+◌, ◌*◌, ◌/◌, ◌%◌, ◌≤◌, ◌<◌, List, Bool, true, false, length, refl, sym, ap, ◌∙◌, arith, inl, inr, length-set}
use Rattle.std.specs.Prelude.{slice_index, slice_set, bit_or, ◌==◌, if◌then◌else◌}
use Rattle.std.proofs.lemmas.Bool.{cases_Bool, cases_eq, cond-true, cond-false}
use Rattle.std.proofs.lemmas.Grind.{same_number_lists}
use Rattle.std.proofs.lemmas.List.{get_or-set_other, get_or-set_same}
use Rattle.std.proofs.lemmas.Nat.{or_mod, or_shr}
use Rattle.std.specs.Int.Bits.{or_zero_r}
use Rattle.ip_base.specs.Ipv4Header.{version}
use Rattle.ip_base.specs.BaseHeaderFields.{ipv4_ecn, ipv6_traffic_class}
use Rattle.ip_defragmenter.specs.Ecn.{marked, point_of, with_congestion}

low_bits : (b : ℕ) → b % 4 ≡ 3 → bit_or b 3 ≡ b
low_bits b is =
    let high : bit_or b 3 / 4 ≡ b / 4 = or_shr b 3 2 ∙ or_zero_r (b / 4) in
    let low : bit_or b 3 % 4 ≡ 3 = or_mod b 3 2 ∙ ap (λ (n : ℕ). bit_or n 3) is in
    omega (arith, high, low, is)

high_bits : (b : ℕ) → b / 16 % 4 ≡ 3 → bit_or b 48 ≡ b
high_bits b is =
    let high : bit_or b 48 / 16 ≡ b / 16 = or_shr b 48 4 ∙ low_bits (b / 16) is in
    let low : bit_or b 48 % 16 ≡ b % 16 = or_mod b 48 4 ∙ or_zero_r (b % 16) in
    omega (arith, high, low)

-- Setting a byte to what it is changes nothing.
pub set_same : (b : List ℕ) (i v : ℕ) → i < length b → slice_index b i ≡ v → slice_set b i v ≡ b
set_same b i v within is = same_number_lists (slice_set b i v) b (length-set b i v) (λ j less. elim (cases_eq j i) [
  | inl same ↦ ap (slice_index (slice_set b i v)) same ∙ (get_or-set_same b i v 0 within ∙ (sym is ∙ ap (slice_index b) (sym same)))
  | inr other ↦ get_or-set_other b i j v 0 other
])

congested_same : (b : List ℕ) → 2 ≤ length b → point_of b ≡ 3 → with_congestion b ≡ b
congested_same b long is = elim (cases_Bool (version b == 4)) [
  | inl four ↦
      let low : slice_index b 1 % 4 ≡ 3 = sym (cond-true (version b == 4) (ipv4_ecn b) (ipv6_traffic_class b % 4) four) ∙ is in
      set_same b 1 (bit_or (slice_index b 1) (if version b == 4 then 3 else 48)) (omega (arith, long))
      (sym (ap (bit_or (slice_index b 1)) (cond-true (version b == 4) 3 48 four) ∙ low_bits (slice_index b 1) low))
  | inr six ↦
      let high : (16 * (slice_index b 0 % 16) + slice_index b 1 / 16) % 4 ≡ 3 = sym (cond-false (version b == 4) (ipv4_ecn b) (ipv6_traffic_class b % 4) six) ∙ is in
      set_same b 1 (bit_or (slice_index b 1) (if version b == 4 then 3 else 48)) (omega (arith, long))
      (sym (ap (bit_or (slice_index b 1)) (cond-false (version b == 4) 3 48 six) ∙ high_bits (slice_index b 1) (omega (arith, high))))
]

pub marked_same : (c : Bool) (b : List ℕ) → 2 ≤ length b → (c ≡ true → point_of b ≡ 3) → marked c b ≡ b
marked_same true b long is = congested_same b long (is refl)
marked_same false b long is = refl
