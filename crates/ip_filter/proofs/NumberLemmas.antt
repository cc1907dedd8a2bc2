-- The number that digits write.
use Rattle.std.specs.Char.{is_digit}
use Rattle.std.specs.List.{list_all}
use Rattle.std.specs.Str.Parse.{digits_value}
use Rattle.std.proofs.Common.{Some, None}
use Rattle.std.proofs.lemmas.Str.Parse.{digits_value-take-le}
use Rattle.std.proofs.lemmas.List.Folds.{list_all_more}
use Rattle.ip_spec.proofs.Common.{◌≡◌, ℕ, ◌+◌, ◌*◌, ◌<◌, ◌≤◌, List, length, take, get_or, arith, common_steps, true, digit_value, nat_tests, digits_value_more}
use Rattle.ip_filter.specs.Numbers.{numeral, limited}

module _ (most radix : ℕ) (ds : List ℕ) where
  pub too_large : (i : ℕ) → 1 ≤ radix → most < digits_value radix (take i ds) → None ≡ limited most (numeral radix ds)
  too_large i some large = grind (arith, common_steps, nat_tests, digits_value-take-le radix ds i some)

  pub all_digits : (n : ℕ) → 0 < length ds → list_all (λ c. is_digit c radix) ds ≡ true → n ≡ digits_value radix ds → n ≤ most → Some n ≡ limited most (numeral radix ds)
  all_digits n some digits value fits = grind (arith, common_steps, nat_tests)

  module _ (i : ℕ) (inside : i < length ds) where
    pub overflow_mul : 1 ≤ radix → most < digits_value radix (take i ds) * radix → None ≡ limited most (numeral radix ds)
    overflow_mul some large = too_large (i + 1) some (omega (arith, digits_value_more radix ds i inside))

    pub overflow_add : 1 ≤ radix → most < digits_value radix (take i ds) * radix + digit_value (get_or ds i 0) → None ≡ limited most (numeral radix ds)
    overflow_add some large = too_large (i + 1) some (omega (arith, digits_value_more radix ds i inside))

    pub digits_go_on : list_all (λ c. is_digit c radix) (take i ds) ≡ true → digit_value (get_or ds i 0) < radix → list_all (λ c. is_digit c radix) (take (i + 1) ds) ≡ true
    digits_go_on digits digit = grind (arith, common_steps, nat_tests, list_all_more (λ c. is_digit c radix) ds i 0 inside)
