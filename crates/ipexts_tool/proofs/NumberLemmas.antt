-- The number that a text is the numeral of.
use Rattle.ip_spec.proofs.Common.{◌≡◌, lit≤, ℕ, zero, suc, ◌+◌, ◌-◌, ◌*◌, ◌^◌, ◌<◌, ◌≤◌, List, length, take, get_or, refl, arith, rules, common_steps, find, range_with_len, bytes_eq, AllDigits, digits_value, IsInRange, IsOutOfRange, decimal, cond-false, false_from_ne_true, cases_eq, bytes_eq-Decides, numerals_by_value, tells_digits, digit_at, digits_value-take-le, digits_value_more, digits_more, nat_tests, take_all, decimal_injective, decimal_is_IsNumeral, decimal_digit, first_decimal, decimal-digits_value, Some, None}
use Rattle.ipexts_tool.specs.LineFields.{decimal_of}

-- for any range, since a tactic would unfold a literal bound
module _ (text : List ℕ) where
  found_in : (n a m : ℕ) → n < 2 ^ 64 → a + m ≤ 2 ^ 64 → a ≤ n → n < a + m → decimal n ≡ text
      → find (λ k. bytes_eq (decimal k) text) (range_with_len a m) ≡ Some n
  found_in n a zero fits all low high e = absurd (omega arith)
  found_in n a (suc m) fits all low high e =
      search (rules, cases_eq a n, cond-false, false_from_ne_true, bytes_eq-Decides, decimal_injective a n, found_in n (a + 1) m fits)

  absent_in : (a m : ℕ) → ((n : ℕ) → n < a + m → decimal n ≡ text → ⊥) → find (λ k. bytes_eq (decimal k) text) (range_with_len a m) ≡ None
  absent_in a zero none = refl
  absent_in a (suc m) none = grind (arith, cond-false, false_from_ne_true, bytes_eq-Decides, absent_in (a + 1) m (λ n below e. none n (omega arith) e))

  pub decimal_of-some : (n : ℕ) → n < 256 → decimal n ≡ text → decimal_of text ≡ Some n
  unfolding decimal_of
  decimal_of-some n below e = found_in n 0 256 (omega arith) (lit≤ tt) (omega arith) (omega arith) e

  pub decimal_of-none : ((n : ℕ) → n < 256 → decimal n ≡ text → ⊥) → decimal_of text ≡ None
  unfolding decimal_of
  decimal_of-none none = absent_in 0 256 (λ n below e. none n (omega arith) e)

module _ (text : List ℕ) where
  -- digits without a leading zero
  pub decimal_of-digits : AllDigits 10 text → 0 < length text → (get_or text 0 0 ≡ 48 → length text ≡ 1) → digits_value 10 text < 256
      → decimal_of text ≡ Some (digits_value 10 text)
  decimal_of-digits digits some plain below = search (rules, decimal_of-some, decimal-digits_value (numerals_by_value (AllDigits 10) tells_digits))

  pub decimal_of-empty : length text ≡ 0 → decimal_of text ≡ None
  decimal_of-empty empty = search (rules, decimal_of-none, decimal_is_IsNumeral)

  -- a prefix of the digits is too large already
  pub decimal_of-too_large : (i : ℕ) → 256 ≤ digits_value 10 (take i text) → decimal_of text ≡ None
  decimal_of-too_large i large = grind (arith, common_steps, decimal_of-none, decimal_is_IsNumeral, digits_value-take-le)

  pub decimal_of-leading_zero : get_or text 0 0 ≡ 48 → 1 < length text → decimal_of text ≡ None
  decimal_of-leading_zero zero_first long = search (rules, decimal_of-none, cases_eq, decimal_digit, first_decimal)

-- ---- one digit more

module _ (text : List ℕ) (i : ℕ) (inside : i < length text) where
  -- a byte that is not a digit
  pub decimal_of-other_byte : IsOutOfRange 48 57 (get_or text i 0) → decimal_of text ≡ None
  decimal_of-other_byte other = search (rules, decimal_of-none, decimal_is_IsNumeral, digit_at)

  pub digits_value-next : IsInRange 48 57 (get_or text i 0) → digits_value 10 (take (i + 1) text) ≡ digits_value 10 (take i text) * 10 + (get_or text i 0 - 48)
  digits_value-next digit = grind (arith, nat_tests, digits_value_more)

  pub AllDigits-next : AllDigits 10 (take i text) → IsInRange 48 57 (get_or text i 0) → AllDigits 10 (take (i + 1) text)
  AllDigits-next digits digit = grind (arith, nat_tests, digits_more)

-- what a loop over the digits needs
pub ruleset numbers = (decimal_of-empty, decimal_of-leading_zero, decimal_of-other_byte, decimal_of-too_large, decimal_of-digits, digits_value-next, AllDigits-next, take_all)
