use Rattle.std.proofs.Common.{◌≡◌, ◌<◌, ◌^◌, take, true}
use Rattle.std.specs.Char.{is_digit}
use Rattle.std.specs.List.{list_all}
use Rattle.std.specs.Str.Parse.{digits_value}
use Rattle.ip_filter.proofs.numbers.parse_digits.Given as goal

-- the bytes so far are digits, and the number is their value
abbrev pub invariant-digits : goal.invariant-digits
invariant-digits l = record {
  digits : list_all (λ c. is_digit c l.radix) (take l.byte-index l.digits) ≡ true;
  value : l.number ≡ digits_value l.radix (take l.byte-index l.digits);
  fits : l.number < 2 ^ 64;
}
