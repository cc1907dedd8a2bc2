-- The index of a byte in a word.
use Rattle.std.proofs.Common.{suc}
use Rattle.std.proofs.Math.Seq.{drop-cons}
use Rattle.ip_spec.proofs.Common.{◌≡◌, ℕ, ◌<◌, ◌≤◌, ◌≢◌, List, length, drop, get_or, ap, arith, common_steps, nat_tests, drop_all}
use Rattle.ip_filter.specs.Numbers.{index_of}

module _ (byte : ℕ) (w : List ℕ) (i : ℕ) where
  pub byte_later : i < length w → get_or w i 0 ≢ byte → index_of byte (drop i w) ≡ suc (index_of byte (drop (suc i) w))
  byte_later inside other = grind (arith, common_steps, nat_tests, drop-cons w i 0 inside)

  pub byte_here : i < length w → get_or w i 0 ≡ byte → index_of byte (drop i w) ≡ 0
  byte_here inside here = grind (arith, common_steps, nat_tests, drop-cons w i 0 inside)

  pub no_byte : length w ≤ i → index_of byte (drop i w) ≡ 0
  no_byte past = ap (index_of byte) (drop_all i w past)
