use Rattle.std.proofs.Common.{◌≡◌, ◌<◌, ℕ}
use Rattle.ip_filter.specs.Numbers.{mask_of}
use Rattle.ip_filter.proofs.networks.mask_len.Given as goal

-- the mask has none of the lengths so far
abbrev pub invariant-lengths : goal.invariant-lengths
invariant-lengths l = (k : ℕ) → k < l.len → l.mask ≡ mask_of k → ⊥
