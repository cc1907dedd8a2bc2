-- The first headers of a chain, one after the other.
use Rattle.ip_spec.proofs.Common.{◌≡◌, ℕ, ◌+◌, ◌≤◌, List, [], ◌∷◌, ◌++◌, length, take, ◌∙◌, arith, rules, common_steps, append_assoc, length-append, take_at, ExtHeader, bytes_of, AtMost, IsLongestUnder}
use Rattle.ip_spec.proofs.ChainLemmas.{bytes_of-more}
use Rattle.ip_spec.proofs.RunsLemmas.{how_many-filled, how_many-more}
use Rattle.ip_spec.proofs.UnderLemmas.{one_longest_under}
use Rattle.ip_spec.proofs.DemandKinds.{at_most, longest_at_most}
use Rattle.ip_ext_slices.specs.Longest.{longest_chain}
use Rattle.ip_ext_slices.proofs.LongestLemmas.{longest_chain-longest}

-- the first i headers of the chain, whose length is `bytes`, have been taken, and the others are left
pub record FirstConsumed (chain left : List ExtHeader) (i bytes : ℕ) : Type 0 where
  pub consumed : List ExtHeader
  pub joined : consumed ++ left ≡ chain
  pub count : length consumed ≡ i
  pub bytes_consumed : bytes ≡ length (bytes_of consumed)

module _ (chain left rest : List ExtHeader) (h : ExtHeader) (i bytes : ℕ) (next : left ≡ h ∷ rest) where
  pub one_consumed : (b : List ℕ) → FirstConsumed chain left i bytes → b ≡ h.bytes → FirstConsumed chain rest (i + 1) (bytes + length b)
  one_consumed b p e = record {
    consumed = p.consumed ++ h ∷ [];
    joined = cc (p.joined, append_assoc p.consumed (h ∷ []) rest);
    count = search (rules, length-append, p.count);
    bytes_consumed = search (rules, p.bytes_consumed, bytes_of-more, length-append);
  }

module _ (k : ℕ) (chain left : List ExtHeader) (i bytes : ℕ) where
  -- none is left, or k have been taken
  pub all_consumed : FirstConsumed chain left i bytes → left ≡ [] → i ≤ k → bytes ≡ length (bytes_of (take k chain))
  all_consumed p none few = grind (arith, common_steps, p.joined, p.count, p.bytes_consumed)

  pub enough_consumed : FirstConsumed chain left i bytes → i ≡ k → bytes ≡ length (bytes_of (take k chain))
  enough_consumed p full = cc (p.bytes_consumed, take_at p.consumed left k (p.count ∙ full), p.joined)

-- they are the longest chain of at most k headers
pub first_are_longest : (k n : ℕ) (s : List ℕ) (x : ℕ) → x ≡ length (bytes_of (take k (longest_chain n s))) → (c : List ExtHeader) → IsLongestUnder (AtMost k) n s c → x ≡ length (bytes_of c)
first_are_longest k n s x e c l = cc (one_longest_under (AtMost k) (at_most k) n s (take k (longest_chain n s)) c (longest_at_most k n s (longest_chain n s) (longest_chain-longest n s)) l)

-- how many pieces a chain in runs has
pub ruleset pieces_counted = (how_many-filled, how_many-more)
