-- Chains at the start of bytes: the next header, and the longest chain. They are the chains under no demand.
use Rattle.ip_spec.proofs.Common.{◌≡◌, ℕ, List, length, drop, rules, ExtHeader, leads_to, bytes_of, is_empty, IsChain, IsPrefixChain, IsLongestChain, IsEnd, NoDemand}
use Rattle.ip_spec.proofs.UnderLemmas.{longest_at_end_under, longest_ends_under, one_longest_under, some_longest_under, whole_longest_under, no_demand, longest_under_none, longest_without}
pub use Rattle.ip_spec.proofs.StepLemmas.{no_chain, bytes_of-more, leads_to-more, begins, next_of, goes_on, chains_grow, bytes_of-least, first_next, tail_chain}

module _ (n : ℕ) (s : List ℕ) (c : List ExtHeader) where
  -- if no header follows, the chain is the longest, and vice versa
  pub longest_at_end : IsPrefixChain n s c → IsEnd (is_empty c) (leads_to n c) (drop (length (bytes_of c)) s) → IsLongestChain n s c
  longest_at_end p e = search (rules, longest_without, longest_at_end_under, no_demand)

  pub longest_ends : IsLongestChain n s c → IsEnd (is_empty c) (leads_to n c) (drop (length (bytes_of c)) s)
  longest_ends l h x = longest_ends_under NoDemand no_demand n s c (longest_under_none n s c l) h x tt

pub one_longest : (n : ℕ) (s : List ℕ) (c d : List ExtHeader) → IsLongestChain n s c → IsLongestChain n s d → c ≡ d
one_longest n s c d l m = one_longest_under NoDemand no_demand n s c d (longest_under_none n s c l) (longest_under_none n s d m)

-- there is a longest chain
pub some_longest : (n : ℕ) (s : List ℕ) → (c : List ExtHeader) × IsLongestChain n s c
some_longest n s = let longest = some_longest_under NoDemand no_demand n s in (longest.0, longest_without n s longest.0 longest.1)

-- a chain is the longest of its own bytes
pub whole_longest : (n : ℕ) (c : List ExtHeader) → IsChain n c → IsLongestChain n (bytes_of c) c
whole_longest n c chain = longest_without n (bytes_of c) c (whole_longest_under NoDemand no_demand n c chain tt)
