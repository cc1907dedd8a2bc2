-- Chains under a demand: the next header, the longest, and its relation to the longest without a demand.
use Rattle.ip_spec.proofs.Common.{◌≡◌, ℕ, List, length, drop, inl, rules, take-length, drop-length, ExtHeader, leads_to, bytes_of, IsChain, IsPrefixChain, IsLongestChain, IsDemand, KeepsBeginning, IsLongestUnder, IsEndUnder, NoDemand, length-append}
use Rattle.ip_spec.proofs.PrefixLemmas.{prefix-length}
use Rattle.ip_spec.proofs.HeaderLemmas.{header-least}
use Rattle.ip_spec.proofs.LongestOfLemmas.{Grows, longest_where_none_next, one_longest_of, longest_same}
use Rattle.ip_spec.proofs.DemandLemmas.{IsUnder, under_grows, some_longest_under_of, longest_where_kept, kept_where_longest}
use Rattle.ip_spec.proofs.StepLemmas.{next_of, goes_on, chains_grow, chains_decide, chain-bound, no_header_prefix}

module _ (Q : List ExtHeader → Type 0) (k : IsDemand Q) (n : ℕ) (s : List ℕ) where
  pub chains_grow_under : Grows (IsUnder Q (IsPrefixChain n s))
  chains_grow_under = under_grows (IsPrefixChain n s) Q (chains_grow n s) k

  -- if no header follows that still meets the demand, the chain is the longest, and vice versa
  pub longest_at_end_under : (c : List ExtHeader) → IsUnder Q (IsPrefixChain n s) c → IsEndUnder Q c (leads_to n c) (drop (length (bytes_of c)) s) → IsLongestUnder Q n s c
  longest_at_end_under c p e = longest_where_none_next (IsUnder Q (IsPrefixChain n s)) chains_grow_under c p (λ h u. e h (next_of n s c h u.0) u.1)

  pub longest_ends_under : (c : List ExtHeader) → IsLongestUnder Q n s c → IsEndUnder Q c (leads_to n c) (drop (length (bytes_of c)) s)
  longest_ends_under c l h x q = search (rules, IsUnder, goes_on, length-append)

  pub one_longest_under : (c d : List ExtHeader) → IsLongestUnder Q n s c → IsLongestUnder Q n s d → c ≡ d
  one_longest_under c d = one_longest_of (IsUnder Q (IsPrefixChain n s)) chains_grow_under c d

  pub some_longest_under : (c : List ExtHeader) × IsLongestUnder Q n s c
  some_longest_under = some_longest_under_of (IsPrefixChain n s) Q (chains_grow n s) k (chains_decide n s) (length s) (chain-bound n s) (no_header_prefix n s)

  -- Of the longest chain d, the demand keeps exactly the longest chain under it.
  pub longest_keeps : (d c : List ExtHeader) → IsLongestChain n s d → IsLongestUnder Q n s c → KeepsBeginning Q d c
  longest_keeps = kept_where_longest (IsPrefixChain n s) Q (chains_grow n s) k

  pub kept_is_longest : (d c : List ExtHeader) → IsLongestChain n s d → KeepsBeginning Q d c → IsLongestUnder Q n s c
  kept_is_longest = longest_where_kept (IsPrefixChain n s) Q (chains_grow n s) k

-- a chain that meets the demand is the longest of its own bytes
pub whole_longest_under : (Q : List ExtHeader → Type 0) → IsDemand Q → (n : ℕ) (c : List ExtHeader) → IsChain n c → Q c → IsLongestUnder Q n (bytes_of c) c
whole_longest_under Q k n c chain q =
    longest_at_end_under Q k n (bytes_of c) c (record { chain = chain; prefix = take-length (bytes_of c) }, q)
    (λ h x m. search (rules, header-least, prefix-length, drop-length))

-- Without a demand the chains are the same.
pub no_demand : IsDemand NoDemand
no_demand = record { empty = tt; begins = λ c d q. tt; decided = λ c. inl tt }

module _ (n : ℕ) (s : List ℕ) where
  pub longest_under_none : (c : List ExtHeader) → IsLongestChain n s c → IsLongestUnder NoDemand n s c
  longest_under_none = longest_same (IsPrefixChain n s) (IsUnder NoDemand (IsPrefixChain n s)) (λ c p. (p, tt)) (λ c u. u.0)

  pub longest_without : (c : List ExtHeader) → IsLongestUnder NoDemand n s c → IsLongestChain n s c
  longest_without = longest_same (IsUnder NoDemand (IsPrefixChain n s)) (IsPrefixChain n s) (λ c u. u.0) (λ c p. (p, tt))
