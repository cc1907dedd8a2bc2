-- The chains of truncated bytes are the chains of all bytes that lie within them.
use Rattle.ip_spec.proofs.Common.{◌≡◌, ℕ, ◌+◌, ◌-◌, ◌≤◌, List, [], ◌∷◌, ◌++◌, length, take, refl, ap, arith, rules, take-take, length-append, le-ltb, common_steps, ExtHeader, bytes_of, headers_within, IsPrefixChain, IsDemand, NextBreaks, KeepsBeginning, IsLongestUnder}
use Rattle.ip_spec.proofs.PrefixLemmas.{prefix-length}
use Rattle.ip_spec.proofs.LongestOfLemmas.{longest_same}
use Rattle.ip_spec.proofs.DemandLemmas.{IsUnder, kept_where_longest}
use Rattle.ip_spec.proofs.UnderLemmas.{chains_grow_under}
use Rattle.ip_spec.proofs.DemandKinds.{IsWithin, within}

length_with : (h : ExtHeader) (c : List ExtHeader) → length (bytes_of (h ∷ c)) ≡ length h.bytes + length (bytes_of c)
length_with h c = length-append h.bytes (bytes_of c)

breaks_after : (j : ℕ) (h : ExtHeader) (c rest : List ExtHeader) → length h.bytes ≤ j → NextBreaks (IsWithin j) (h ∷ c) rest → NextBreaks (IsWithin (j - length h.bytes)) c rest
breaks_after j h c rest few breaks = search (rules, length_with)

-- a bound on the bytes keeps the headers within it
within_is : (j : ℕ) (c rest : List ExtHeader) → IsWithin j c → NextBreaks (IsWithin j) c rest → c ≡ headers_within j (c ++ rest)
within_is j [] [] meets breaks = refl
within_is j [] (x ∷ rest) meets breaks = search rules
within_is j (h ∷ c) rest meets breaks =
    let few : length h.bytes ≤ j = omega (arith, meets, length_with h c) in
    rw (le-ltb j (length h.bytes) few) (ap (λ d. h ∷ d) (within_is (j - length h.bytes) c rest (omega (arith, meets, length_with h c)) (breaks_after j h c rest few breaks)))

module _ (Q : List ExtHeader → Type 0) (k : IsDemand Q) (n j : ℕ) (s : List ℕ) where
  shorter_under : (c : List ExtHeader) → IsUnder Q (IsPrefixChain n (take j s)) c → IsUnder (IsWithin j) (IsUnder Q (IsPrefixChain n s)) c
  shorter_under c u = search (rules, common_steps, prefix-length, take-take)

  under_shorter : (c : List ExtHeader) → IsUnder (IsWithin j) (IsUnder Q (IsPrefixChain n s)) c → IsUnder Q (IsPrefixChain n (take j s)) c
  under_shorter c u = search (rules, take-take)

  shorter_kept : (d c : List ExtHeader) → IsLongestUnder Q n s d → IsLongestUnder Q n (take j s) c → KeepsBeginning (IsWithin j) d c
  shorter_kept d c l m =
      kept_where_longest (IsUnder Q (IsPrefixChain n s)) (IsWithin j) (chains_grow_under Q k n s) (within j) d c l
      (longest_same (IsUnder Q (IsPrefixChain n (take j s))) (IsUnder (IsWithin j) (IsUnder Q (IsPrefixChain n s))) shorter_under under_shorter c m)

  -- of the longest chain of all bytes, truncated bytes keep the headers that lie wholly within them
  pub longest_shorter : (d c : List ExtHeader) → IsLongestUnder Q n s d → IsLongestUnder Q n (take j s) c → c ≡ headers_within j d
  longest_shorter d c l m = search (rules, shorter_kept d c l m, within_is)
