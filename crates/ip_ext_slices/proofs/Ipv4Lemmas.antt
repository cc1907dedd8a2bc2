-- The longest chain of IPv4 extension headers: one header, or none.
use Rattle.ip_spec.proofs.Common.{common_steps, ◌≡◌, ℕ, List, ◌∷◌, length, take, drop, arith, rules, [], NoPrefix, IsPrefix, IsAuthHeader, next_header, ExtHeader, IsChain, headers_within, AtMostOneOf, IsLongestUnder}
use Rattle.ip_spec.proofs.HeaderLemmas.{auth_of}
use Rattle.ip_spec.proofs.UnderLemmas.{some_longest_under, one_longest_under}
use Rattle.ip_spec.proofs.ParsedLemmas.{has_parsed_none, parsed_longest_under}
use Rattle.ip_spec.proofs.ShorterLemmas.{longest_shorter}
use Rattle.ip_spec.proofs.DemandKinds.{at_most_one_of}
use Rattle.ip_ext_slices.specs.Ipv4Longest.{longest_ipv4_chain}

pub ipv4_longest : (n : ℕ) (s : List ℕ) → IsLongestUnder (AtMostOneOf 51) n s (longest_ipv4_chain n s)
ipv4_longest n s = (some_longest_under (AtMostOneOf 51) (at_most_one_of 51) n s).1

-- of truncated bytes it is the header that lies wholly within them
pub whole_header : (n : ℕ) (s : List ℕ) (c : List ExtHeader) → c ≡ longest_ipv4_chain n s → (j : ℕ) → longest_ipv4_chain n (take j s) ≡ headers_within j c
whole_header n s c is j = rw is (longest_shorter (AtMostOneOf 51) (at_most_one_of 51) n j s (longest_ipv4_chain n s) (longest_ipv4_chain n (take j s)) (ipv4_longest n s) (ipv4_longest n (take j s)))

-- the chain of one authentication header
abbrev pub chain_of : List ℕ → List ExtHeader
chain_of b = record { number = 51; bytes = b } ∷ []

-- A property of no header and of one authentication header holds for any chain of at most one.
pub by_one : (P : List ExtHeader → Type 0) (n : ℕ) → P [] → ((b : List ℕ) → n ≡ 51 → IsAuthHeader b → P (chain_of b)) → (c : List ExtHeader) → IsChain n c → AtMostOneOf 51 c → P c
by_one P n none one c k o = grind (arith, common_steps, auth_of)

module _ (n : ℕ) (s : List ℕ) where
  -- if the number is 51 and an authentication header starts the bytes, the header is the chain
  pub one_longest : (b : List ℕ) → n ≡ 51 → IsAuthHeader b → IsPrefix b s → longest_ipv4_chain n s ≡ chain_of b
  one_longest b e header prefix =
      let whole = parsed_longest_under (AtMostOneOf 51) (at_most_one_of 51) n s (chain_of b) (next_header b) (drop (length b) s) (search (rules, has_parsed_none)) (λ g y q. omega (arith, q.one)) in
      one_longest_under (AtMostOneOf 51) (at_most_one_of 51) n s _ (chain_of b) (ipv4_longest n s) whole

  -- otherwise the chain is empty
  pub none_longest : (n ≡ 51 → NoPrefix IsAuthHeader s) → longest_ipv4_chain n s ≡ []
  none_longest none = search rules
