-- The longest chain, and the longest chain that is all of some bytes.
use Rattle.ip_spec.proofs.Common.{common_steps, ◌≡◌, ◌≢◌, ℕ, ◌*◌, ◌≤◌, List, ◌∷◌, length, take, drop, arith, Bool, true, false, nat_eq, rules, [], Option, IfNone, IsSome, drop-drop, length-append, ne_eqb, next_header, ExtHeader, leads_to, bytes_of, headers_within, is_empty, IsChain, IsPrefixChain, IsLongestChain, IsNext, IsEnd, rest_after, NoDemand}
use Rattle.ip_spec.proofs.PrefixLemmas.{prefix-length, prefix_first, prefix_second, rest_join}
use Rattle.ip_spec.proofs.HeaderLemmas.{header-least, one_next}
use Rattle.ip_spec.proofs.UnderLemmas.{no_demand, longest_under_none}
use Rattle.ip_spec.proofs.ShorterLemmas.{longest_shorter}
use Rattle.ip_spec.proofs.ChainLemmas.{some_longest, one_longest, whole_longest, longest_at_end, longest_ends, first_next, tail_chain, bytes_of-least}
use Rattle.ip_ext_slices.specs.Longest.{longest_chain, longest_from}

pub longest_chain-longest : (n : ℕ) (s : List ℕ) → IsLongestChain n s (longest_chain n s)
longest_chain-longest n s = (some_longest n s).1

pub longest_chain-is : (n : ℕ) (s : List ℕ) (c : List ExtHeader) → IsLongestChain n s c → longest_chain n s ≡ c
longest_chain-is n s c l = one_longest n s (longest_chain n s) c (longest_chain-longest n s) l

-- of truncated bytes it is the headers that lie wholly within them
pub longest_chain_shorter : (n j : ℕ) (s : List ℕ) → longest_chain n (take j s) ≡ headers_within j (longest_chain n s)
longest_chain_shorter n j s = search (rules, longest_shorter NoDemand no_demand, longest_under_none, longest_chain-longest)

-- a chain is the longest of its own bytes
pub longest_chain-bytes_of : (n : ℕ) (c : List ExtHeader) → IsChain n c → longest_chain n (bytes_of c) ≡ c
longest_chain-bytes_of n c k = longest_chain-is n (bytes_of c) c (whole_longest n c k)

-- each of its headers has at least 8 bytes
pub longest_chain-least : (n : ℕ) (s : List ℕ) → 8 * length (longest_chain n s) ≤ length (bytes_of (longest_chain n s))
longest_chain-least n s = bytes_of-least (longest_chain n s) (longest_chain-longest n s).has.chain.headers

some_next : (n : ℕ) (r : List ℕ) (c : List ExtHeader) → IsPrefixChain n r c → bytes_of c ≡ r → nat_eq (length r) 0 ≡ false → (h : ExtHeader) × IsNext true n r h
some_next n r c p e f = search (rules, nat_eq, first_next)

-- if it is all of some nonempty bytes, they start with a header
pub whole_goes_on : (n : ℕ) (r : List ℕ) → bytes_of (longest_chain n r) ≡ r → nat_eq (length r) 0 ≡ false → (h : ExtHeader) × IsNext true n r h
whole_goes_on n r e f = some_next n r (longest_chain n r) (longest_chain-longest n r).has e f

-- c is a header and what follows it
record Split (n : ℕ) (r : List ℕ) (h : ExtHeader) (c : List ExtHeader) : Type 0 where
  others : List ExtHeader
  split : c ≡ h ∷ others
  chain : IsChain (next_header h.bytes) others
  bytes : bytes_of others ≡ drop (length h.bytes) r

split_chain : (n : ℕ) (r : List ℕ) (h : ExtHeader) (c : List ExtHeader) → IsPrefixChain n r c → bytes_of c ≡ r → IsNext true n r h → Split n r h c
split_chain n r h c p e x = grind (arith, common_steps)

-- removing its first header leaves the longest chain of the remaining bytes, which is all of them
pub whole_split : (n : ℕ) (r : List ℕ) (h : ExtHeader) (k : ℕ) (q b : List ℕ) → bytes_of (longest_chain n r) ≡ r → IsNext true n r h → k ≡ next_header h.bytes → b ≡ h.bytes → q ≡ drop (length b) r
    → (longest_chain n r ≡ h ∷ longest_chain k q) × (bytes_of (longest_chain k q) ≡ q)
whole_split n r h k q b e x ek eb eq = grind (arith, split_chain n r h (longest_chain n r) (longest_chain-longest n r).has e x, longest_chain-bytes_of)

-- a value that is absent only at an end is present if a header follows
pub some_where_next : {A : Type 0} (o : Option A) (first : Bool) (m : ℕ) (s : List ℕ) → IfNone o (IsEnd first m s) → ((h : ExtHeader) × IsNext first m s h) → IsSome o
some_where_next o first m s e h5 = search rules

-- at an end no header is left
pub longest_from_end : (first : Bool) (m : ℕ) (r : List ℕ) → IsEnd first m r → longest_from first m r ≡ []
longest_from_end first m r e = search (rules, first_next, longest_chain-longest)

-- each of its headers has at least 8 bytes
pub longest_chain-within : (n : ℕ) (s : List ℕ) → 8 * length (longest_chain n s) ≤ length s
longest_chain-within n s = omega (arith, longest_chain-least n s, prefix-length (bytes_of (longest_chain n s)) s (longest_chain-longest n s).has.prefix)

pub longest_from_least : (first : Bool) (n : ℕ) (s : List ℕ) → 8 * length (longest_from first n s) ≤ length s
longest_from_least first n s = search (rules, longest_chain-within)

end_after : (k : ℕ) (q : List ℕ) (c : List ExtHeader) → k ≢ 0 → IsEnd false (leads_to k c) q → IsEnd (is_empty c) (leads_to k c) q
end_after k q c some e = search rules

-- the headers after the first of the longest chain are the longest chain there
module _ (n : ℕ) (r : List ℕ) (g : ExtHeader) (c : List ExtHeader) (l : IsLongestChain n r (g ∷ c)) where
  tail_longest : next_header g.bytes ≢ 0 → IsLongestChain (next_header g.bytes) (drop (length g.bytes) r) c
  tail_longest some =
      let second = prefix_second g.bytes (bytes_of c) r l.has.prefix in
      let after = rest_join g.bytes (bytes_of c) r (prefix_first g.bytes (bytes_of c) r l.has.prefix) second in
      longest_at_end _ _ c (record { chain = tail_chain n g c l.has.chain; prefix = second })
      (end_after _ _ c some (rw after (longest_ends n r (g ∷ c) l)))

  tail_is : c ≡ longest_from false (next_header g.bytes) (drop (length g.bytes) r)
  tail_is = search (rules, longest_chain-is, tail_longest)

longest_splits : (m : ℕ) (r : List ℕ) (h : ExtHeader) (c : List ExtHeader) → IsLongestChain m r c → IsNext true m r h → c ≡ h ∷ longest_from false (next_header h.bytes) (drop (length h.bytes) r)
longest_splits m r h [] l x = absurd (longest_ends m r [] l h x)
longest_splits m r h (g ∷ c) l x = cc (one_next true m r g h (first_next m r g c l.has) x, tail_is m r g c l)

-- if a header follows, it is the first that is left, and the others follow it
pub longest_from_next : (first : Bool) (m : ℕ) (r : List ℕ) (h : ExtHeader) → IsNext first m r h → longest_from first m r ≡ h ∷ longest_from false (next_header h.bytes) (drop (length h.bytes) r)
longest_from_next first m r h x = search (rules, longest_splits, longest_chain-longest)

-- The parts left of l bytes, at number m with r and then at number k with q, one header apart.
pub record GoesAfter (l : ℕ) (m : ℕ) (r : List ℕ) (h : ExtHeader) (k : ℕ) (q : List ℕ) : Type 0 where
  pub given : longest_from (nat_eq (length r) l) m r ≡ h ∷ longest_from (nat_eq (length q) l) k q
  pub leads : leads_to m (longest_from (nat_eq (length r) l) m r) ≡ leads_to k (longest_from (nat_eq (length q) l) k q)
  pub after : rest_after (longest_from (nat_eq (length r) l) m r) r ≡ rest_after (longest_from (nat_eq (length q) l) k q) q
  pub within : length q ≤ l

pub goes_after : (l m : ℕ) (r : List ℕ) (h : ExtHeader) (k : ℕ) (q b : List ℕ) → length r ≤ l → IsNext (nat_eq (length r) l) m r h → k ≡ next_header h.bytes → b ≡ h.bytes → q ≡ drop (length b) r → GoesAfter l m r h k q
goes_after l m r h k q b within x ek eb eq = search (rules, header-least, prefix-length, nat_eq, ne_eqb, longest_from_next, drop-drop, length-append)
