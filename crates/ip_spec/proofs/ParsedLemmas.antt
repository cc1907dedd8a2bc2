-- A chain that is parsed from the start of bytes.
use Rattle.ip_spec.proofs.Common.{◌≡◌, ℕ, ◌-◌, List, [], ◌∷◌, ◌++◌, length, drop, ap, sym, arith, nat_eq, rules, Option, drop-append_seam, common_steps, next_header, AreBytes, ExtHeader, leads_to, bytes_of, is_empty, IsChain, IsPrefixChain, IsLongestChain, IsNext, IsEnd, IsAnswer, IsParsed, IsDemand, IsLongestUnder, IsEndUnder, NoDemand}
use Rattle.ip_spec.proofs.PrefixLemmas.{prefix-length, prefix_of-append, rest_join}
use Rattle.ip_spec.proofs.UnderLemmas.{longest_at_end_under, one_longest_under, some_longest_under, whole_longest_under, no_demand, longest_without}
use Rattle.ip_spec.proofs.ChainLemmas.{no_chain, goes_on, bytes_of-more, leads_to-more, bytes_of-least}

-- the chain c from n has been parsed from s, leads to m and leaves r
pub record HasParsed (n : ℕ) (s : List ℕ) (c : List ExtHeader) (m : ℕ) (r : List ℕ) : Type 0 where
  pub prefix_chain : IsPrefixChain n s c
  pub number : m ≡ leads_to n c
  pub rest : r ≡ drop (length (bytes_of c)) s

pub has_parsed_none : (n : ℕ) (s : List ℕ) → HasParsed n s [] n s
has_parsed_none n s = search (rules, no_chain)

module _ (n : ℕ) (s : List ℕ) (c : List ExtHeader) (m : ℕ) (r : List ℕ) where
  pub next_there : (h : ExtHeader) → HasParsed n s c m r → IsNext (is_empty c) m r h → IsNext (is_empty c) (leads_to n c) (drop (length (bytes_of c)) s) h
  next_there h p x = search rules

  pub next_here : (h : ExtHeader) → HasParsed n s c m r → IsNext (is_empty c) (leads_to n c) (drop (length (bytes_of c)) s) h → IsNext (is_empty c) m r h
  next_here h p x = search rules

  pub has_parsed_next : (h : ExtHeader) → HasParsed n s c m r → IsNext (is_empty c) m r h → HasParsed n s (c ++ h ∷ []) (next_header h.bytes) (drop (length h.bytes) r)
  has_parsed_next h p x =
      let there = next_there h p x in
      record {
        prefix_chain = goes_on n s c h p.prefix_chain there;
        number = sym (leads_to-more n c h);
        rest = cc (rest_join (bytes_of c) h.bytes s p.prefix_chain.prefix there.prefix, bytes_of-more c h);
      }

-- in addition, c meets the demand Q
pub record HasParsedUnder (Q : List ExtHeader → Type 0) (n : ℕ) (s : List ℕ) (c : List ExtHeader) (m : ℕ) (r : List ℕ) : Type 0 where
  pub read : HasParsed n s c m r
  pub meets : Q c

module _ (Q : List ExtHeader → Type 0) (k : IsDemand Q) (n : ℕ) (s : List ℕ) (c : List ExtHeader) (m : ℕ) (r : List ℕ) where
  -- if no header follows that still meets the demand, the chain parsed is the longest under it
  pub parsed_longest_under : HasParsedUnder Q n s c m r → IsEndUnder Q c m r → IsLongestUnder Q n s c
  parsed_longest_under p e = search (rules, longest_at_end_under, next_here)

  -- so it is the result, for any value and errors computed from chains
  pub parsed_answers : {X F : Type 0} (value_of : List ExtHeader → X) (faults : List ExtHeader → ℕ → List ℕ → Option F) (x : X) (f : Option F) → HasParsedUnder Q n s c m r → IsEndUnder Q c m r → x ≡ value_of c → f ≡ faults c m r
      → IsAnswer value_of faults (some_longest_under Q k n s).0 n s x m r f
  parsed_answers value_of faults x f p e value fault =
      rw (one_longest_under Q k n s _ c (some_longest_under Q k n s).1 (parsed_longest_under p e)) (search rules)

module _ (Q : List ExtHeader → Type 0) (k : IsDemand Q) (n m : ℕ) where
  -- a chain is parsed from its bytes with more bytes after them
  pub has_parsed_before : (c : List ExtHeader) (r : List ℕ) → IsChain n c → Q c → m ≡ leads_to n c → HasParsedUnder Q n (bytes_of c ++ r) c m r
  has_parsed_before c r chain meets number = search (rules, prefix_of-append, drop-append_seam)

  -- and from its own bytes with nothing left
  pub whole_parsed : (V : List ExtHeader → Type 0) (s : List ℕ) (c : List ExtHeader) → IsChain n c → Q c → V c → leads_to n c ≡ m → bytes_of c ≡ s → AreBytes s → IsParsed Q V n m s
  whole_parsed V s c chain meets value number all bytes = grind (arith, common_steps, whole_longest_under Q k n c chain meets)

  -- A result with nothing left is also the result with more bytes after it, if no header follows.
  pub parsed_again : {X F : Type 0} (value_of : List ExtHeader → X) (faults : List ExtHeader → ℕ → List ℕ → Option F) (x : X) (f : Option F) (s r : List ℕ) (e : IsParsed Q (λ c. value_of c ≡ x) n m s) → IsEndUnder Q e.chain m r → f ≡ faults e.chain m r
      → IsAnswer value_of faults (some_longest_under Q k n (s ++ r)).0 n (s ++ r) x m r f
  parsed_again value_of faults x f s r e ends fault =
      let read = has_parsed_before e.chain r e.longest.has.0.chain e.longest.has.1 (sym e.number) in
      rw (← e.all) (parsed_answers Q k n (bytes_of e.chain ++ r) e.chain m r value_of faults x f read ends (sym e.value) fault)

module _ (n : ℕ) (s : List ℕ) (c : List ExtHeader) (m : ℕ) (r : List ℕ) where
  -- the number of bytes parsed, and whether there are any
  pub offset_is : HasParsed n s c m r → length s - length r ≡ length (bytes_of c)
  offset_is p = omega (arith, prefix-length (bytes_of c) s p.prefix_chain.prefix, ap length p.rest)

  pub parsed_longest : HasParsed n s c m r → IsEnd (is_empty c) m r → IsLongestChain n s c
  parsed_longest p e = longest_without n s c (parsed_longest_under NoDemand no_demand n s c m r (record { read = p; meets = tt }) (λ h x q. e h x))

-- the bytes after a chain are all bytes if and only if it is empty
pub first_is : (n : ℕ) (s : List ℕ) (c : List ExtHeader) (m : ℕ) (r : List ℕ) → HasParsed n s c m r → nat_eq (length r) (length s) ≡ is_empty c
first_is n s c m r p = grind (arith, common_steps, bytes_of-least c, prefix-length (bytes_of c) s)

-- The step and the end as in the code: the number of bytes left shows whether the header is the first.
module _ (n : ℕ) (s : List ℕ) (c : List ExtHeader) (m : ℕ) (r : List ℕ) where
  pub has_parsed_on : (h : ExtHeader) (j : ℕ) (q b : List ℕ) → HasParsed n s c m r → IsNext (nat_eq (length r) (length s)) m r h → j ≡ next_header h.bytes → b ≡ h.bytes → q ≡ drop (length b) r → HasParsed n s (c ++ h ∷ []) j q
  has_parsed_on h j q b p x ej eb eq = rw (ej, eq, eb) (has_parsed_next n s c m r h p (rw (first_is n s c m r p) at x))

  pub no_next_here : HasParsed n s c m r → IsEnd (nat_eq (length r) (length s)) m r → IsEnd (is_empty c) m r
  no_next_here p e = rw (first_is n s c m r p) at e
