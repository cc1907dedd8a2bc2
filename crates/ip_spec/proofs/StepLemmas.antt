-- Chains at the start of bytes, and the next header.
use Rattle.ip_spec.proofs.Common.{◌≡◌, ℕ, ◌*◌, ◌≤◌, List, [], ◌∷◌, ◌++◌, length, drop, refl, ap, ◌∙◌, arith, true, rules, AllByRecursion, append_assoc, append-nil, length-append, flat_map-append, common_steps, IsHeader, next_header, ExtHeader, AreLinked, leads_to, bytes_of, is_empty, IsChain, IsPrefixChain, IsNext}
use Rattle.ip_spec.proofs.PrefixLemmas.{prefix_first, prefix_second, prefix_join, prefix-length}
use Rattle.ip_spec.proofs.HeaderLemmas.{header-least, next_or, one_next}
use Rattle.ip_spec.proofs.LongestOfLemmas.{Grows, DecidesNext}

-- A property holds for each list if it holds for the empty list and for a list with one more element at its end.
more_from : {X : Type 0} (P : List X → Type 0) → ((c : List X) (x : X) → P c → P (c ++ x ∷ [])) → (c d : List X) → P c → P (c ++ d)
more_from P step c [] p = rw append-nil p
more_from P step c (x ∷ d) p = rw append_assoc at (more_from P step (c ++ x ∷ []) d (step c x p))

pub by_more : {X : Type 0} (P : List X → Type 0) → P [] → ((c : List X) (x : X) → P c → P (c ++ x ∷ [])) → (c : List X) → P c
by_more P none step c = more_from P step [] c none

-- A property of each element is one of each element of a prefix, of the element after it, and of both joined.
pub all_first : {X : Type 0} (P : X → Type 0) (c d : List X) → AllByRecursion P (c ++ d) → AllByRecursion P c
all_first P [] d a = tt
all_first P (x ∷ c) d a = (a.0, all_first P c d a.1)

pub all_next : {X : Type 0} (P : X → Type 0) (c : List X) (x : X) → AllByRecursion P (c ++ x ∷ []) → P x
all_next P [] x a = a.0
all_next P (y ∷ c) x a = all_next P c x a.1

pub all_more : {X : Type 0} (P : X → Type 0) (c : List X) (x : X) → AllByRecursion P c → P x → AllByRecursion P (c ++ x ∷ [])
all_more P [] x a p = (p, tt)
all_more P (y ∷ c) x a p = (a.0, all_more P c x a.1 p)

links_first : (n : ℕ) (c d : List ExtHeader) → AreLinked n (c ++ d) → AreLinked n c
links_first n [] d a = tt
links_first n (h ∷ c) d a = (a.0, links_first (next_header h.bytes) c d a.1)

links_next : (n : ℕ) (c : List ExtHeader) (h : ExtHeader) → AreLinked n (c ++ h ∷ []) → h.number ≡ leads_to n c
links_next n [] h a = a.0
links_next n (g ∷ c) h a = links_next (next_header g.bytes) c h a.1

links_more : (n : ℕ) (c : List ExtHeader) (h : ExtHeader) → AreLinked n c → h.number ≡ leads_to n c → AreLinked n (c ++ h ∷ [])
links_more n [] h a e = (e, tt)
links_more n (g ∷ c) h a e = (a.0, links_more (next_header g.bytes) c h a.1 e)

pub no_chain : (n : ℕ) → IsChain n []
no_chain n = record { headers = tt; links = tt; zero_only_first = tt }

-- A prefix of a chain is one, and a header with the number to which a chain leads extends it.
module _ (n : ℕ) (c : List ExtHeader) where
  pub chain_begins : (d : List ExtHeader) → IsChain n (c ++ d) → IsChain n c
  chain_begins d k = search (rules, all_first, links_first)

  module _ (h : ExtHeader) where
    pub chain_number : IsChain n (c ++ h ∷ []) → h.number ≡ leads_to n c
    chain_number k = links_next n c h k.links

    pub chain_header : IsChain n (c ++ h ∷ []) → IsHeader h.number h.bytes
    chain_header k = all_next (λ g. IsHeader g.number g.bytes) c h k.headers

    pub chain_zero : IsChain n (c ++ h ∷ []) → h.number ≡ 0 → is_empty c ≡ true
    chain_zero k = search (rules, all_next)

    pub chain_more : IsChain n c → h.number ≡ leads_to n c → IsHeader h.number h.bytes → (h.number ≡ 0 → is_empty c ≡ true) → IsChain n (c ++ h ∷ [])
    chain_more k number header zero = search (rules, all_more, links_more)

-- A chain and one more header.
pub bytes_of-more : (c : List ExtHeader) (h : ExtHeader) → bytes_of (c ++ h ∷ []) ≡ bytes_of c ++ h.bytes
bytes_of-more c h = flat_map-append (λ k. k.bytes) c (h ∷ []) ∙ ap (λ x. bytes_of c ++ x) (append-nil h.bytes)

pub leads_to-more : (n : ℕ) (c : List ExtHeader) (h : ExtHeader) → leads_to n (c ++ h ∷ []) ≡ next_header h.bytes
leads_to-more n [] h = refl
leads_to-more n (g ∷ c) h = leads_to-more (next_header g.bytes) c h

module _ (n : ℕ) (s : List ℕ) where
  pub begins : (c d : List ExtHeader) → IsPrefixChain n s (c ++ d) → IsPrefixChain n s c
  begins c d p = search (rules, chain_begins, prefix_first, flat_map-append)

  pub next_of : (c : List ExtHeader) (h : ExtHeader) → IsPrefixChain n s (c ++ h ∷ []) → IsNext (is_empty c) (leads_to n c) (drop (length (bytes_of c)) s) h
  next_of c h p = search (rules, chain_number, chain_header, prefix_second, bytes_of-more, chain_zero)

  pub goes_on : (c : List ExtHeader) (h : ExtHeader) → IsPrefixChain n s c → IsNext (is_empty c) (leads_to n c) (drop (length (bytes_of c)) s) h → IsPrefixChain n s (c ++ h ∷ [])
  goes_on c h p x = grind (arith, common_steps, chain_more, bytes_of-more, prefix_join)

  pub chains_grow : Grows (IsPrefixChain n s)
  chains_grow = record {
    begins = begins;
    one_next = λ c h g p q. one_next (is_empty c) (leads_to n c) (drop (length (bytes_of c)) s) h g (next_of c h p) (next_of c g q);
  }

  -- it is decidable whether a header follows
  pub chains_decide : DecidesNext (IsPrefixChain n s)
  chains_decide c p = search (rules, next_or (is_empty c) (leads_to n c) (drop (length (bytes_of c)) s), goes_on, next_of)

-- each header has at least 8 bytes
pub bytes_of-least : (c : List ExtHeader) → AllByRecursion (λ h. IsHeader h.number h.bytes) c → 8 * length c ≤ length (bytes_of c)
bytes_of-least [] a = omega arith
bytes_of-least (h ∷ c) a = omega (arith, bytes_of-least c a.1, header-least h.number h.bytes a.0, length-append h.bytes (bytes_of c))

pub chain-bound : (n : ℕ) (s : List ℕ) (c : List ExtHeader) → IsPrefixChain n s c → length c ≤ length s
chain-bound n s c p = omega (arith, bytes_of-least c p.chain.headers, prefix-length (bytes_of c) s p.prefix)

pub no_header_prefix : (n : ℕ) (s : List ℕ) → IsPrefixChain n s []
no_header_prefix n s = record { chain = no_chain n; prefix = refl }

-- the first header of a chain is the next header at its start
pub first_next : (n : ℕ) (s : List ℕ) (h : ExtHeader) (c : List ExtHeader) → IsPrefixChain n s (h ∷ c) → IsNext true n s h
first_next n s h c p = next_of n s [] h (begins n s (h ∷ []) c p)

-- the headers after the first are a chain from its next header
pub tail_chain : (n : ℕ) (h : ExtHeader) (c : List ExtHeader) → IsChain n (h ∷ c) → IsChain (next_header h.bytes) c
tail_chain n h c k = search rules
