-- A chain that stops at a later fragment's header: one more header, and the end.
use Rattle.ip_spec.proofs.Common.{◌≡◌, ℕ, ◌+◌, ◌-◌, ◌<◌, ◌≤◌, ◌^◌, length-drop, List, [], ◌∷◌, ◌++◌, length, drop, take, length-take-le, sym, refl, ap, ◌∙◌, arith, rules, Bool, true, false, nat_eq, common_steps, or-false, or_assoc, is_some, IsSome, IsTrue, ◌↔◌, ◌||◌, ◌&&◌, not, Option, IsExtensionNumber, next_header, ExtHeader, bytes_of, leads_to, IsNext, IsEnd, IsLongestUnder, rest_after, None}
use Rattle.ip_spec.proofs.PrefixLemmas.{prefix-length}
use Rattle.ip_spec.proofs.ChainLemmas.{bytes_of-least}
use Rattle.ip_spec.proofs.ParsedLemmas.{HasParsed, has_parsed_on, no_next_here, parsed_longest_under}
use Rattle.ip_spec.proofs.UnderLemmas.{one_longest_under, some_longest_under}
use Rattle.ip_base.specs.declared.len_source.LenSource.TheVariants.{Slice}
use Rattle.ip_ext_slices.specs.ChainFault.{Fault, slice_fault}
use Rattle.ip_ext_slices.proofs.FaultLemmas.{fault_at_end, no_fault_at_other}
use Rattle.ip_dissect.specs.LaterDemand.{is_later, has_later, NothingAfterLater, nothing_after_later}
use Rattle.ip_dissect.specs.Later.{chain_to_later}
use Rattle.ip_dissect.specs.Found.{found_in}
use Rattle.ip_dissect.specs.declared.walk.Found.{Found}

-- one more header
pub has_later-more : (c : List ExtHeader) (h : ExtHeader) → has_later (c ++ h ∷ []) ≡ (has_later c || is_later h)
has_later-more c h = grind (arith, common_steps, or-false, or_assoc)

-- a header may follow if none is a later fragment's, and otherwise none may
pub may_follow : (c : List ExtHeader) (h : ExtHeader) → has_later c ≡ false → NothingAfterLater (c ++ h ∷ [])
may_follow [] h f = search rules
may_follow (g ∷ c) h f = grind (arith, common_steps, may_follow c h)

-- a chain without one meets the demand
pub met : (c : List ExtHeader) → has_later c ≡ false → NothingAfterLater c
met [] f = tt
met (g ∷ c) f = grind (arith, common_steps, met c)

pub none_follows : (c : List ExtHeader) (h : ExtHeader) → has_later c ≡ true → NothingAfterLater (c ++ h ∷ []) → ⊥
none_follows [] h f q = cc
none_follows (g ∷ c) h f q = grind (arith, common_steps, none_follows c h)

pub chain_to_later-longest : (n : ℕ) (s : List ℕ) → IsLongestUnder NothingAfterLater n s (chain_to_later n s)
chain_to_later-longest n s = (some_longest_under NothingAfterLater nothing_after_later n s).1

-- The pass over a chain: the headers so far, none of which is a later fragment's.
pub record WalkState (n : ℕ) (s : List ℕ) (chain : List ExtHeader) (m : ℕ) (r : List ℕ) (found : Found) : Type 0 where
  pub read : HasParsed n s chain m r
  pub said : found ≡ found_in chain
  pub none : has_later chain ≡ false

-- their number is below 2^64, and so is one more
pub count_fits : (n : ℕ) (s : List ℕ) (c : List ExtHeader) (m : ℕ) (r : List ℕ) (found : Found) → WalkState n s c m r found → length s < 2 ^ 64 → found.count + 1 < 2 ^ 64
count_fits n s c m r found w fits =
    omega (arith, fits, ap (λ (f : Found). f.count) w.said, bytes_of-least c w.read.prefix_chain.chain.headers, prefix-length (bytes_of c) s w.read.prefix_chain.prefix)

-- how many they are, and how many bytes they have
pub count_is : (n : ℕ) (s : List ℕ) (c : List ExtHeader) (m : ℕ) (r : List ℕ) (found : Found) (w : WalkState n s c m r found) → found.count ≡ length c
count_is n s c m r found w = ap (λ (f : Found). f.count) w.said

pub offset_is : (n : ℕ) (s : List ℕ) (c : List ExtHeader) (m : ℕ) (r : List ℕ) (found : Found) (w : WalkState n s c m r found) (k : ℕ) → k + (length s - length r) ≡ k + length (bytes_of c)
offset_is n s c m r found w k = search (rules, length-drop, prefix-length)

-- the chain is the longest
pub record AtEnd (n : ℕ) (s : List ℕ) (m : ℕ) (r : List ℕ) (found : Found) : Type 0 where
  pub number : m ≡ leads_to n (chain_to_later n s)
  pub rest : r ≡ rest_after (chain_to_later n s) s
  pub said : found ≡ found_in (chain_to_later n s)

module _ (n : ℕ) (s : List ℕ) (c : List ExtHeader) (m : ℕ) (r : List ℕ) (found : Found) where
  end_of : HasParsed n s c m r → found ≡ found_in c → c ≡ chain_to_later n s → AtEnd n s m r found
  end_of read said is = record { number = cc (read.number); rest = cc (read.rest); said = cc }

  -- where no header follows
  pub chain_at_end : WalkState n s c m r found → IsEnd (nat_eq (length r) (length s)) m r → c ≡ chain_to_later n s
  chain_at_end w e =
      one_longest_under NothingAfterLater nothing_after_later n s c _
      (parsed_longest_under NothingAfterLater nothing_after_later n s c m r (record { read = w.read; meets = met c w.none }) (λ h x q. no_next_here n s c m r w.read e h x))
      (chain_to_later-longest n s)

  pub at_end : WalkState n s c m r found → IsEnd (nat_eq (length r) (length s)) m r → AtEnd n s m r found
  at_end w e = end_of w.read w.said (chain_at_end w e)

-- by the number of bytes passed
same_first : (a b : ℕ) → a ≤ b → nat_eq a b ≡ nat_eq (b - a) 0
same_first a b l = grind (arith, common_steps)

there : (later : Bool) (o : Option Fault) → later ≡ false → IsSome o → true ≡ (not later && is_some o)
there later o f some = grind (arith, common_steps)

none_there : (later : Bool) (o : Option Fault) → o ≡ None → false ≡ (not later && is_some o)
none_there later o none = grind (arith, common_steps)

pub none_after_later : (later : Bool) (o : Option Fault) → later ≡ true → false ≡ (not later && is_some o)
none_after_later later o t = grind (arith, common_steps)

-- The error where the pass stops: at an extension header's number there is one, and at any other there is none.
fault_there : (n : ℕ) (s : List ℕ) (c : List ExtHeader) (m : ℕ) (r : List ℕ) (found : Found) → WalkState n s c m r found → IsExtensionNumber m → IsEnd (nat_eq (length r) (length s)) m r → (k : ℕ)
    → true ≡ (not found.later && is_some (slice_fault k (nat_eq (length s - length r) 0) m r))
fault_there n s c m r found w is e k =
    let fewer : length r ≤ length s = omega (arith, ap length w.read.rest, length-drop (length (bytes_of c)) s) in
    let goes_on : found.later ≡ false = ap (λ (f : Found). f.later) w.said ∙ w.none in
    there found.later _ goes_on (fault_at_end Slice (length r) r k (nat_eq (length s - length r) 0) m is (rw (same_first (length r) (length s) fewer) at e))

pub error_there : (n : ℕ) (s : List ℕ) (c : List ExtHeader) (m : ℕ) (r : List ℕ) (found : Found) → WalkState n s c m r found → IsEnd (nat_eq (length r) (length s)) m r → (is : Bool) → IsTrue is ↔ IsExtensionNumber m → (k : ℕ)
    → is ≡ (not found.later && is_some (slice_fault k (nat_eq (length s - length r) 0) m r))
error_there n s c m r found w e true is k = fault_there n s c m r found w (is.0 (search rules)) e k
error_there n s c m r found w e false is k = none_there found.later _ (no_fault_at_other Slice (length r) (nat_eq (length s - length r) 0) m r k (λ x. search (rules, is.1 x)))

-- One more header, of k bytes: it isn't a later fragment's, or it is.
module _ (n : ℕ) (s : List ℕ) (c : List ExtHeader) (m : ℕ) (r : List ℕ) (found : Found) (w : WalkState n s c m r found) (k : ℕ) (q : List ℕ) (more : Found)
    (x : IsNext (nat_eq (length r) (length s)) m r (record { number = m; bytes = take k r })) (within : k ≤ length r) (rest : q ≡ drop k r) (said : more ≡ found_in (c ++ record { number = m; bytes = take k r } ∷ [])) where
  read_on : HasParsed n s (c ++ record { number = m; bytes = take k r } ∷ []) (next_header (take k r)) q
  read_on = has_parsed_on n s c m r (record { number = m; bytes = take k r }) (next_header (take k r)) q (take k r) w.read x refl refl (rest ∙ ap (λ j. drop j r) (sym (length-take-le k r within)))

  pub goes_on : more.later ≡ false → WalkState n s (c ++ record { number = m; bytes = take k r } ∷ []) (next_header (take k r)) q more
  goes_on not_later = record { read = read_on; said = said; none = ap (λ (f : Found). f.later) (sym said) ∙ not_later }

  pub chain_at_later : more.later ≡ true → c ++ record { number = m; bytes = take k r } ∷ [] ≡ chain_to_later n s
  chain_at_later later =
      let has : has_later (c ++ record { number = m; bytes = take k r } ∷ []) ≡ true = ap (λ (f : Found). f.later) (sym said) ∙ later in
      one_longest_under NothingAfterLater nothing_after_later n s _ _
      (parsed_longest_under NothingAfterLater nothing_after_later n s _ (next_header (take k r)) q (record { read = read_on; meets = may_follow c _ w.none }) (λ g y meets. none_follows _ g has meets))
      (chain_to_later-longest n s)

  pub stops_at_later : more.later ≡ true → AtEnd n s (next_header (take k r)) q more
  stops_at_later later = end_of n s _ (next_header (take k r)) q more read_on said (chain_at_later later)
