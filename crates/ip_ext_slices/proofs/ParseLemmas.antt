-- What the parse knows about the chain parsed so far, and what follows at an end.
use Rattle.ip_spec.proofs.Common.{common_steps, ◌≡◌, ℕ, arith, subst, ◌-◌, List, ◌∷◌, ◌++◌, length, take, drop, ap, ◌∙◌, Bool, nat_eq, rules, [], ◌==◌, ◌&&◌, ◌||◌, Option, None, YieldsList, YieldsList-from_shown, or-false, or_assoc, rest_after, next_header, is_fragmenting, ExtHeader, leads_to, bytes_of, has_fragmenting, IsNext, IsEnd}
use Rattle.ip_spec.proofs.PrefixLemmas.{prefix-length}
use Rattle.ip_spec.proofs.ChainLemmas.{longest_ends, bytes_of-least}
use Rattle.ip_spec.proofs.ParsedLemmas.{HasParsed, has_parsed_on, offset_is, no_next_here, parsed_longest}
use Rattle.ip_ext_slices.specs.Longest.{longest_chain, longest_from}
use Rattle.ip_ext_slices.specs.ChainFault.{Fault, slice_fault, chain_fault}
use Rattle.ip_ext_slices.specs.ChainAnswer.{IsChainAnswer}
use Rattle.ip_ext_slices.specs.Ipv6ExtensionSlice.{header_of}
use Rattle.ip_ext_slices.specs.Ipv6ExtensionsCursor.{headers_left, GivesHeader}
use Rattle.ip_ext_slices.specs.declared.ipv6_exts_cursor.Ipv6ExtensionsCursor.{Ipv6ExtensionsCursor}
use Rattle.ip_ext_slices.proofs.LongestLemmas.{longest_chain-longest, longest_chain-is, longest_chain-bytes_of, longest_from_end}

-- a fragment header that fragments the payload
abbrev pub fragments : ExtHeader → Bool
fragments h = (h.number == 44) && is_fragmenting h.bytes

has_fragmenting-more : (c : List ExtHeader) (h : ExtHeader) → has_fragmenting (c ++ h ∷ []) ≡ (has_fragmenting c || fragments h)
has_fragmenting-more c h = grind (arith, common_steps, or-false, or_assoc)

-- the chain parsed of s from n leads to m and leaves r; the flag says whether a header in it fragments the payload
pub record ParseState (n : ℕ) (s : List ℕ) (m : ℕ) (r : List ℕ) (flag : Bool) : Type 0 where
  pub chain : List ExtHeader
  pub read : HasParsed n s chain m r
  pub fragmented : flag ≡ has_fragmenting chain

-- one more header
pub parse_goes_on : (n : ℕ) (s : List ℕ) (m : ℕ) (r : List ℕ) (flag : Bool) (h : ExtHeader) (k : ℕ) (q b : List ℕ) (either : Bool) → ParseState n s m r flag → IsNext (nat_eq (length r) (length s)) m r h
    → k ≡ next_header h.bytes → b ≡ h.bytes → q ≡ drop (length b) r → either ≡ (flag || fragments h) → ParseState n s k q either
parse_goes_on n s m r flag h k q b either p x ek eb eq em = search (rules, has_parsed_on n s p.chain m r h k q b p.read x ek eb eq, has_fragmenting-more)

-- at an end the chain parsed is the longest
pub record AtEnd (n : ℕ) (s : List ℕ) (m : ℕ) (r : List ℕ) (flag : Bool) : Type 0 where
  pub number : m ≡ leads_to n (longest_chain n s)
  pub rest : r ≡ rest_after (longest_chain n s) s
  pub len : length s - length r ≡ length (bytes_of (longest_chain n s))
  pub fragmented : flag ≡ has_fragmenting (longest_chain n s)

pub at_end : (n : ℕ) (s : List ℕ) (m : ℕ) (r : List ℕ) (flag : Bool) → ParseState n s m r flag → IsEnd (nat_eq (length r) (length s)) m r → AtEnd n s m r flag
at_end n s m r flag p e =
    let longest = parsed_longest n s p.chain m r p.read (no_next_here n s p.chain m r p.read e) in
    search (rules, longest_chain-is n s p.chain longest, offset_is n s p.chain m r p.read)

-- the bytes before those left are the chain's
pub len_after : (n : ℕ) (s r : List ℕ) → r ≡ rest_after (longest_chain n s) s → length s - length r ≡ length (bytes_of (longest_chain n s))
len_after n s r e = omega (arith, prefix-length (bytes_of (longest_chain n s)) s (longest_chain-longest n s).has.prefix, ap length e)

-- The longest chain of s from n, of k bytes.
module _ (n : ℕ) (s : List ℕ) (k : ℕ) (len : k ≡ length (bytes_of (longest_chain n s))) where
  pub longest_front : take k s ≡ bytes_of (longest_chain n s)
  longest_front = ap (λ j. take j s) len ∙ (longest_chain-longest n s).has.prefix

  pub longest_own : longest_chain n (take k s) ≡ longest_chain n s
  longest_own = ap (longest_chain n) longest_front ∙ longest_chain-bytes_of n (longest_chain n s) (longest_chain-longest n s).has.chain

  module _ (m : ℕ) (r : List ℕ) (number : m ≡ leads_to n (longest_chain n s)) (rest : r ≡ rest_after (longest_chain n s) s) where
    -- no header follows it, and the error there
    pub ends_after : IsEnd (nat_eq k 0) m r
    ends_after = search (rules, bytes_of-least, longest_ends, longest_chain-longest)

    pub chain_fault_is : chain_fault n s ≡ slice_fault k (nat_eq k 0) m r
    chain_fault_is = search (rules, bytes_of-least, longest_chain-longest)

-- A cursor over the longest chain of s from n has reached number m with r left, and the headers left from there lead
-- to where the chain leads. At an end, the cursor is at the end of the chain.
pub record IsAtEnd (n : ℕ) (s : List ℕ) (m : ℕ) (r : List ℕ) : Type 0 where
  pub ends : IsEnd (nat_eq (length s - length r) 0) m r
  pub answers : (f : Option Fault) → f ≡ slice_fault (length s - length r) (nat_eq (length s - length r) 0) m r → IsChainAnswer n s (longest_chain n s) m r f

pub cursor_at_end : (n : ℕ) (s : List ℕ) (first : Bool) (m : ℕ) (r : List ℕ) → leads_to m (longest_from first m r) ≡ leads_to n (longest_chain n s) → rest_after (longest_from first m r) r ≡ rest_after (longest_chain n s) s → IsEnd first m r → IsAtEnd n s m r
cursor_at_end n s first m r leads after e = search (rules, longest_from_end, len_after, ends_after, chain_fault_is)

-- the headers that a cursor returns
ended : (c d : Ipv6ExtensionsCursor) → GivesHeader c None d → length (headers_left c) ≡ 0
ended c d e = ap length e.0.0

pub cursor_yields : (c : Ipv6ExtensionsCursor) (all : List ExtHeader) → headers_left c ≡ all → YieldsList GivesHeader header_of c all
cursor_yields c all e = subst (YieldsList GivesHeader header_of c) e (YieldsList-from_shown GivesHeader header_of headers_left ended (λ d x t g. g.0) c)
