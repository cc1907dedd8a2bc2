-- The longest chain that fits six places, as the first run of the longest chain.
use Rattle.ip_spec.proofs.Common.{◌≡◌, ◌≢◌, ℕ, ◌-◌, List, ◌++◌, length, take, drop, rules, [], Option, Some, None, IsSome, cases_Bool, IsExtensionNumber, append-nil, length-append, ExtHeader, leads_to, bytes_of, headers_within, is_empty, IsChain, IsPrefixChain, rest_after, fault_after, IsLongestUnder, IsEndUnder, FitsPlaces, IsOccupied, IsLaterNumber, header_in, next_place, has_fragmenting, is_fragmenting, option_map_or, false, ◌==◌, is_some, ne_eqb}
use Rattle.ip_ext_slices.proofs.FaultLemmas.{fault_at_end, end_at_other, no_fault_at_other}
use Rattle.ip_ext_slices.proofs.RequestFaultLemmas.{fault_ends}
use Rattle.std.proofs.lemmas.Grind.{flat_map-append}
use Rattle.ip_spec.proofs.HeaderLemmas.{later_of, later_extension, later_not_zero}
use Rattle.ip_spec.proofs.FirstLemmas.{only_both}
use Rattle.ip_spec.proofs.PrefixLemmas.{prefix-length}
use Rattle.ip_spec.proofs.PlaceLemmas.{is_of, occupied_breaks}
use Rattle.ip_spec.specs.Places.{fragment}
use Rattle.ip_spec.proofs.FitsLemmas.{fits_places, fitting_ends, next_occupied}
use Rattle.ip_spec.proofs.UnderLemmas.{some_longest_under, one_longest_under, kept_is_longest}
use Rattle.ip_spec.proofs.ParsedLemmas.{has_parsed_before, parsed_answers}
use Rattle.ip_spec.proofs.ShorterLemmas.{longest_shorter}
use Rattle.ip_spec.proofs.RunsLemmas.{chain_after}
use Rattle.ip_ext_slices.specs.Longest.{longest_chain}
use Rattle.ip_ext_chains.specs.Fitting.{fitting_chain, fitting_faults, fitting_fault, IsFittingAnswer, IsPlacedAnswer}
use Rattle.ip_base.specs.declared.len_source.LenSource.TheVariants.{Slice}
use Rattle.ip_ext_slices.specs.ChainFault.{Fault, fault_at, chain_faults, chain_fault}
use Rattle.ip_ext_chains.specs.Ipv6Extensions.{value_of}
use Rattle.ip_ext_slices.specs.Ipv6ExtensionSlice.{header_of}
use Rattle.ip_ext_chains.specs.Slots.{at, ArePlaced}
use Rattle.ip_ext_chains.specs.Run.{IsRun}
use Rattle.ip_ext_slices.specs.declared.ipv6_ext_slice.Ipv6ExtensionSlice.{Ipv6ExtensionSlice}
use Rattle.ip_ext_chains.specs.declared.ipv6_exts.Ipv6Extensions.{Ipv6Extensions}
use Rattle.ip_ext_chains.specs.declared.places.Places.{Places}
use Rattle.ip_ext_slices.proofs.LongestLemmas.{longest_chain-longest, longest_chain-bytes_of}
use Rattle.ip_ext_chains.proofs.RunsOfLemmas.{number_before-some}
use Rattle.ip_ext_chains.proofs.PlacedLemmas.{next_same}

pub fitting_longest : (n : ℕ) (s : List ℕ) → IsLongestUnder FitsPlaces n s (fitting_chain n s)
fitting_longest n s = (some_longest_under FitsPlaces fits_places n s).1

-- of truncated bytes it is the headers that lie wholly within them
pub fitting_shorter : (n j : ℕ) (s : List ℕ) → fitting_chain n (take j s) ≡ headers_within j (fitting_chain n s)
fitting_shorter n j s = longest_shorter FitsPlaces fits_places n j s (fitting_chain n s) (fitting_chain n (take j s)) (fitting_longest n s) (fitting_longest n (take j s))

-- The bytes before the rest after it are its bytes, and it is their longest chain.
module _ (n : ℕ) (s r : List ℕ) (rest : r ≡ rest_after (fitting_chain n s) s) where
  pub fitting_front : take (length s - length r) s ≡ bytes_of (fitting_chain n s)
  fitting_front = search (rules, fitting_longest, prefix-length)

  pub fitting_own : longest_chain n (take (length s - length r) s) ≡ fitting_chain n s
  fitting_own = rw fitting_front (longest_chain-bytes_of n (fitting_chain n s) (fitting_longest n s).has.0.chain)

-- a chain that fits has at most one fragment header, the one in its place
pub placed_fragments : (c : List ExtHeader) (v : Places Ipv6ExtensionSlice) → FitsPlaces c → ArePlaced c v → has_fragmenting c ≡ option_map_or (λ h. is_fragmenting (header_of h).bytes) (at fragment v) false
placed_fragments c v fits placed =
    let one = only_both (is_of fragment) (λ h. is_fragmenting h.bytes) c (fits fragment) in search (rules, placed fragment)

-- The error after a chain is that of the borrowed chain, unless the number is occupied.
module _ (c : List ExtHeader) (m : ℕ) (r : List ℕ) where
  pub no_fault_occupied : IsOccupied m c → fitting_faults c m r ≡ None
  no_fault_occupied t = search (rules, ne_eqb, later_not_zero)

  pub same_fault_free : (IsOccupied m c → ⊥) → fitting_faults c m r ≡ chain_faults Slice c m r
  same_fault_free free =
      let none = no_fault_at_other Slice (length r) (is_empty c) m r (length (bytes_of c)) in
      search (rules, cases_Bool (m == 0), cases_Bool (is_some (next_place (λ p. header_in p c) m)), later_of)

-- A run of the longest chain: the headers in the places, and those that are left.
module _ (n : ℕ) (s : List ℕ) (left : List ExtHeader) (v : Places Ipv6ExtensionSlice) (k : IsRun (longest_chain n s) v left) where
  -- the run is the longest chain that fits
  run_fits : k.run ≡ fitting_chain n s
  run_fits =
      search (rules, one_longest_under FitsPlaces fits_places n s, kept_is_longest FitsPlaces fits_places n s (longest_chain n s), longest_chain-longest, fitting_longest)

  -- If headers are left, the place of the next one is occupied.
  pub walk_stops : left ≢ [] → (m : ℕ) → IsChain m left → (r : List ℕ) → r ≡ drop (length (bytes_of (longest_chain n s)) - length (bytes_of left)) s → IsPlacedAnswer n s v m r None
  walk_stops some m chain r er =
      let p : IsPrefixChain n s (k.run ++ left) = search (rules, longest_chain-longest) in
      let occupied = next_occupied n s k.run left p k.kept.meets (rw (← k.left) k.kept.breaks) in
      let fits = run_fits in search (rules, chain_after n k.run left p.chain, number_before-some m 0, number_before-some (leads_to n k.run) 0, flat_map-append, length-append, no_fault_occupied)

  -- If none are, it is the whole chain, and the error is that of the chain unless the number is occupied.
  module _ (none : left ≡ []) (m : ℕ) (r : List ℕ) (f : Option Fault) (em : m ≡ leads_to n (longest_chain n s)) (er : r ≡ rest_after (longest_chain n s) s) (ef : f ≡ chain_fault n s) where
    all : longest_chain n s ≡ k.run
    all = cc (append-nil k.run)

    abbrev IsTaken : Type 0
    IsTaken = IsLaterNumber m × (next_place (λ p. at p v) m ≡ None)

    pub walk_ends_occupied : IsTaken → IsPlacedAnswer n s v m r None
    walk_ends_occupied t = search (rules, all, run_fits, next_same k.run v k.placed, no_fault_occupied)

    pub walk_ends_free : (IsTaken → ⊥) → IsPlacedAnswer n s v m r f
    walk_ends_free free = search (rules, all, run_fits, next_same k.run v k.placed, same_fault_free)

-- The end of a chain that fits.
module _ (n : ℕ) (c : List ExtHeader) (m : ℕ) (chain : IsChain n c) (fits : FitsPlaces c) (number : m ≡ leads_to n c) (x : List ℕ) where
  -- if no header follows that fits, the chain is the result
  answered : (v : Ipv6Extensions) (f : Option Fault) → IsEndUnder FitsPlaces c m x → v ≡ value_of c → f ≡ fitting_faults c m x → IsFittingAnswer n (bytes_of c ++ x) v m x f
  answered v f = search (rules, parsed_answers FitsPlaces fits_places, has_parsed_before FitsPlaces fits_places)

  -- the error there is the parse's error
  pub fitting_fault_is : (f : Fault) → (IsOccupied m c → ⊥) → fault_at Slice (length x) (length (bytes_of c)) (is_empty c) m x ≡ Some f → fitting_fault n (bytes_of c ++ x) ≡ Some f
  fitting_fault_is f free fault =
      let ends = fault_ends Slice (length x) (length (bytes_of c)) x (is_empty c) m f fault in
      let same = same_fault_free c m x free in
      let answer = answered (value_of c) (Some f) in search rules

  -- if the number's place is occupied, there is no error
  pub occupied_answers : (v : Ipv6Extensions) → v ≡ value_of c → IsOccupied m c → IsFittingAnswer n (bytes_of c ++ x) v m x None
  occupied_answers v value occupied = answered v None (λ h y. occupied_breaks c m occupied h y.number) value (cc (no_fault_occupied c m x occupied))

  -- nor if the number is not an extension header's
  pub other_answers : (v : Ipv6Extensions) → v ≡ value_of c → (IsExtensionNumber m → ⊥) → IsFittingAnswer n (bytes_of c ++ x) v m x None
  other_answers v value other =
      answered v None (λ h y q. end_at_other (is_empty c) m x other h y) value (search (rules, same_fault_free, later_extension, no_fault_at_other))

-- At an extension number whose place is free there is an error after the chain.
pub fitting_fault_at_end : (n : ℕ) (s : List ℕ) (c : List ExtHeader) → IsLongestUnder FitsPlaces n s c → IsExtensionNumber (leads_to n c) → (IsOccupied (leads_to n c) c → ⊥) → IsSome (fault_after fitting_faults c n s)
fitting_fault_at_end n s c l number free = search (rules, fault_at_end, fitting_ends, same_fault_free)
