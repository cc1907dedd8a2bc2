-- Headers stored in their places, and the end of a run.
use Rattle.ip_spec.proofs.Common.{common_steps, ◌≡◌, ◌≢◌, ℕ, List, ◌∷◌, ◌++◌, length, nat_eq, arith, refl, Bool, true, false, append_assoc, rules, [], Some, None, if◌then◌else◌, eqb-true, YieldsList, YieldsList-from_shown, ExtHeader, bytes_of, IsChain, IsLaterNumber, FitsPlaces, Place, header_in, next_place}
use Rattle.ip_spec.proofs.PlaceLemmas.{placed, fits_more, own_next, fits_where_next}
use Rattle.ip_spec.proofs.WalkLemmas.{none_if}
use Rattle.ip_ext_slices.specs.Ipv6ExtensionSlice.{header_of}
use Rattle.ip_ext_chains.specs.Slots.{at, IsPut, ArePlaced}
use Rattle.ip_ext_slices.specs.Longest.{longest_chain}
use Rattle.ip_ext_chains.specs.RunsOf.{runs_from}
use Rattle.ip_ext_chains.specs.Run.{IsRun}
use Rattle.ip_ext_chains.specs.Ipv6ExtensionsRuns.{values_left, GivesRun}
use Rattle.ip_ext_chains.specs.declared.ipv6_exts_runs.Ipv6ExtensionsRuns.{Ipv6ExtensionsRuns}
use Rattle.ip_ext_slices.specs.declared.ipv6_ext_slice.Ipv6ExtensionSlice.{Ipv6ExtensionSlice}
use Rattle.ip_ext_chains.specs.declared.ipv6_exts.Ipv6Extensions.{Ipv6Extensions}
use Rattle.ip_ext_chains.specs.declared.places.Places.{Places}
use Rattle.ip_ext_slices.proofs.LongestLemmas.{longest_chain-least}
use Rattle.ip_ext_chains.proofs.RunsOfLemmas.{runs_from-next}
use Rattle.ip_spec.proofs.HeaderLemmas.{header_number}
use Rattle.ip_ext_chains.proofs.PlacedLemmas.{mapped_if, next_same}

-- of the headers c, those before `left` are stored in the places
pub record IsPlacing (c left : List ExtHeader) (v : Places Ipv6ExtensionSlice) : Type 0 where
  pub run : List ExtHeader
  pub whole : c ≡ run ++ left
  pub fits : FitsPlaces run
  pub placed : ArePlaced run v

-- one more header
pub placing_more : (c : List ExtHeader) (m : ℕ) (h : Ipv6ExtensionSlice) (left : List ExtHeader) (v w : Places Ipv6ExtensionSlice) (p : Place) → IsChain m (header_of h ∷ left) → IsPlacing c (header_of h ∷ left) v → next_place (λ q. at q v) m ≡ Some p → IsPut p h v w → IsPlacing c left w
placing_more c m h left v w p chain k next put =
    let own = own_next (λ q. header_in q k.run) (header_of h).number p (cc (next_same k.run v k.placed m)) in
    let fits = fits_more k.run (header_of h) p k.fits own.0 own.1 in
    let placed = placed k.run (header_of h) p own.0 (none_if (header_in p k.run) own.1) in search (rules, append_assoc, put, mapped_if, k.placed, placed)

-- The run ends if no header is left, or if the place of the next one is occupied.
pub run_all : (c left after : List ExtHeader) (v : Places Ipv6ExtensionSlice) → IsPlacing c left v → (left ≡ []) × (after ≡ []) → IsRun c v after
run_all c left after v k e = record { run = k.run; kept = record { rest = []; joined = cc; meets = k.fits; breaks = tt }; left = cc; placed = k.placed }

pub run_ends : (c left : List ExtHeader) (v : Places Ipv6ExtensionSlice) (m : ℕ) → IsChain m left → IsPlacing c left v → next_place (λ p. at p v) m ≡ None → IsRun c v left
run_ends c [] v m chain k none = search (rules, run_all)
run_ends c (h ∷ left) v m chain k none =
    let same = next_same k.run v k.placed m in
    let fits = fits_where_next k.run h k.fits (header_number h.number h.bytes chain.headers.0) in
    record { run = k.run; kept = record { rest = h ∷ left; joined = k.whole; meets = k.fits; breaks = search rules }; left = refl; placed = k.placed }

-- bytes are left if and only if headers are
module _ (n : ℕ) (s : List ℕ) (whole : bytes_of (longest_chain n s) ≡ s) where
  pub none_left : nat_eq (length s) 0 ≡ true → longest_chain n s ≡ []
  none_left = let least = longest_chain-least n s in grind (arith, common_steps, eqb-true)

  pub some_left : nat_eq (length s) 0 ≡ false → longest_chain n s ≢ []
  some_left z e = search rules

-- The step of the iterator: the value of the places is that of the first run, and those of the others follow.
module _ (m : ℕ) (c d : List ExtHeader) (v : Places Ipv6ExtensionSlice) (r : IsRun c v d) where
  pub run_passes : (before done : Bool) → before ≡ false → (done ≡ true → (d ≡ []) × (IsLaterNumber m → next_place (λ p. at p v) m ≢ None)) → (done ≡ false → d ≡ [] → IsLaterNumber m × (next_place (λ p. at p v) m ≡ None))
      → (if before then [] else runs_from m c) ≡ r.run ∷ (if done then [] else runs_from m d)
  run_passes before done some ends on = search (rules, next_same r.run v r.placed, runs_from-next m c r.run r.kept done)

-- the items of an iterator over runs
pub runs_yield : (r : Ipv6ExtensionsRuns) (all : List Ipv6Extensions) → values_left r ≡ all → YieldsList GivesRun (λ x. x) r all
runs_yield r all e = search (rules, YieldsList-from_shown GivesRun (λ x. x) values_left)
