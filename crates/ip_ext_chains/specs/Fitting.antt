-- The longest chain at the start of bytes that fits six places.
use Rattle.std.specs.Prelude.{◌≡◌, ℕ, List, Option, None, is_some, ◌==◌, ◌||◌, if◌then◌else◌}
use Rattle.ip_base.specs.declared.len_source.LenSource.TheVariants.{Slice}
use Rattle.ip_spec.specs.Chain.{ExtHeader, leads_to}
use Rattle.ip_spec.specs.Fits.{FitsPlaces}
use Rattle.ip_spec.specs.Numbers.{HOP_BY_HOP}
use Rattle.ip_spec.specs.Places.{header_in, next_place}
use Rattle.ip_spec.proofs.UnderLemmas.{some_longest_under}
use Rattle.ip_spec.proofs.FitsLemmas.{fits_places}
use Rattle.ip_spec.specs.Parse.{rest_after, fault_after, IsAnswer}
use Rattle.ip_ext_slices.specs.ChainFault.{Fault, chain_faults}
use Rattle.ip_ext_chains.specs.Ipv6Extensions.{value_of}
use Rattle.ip_ext_chains.specs.Slots.{ArePlaced}
use Rattle.ip_ext_slices.specs.declared.ipv6_ext_slice.Ipv6ExtensionSlice.{Ipv6ExtensionSlice}
use Rattle.ip_ext_chains.specs.declared.places.Places.{Places}
use Rattle.ip_ext_chains.specs.declared.ipv6_exts.Ipv6Extensions.{Ipv6Extensions}

-- There is always exactly one: this is it. Only that it is the longest of them is known about it.
abbrev pub fitting_chain : ℕ → List ℕ → List ExtHeader
fitting_chain n s = (some_longest_under FitsPlaces fits_places n s).0

-- The error after the chain c, at number m with r left. None if m has no free place: the bytes there aren't parsed. But
-- hop-by-hop options after a header are an error.
abbrev pub fitting_faults : List ExtHeader → ℕ → List ℕ → Option Fault
fitting_faults c m r = if (m == HOP_BY_HOP) || is_some (next_place (λ p. header_in p c) m) then chain_faults Slice c m r else None

-- the error at the end of the longest chain that fits
abbrev pub fitting_fault : ℕ → List ℕ → Option Fault
fitting_fault n s = fault_after fitting_faults (fitting_chain n s) n s

-- the parse's result for it, whose value is the fields of each header in its place
abbrev pub IsFittingAnswer : ℕ → List ℕ → Ipv6Extensions → ℕ → List ℕ → Option Fault → Type 0
IsFittingAnswer n s = IsAnswer value_of fitting_faults (fitting_chain n s) n s

-- the parse's result for it, borrowed: its value is all of its headers
abbrev pub IsFittingHeaders : ℕ → List ℕ → List ExtHeader → ℕ → List ℕ → Option Fault → Type 0
IsFittingHeaders n s = IsAnswer (λ c. c) fitting_faults (fitting_chain n s) n s

-- the result of the walk over it: its headers in their places, with the number, rest and error after it
pub record IsPlacedAnswer (n : ℕ) (s : List ℕ) (v : Places Ipv6ExtensionSlice) (m : ℕ) (r : List ℕ) (f : Option Fault) : Type 0 where
  pub placed : ArePlaced (fitting_chain n s) v
  pub number : m ≡ leads_to n (fitting_chain n s)
  pub rest : r ≡ rest_after (fitting_chain n s) s
  pub fault : f ≡ fitting_fault n s
