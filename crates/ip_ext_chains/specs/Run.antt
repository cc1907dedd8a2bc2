-- The run taken from headers.
use Rattle.std.specs.Prelude.{◌≡◌, List}
use Rattle.ip_spec.specs.Chain.{ExtHeader}
use Rattle.ip_spec.specs.Demand.{KeepsBeginning}
use Rattle.ip_spec.specs.Fits.{FitsPlaces}
use Rattle.ip_ext_chains.specs.Slots.{ArePlaced}
use Rattle.ip_ext_slices.specs.declared.ipv6_ext_slice.Ipv6ExtensionSlice.{Ipv6ExtensionSlice}
use Rattle.ip_ext_chains.specs.declared.places.Places.{Places}

-- of the headers c, those that fit six places are in the places, and d is left
pub record IsRun (c : List ExtHeader) (v : Places Ipv6ExtensionSlice) (d : List ExtHeader) : Type 0 where
  pub run : List ExtHeader
  pub kept : KeepsBeginning FitsPlaces c run
  pub left : kept.rest ≡ d
  pub placed : ArePlaced run v
