-- Where packets state their length.
use Rattle.std.specs.Prelude.{◌≡◌}
use Rattle.ip_dissect.specs.Dissection.{DissectedParts}
use Rattle.ip_rewrite.specs.Jumbogram.{is_unstated, jumbo_offset}

-- Two packets state their length in the same place: in the length field, as jumbograms in the option at the same offset, or
-- nowhere.
pub record StateAlike (p r : DissectedParts) : Type 0 where
  pub field : is_unstated r ≡ is_unstated p
  pub option : jumbo_offset r ≡ jumbo_offset p
