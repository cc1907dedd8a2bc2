-- What is kept of the ECN code points of a packet's fragments.
use Rattle.std.specs.Prelude.{◌≡◌, ℕ, ◌==◌, List}
use Rattle.std.specs.List.{list_any}
use Rattle.ip_reassembly.specs.Reassembly.{is_set}
use Rattle.ip_defragmenter.specs.Ecn.{is_capable, is_congested}
use Rattle.ip_defragmenter.specs.declared.points.Points.{Points}

-- nothing
abbrev pub no_points : Points
no_points = record { incapable = 0; capable = 0; congested = 0 }

-- These are the code points.
pub record HoldsPoints (p : Points) (points : List ℕ) : Type 0 where
  pub incapable : is_set p.incapable ≡ list_any (λ point. point == 0) points
  pub capable : is_set p.capable ≡ list_any is_capable points
  pub congested : is_set p.congested ≡ is_congested points
