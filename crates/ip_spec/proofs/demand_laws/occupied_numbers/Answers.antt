use Rattle.ip_spec.proofs.Common.{refl}
use Rattle.ip_spec.proofs.PlaceLemmas.{bare, occupied_breaks, breaks_occupied}
use Rattle.ip_spec.proofs.demand_laws.occupied_numbers.Goals as goal

pub returns : goal.returns
returns c m d fits = ((λ t. (t.0, occupied_breaks d m t)), λ b. breaks_occupied d m fits b.0 (b.1 (bare m) refl))
