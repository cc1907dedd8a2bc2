use Rattle.ip_spec.proofs.Common.{FitsPlaces}
use Rattle.ip_spec.proofs.FitsLemmas.{fits_places}
use Rattle.ip_spec.proofs.UnderLemmas.{some_longest_under, one_longest_under, longest_keeps}
use Rattle.ip_spec.proofs.demand_laws.one_longest_fitting_chain.Goals as goal

pub returns : goal.returns
returns c = record {
  some = some_longest_under FitsPlaces fits_places;
  only = one_longest_under FitsPlaces fits_places;
  kept = longest_keeps FitsPlaces fits_places;
}
