use Rattle.ip_spec.proofs.DemandKinds.{no_demand, at_most, at_most_one_of}
use Rattle.ip_spec.proofs.FitsLemmas.{fits_places}
use Rattle.ip_spec.proofs.demand_laws.demands.Goals as goal

pub returns : goal.returns
returns c = record { none = no_demand; at_most = at_most; at_most_one_of = at_most_one_of; fits_places = fits_places }
