use Rattle.ip_spec.proofs.Common.{ExtHeader}
use Rattle.ip_spec.proofs.FitsLemmas.{fits-map}
use Rattle.ip_spec.proofs.demand_laws.chain_fits_by_its_numbers.Goals as goal

pub returns : goal.returns
returns c d =
    let both = fits-map (λ (h : ExtHeader). h.number) (λ n. n) d in
    (both.1, both.0)
