use Rattle.ip_spec.proofs.Common.{rules}
use Rattle.ip_spec.specs.Places.{fragment}
use Rattle.ip_ext_chains.proofs.PlacedLemmas.{placed_numbers}
use Rattle.ip_ext_chains.proofs.FittingLemmas.{fitting_longest, fitting_shorter, fitting_front, fitting_own, placed_fragments}
use Rattle.ip_ext_chains.proofs.borrowed.fitting_headers.Goals as goal

pub is_fragmenting_payload-fragmented-requires : goal.is_fragmenting_payload-fragmented-requires
is_fragmenting_payload-fragmented-requires c = record { number = placed_numbers _ _ c.take_fitting-fault.ensures.placed fragment }

pub new-headers-requires : goal.new-headers-requires
new-headers-requires c = search (rules, fitting_own, fitting_front, placed_fragments, fitting_longest)

pub returns : goal.returns
returns c = search (rules, fitting_own, fitting_longest, fitting_shorter, fitting_front)
