use Rattle.ip_spec.proofs.Common.{rules}
use Rattle.ip_base.specs.Ipv6HeaderSlice.{bytes}
use Rattle.ip_dissect.proofs.JoinedLemmas.{ipv6_found, found_within}
use Rattle.ip_dissect.proofs.dissection.Dissection.ipv6_extensions.Goals as goal

pub returns-in-Some-Ipv6-clause-headers : goal.returns-in-Some-Ipv6-clause-headers
returns-in-Some-Ipv6-clause-headers c = λ s d. ipv6_found s c.args.self.now (bytes c.in-Some-Ipv6.base) _ _ (search rules) (search rules) c.next_header-start.ensures c.from_slice_lax.ensures.answer.value d

pub returns-in-Some-Ipv6-clause-within : goal.returns-in-Some-Ipv6-clause-within
returns-in-Some-Ipv6-clause-within c = found_within _ c.args.self.now.extensions.now _ _ c.from_slice_lax.result.0.whole c.from_slice_lax.ensures.answer.value
