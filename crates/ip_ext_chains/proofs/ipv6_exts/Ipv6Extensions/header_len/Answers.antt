use Rattle.ip_spec.proofs.Common.{refl, inl, inr}
use Rattle.ip_ext_chains.proofs.PlacedFieldsLemmas.{encodable_where}
use Rattle.ip_ext_chains.proofs.ipv6_exts.Ipv6Extensions.header_len.Goals as goal

pub returns-clause-encodable : goal.returns-clause-encodable
returns-clause-encodable c =
    encodable_where c.args.self.now (c.raw_len.ensures.encodable 0 (inl refl)) (c.raw_len-2.ensures.encodable 60 (inr (inr refl)))
    c.routing_len.ensures.routing c.fragment_len.ensures.encodable c.auth_len.ensures.encodable c.routing_len.ensures.final_destination
