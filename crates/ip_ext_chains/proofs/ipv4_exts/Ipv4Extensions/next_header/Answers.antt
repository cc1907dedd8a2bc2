use Rattle.ip_spec.proofs.Common.{◌≡◌, ◌∙◌, sym, ap, subst, rules, Option, Some, None, same_Some, AuthFields}
use Rattle.ip_ext_chains.specs.Ipv4Walk.{ipv4_walk}
use Rattle.ip_ext_chains.proofs.Ipv4WalkLemmas.{CanBe, walk_parsed}
use Rattle.ip_ext_chains.proofs.ipv4_exts.Ipv4Extensions.next_header.Goals as goal

pub returns-in-None-clause-exactly : goal.returns-in-None-clause-exactly
returns-in-None-clause-exactly c = λ m.
    walk_parsed _ _ m _ (λ w is. absurd (let no : Some w ≡ None = sym is ∙ c.in-None.is in cc)) (ap (λ (v : Option AuthFields). ipv4_walk v c.args.first_next_header.0) (sym c.in-None.is))

pub returns-in-Some-clause-exactly : goal.returns-in-Some-clause-exactly
returns-in-Some-clause-exactly c = λ m. walk_parsed _ _ m _ (λ w is. subst CanBe (same_Some _ w (sym c.in-Some.is ∙ is)) c.header_len.ensures.encodable) (search rules)
