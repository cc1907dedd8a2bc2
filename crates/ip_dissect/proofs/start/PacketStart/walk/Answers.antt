use Rattle.ip_spec.proofs.Common.{rules, ◌∙◌, ap, sym, subst, length}
use Rattle.ip_base.specs.Ipv4HeaderSlice as ipv4_header
use Rattle.ip_base.specs.Ipv6HeaderSlice as ipv6_header
use Rattle.ip_dissect.specs.Dissection.{DissectedParts}
use Rattle.ip_dissect.specs.Summary.{summary_of}
use Rattle.ip_dissect.proofs.DissectedLemmas.{begins4, begins6, begins_none}
use Rattle.ip_dissect.proofs.start.PacketStart.walk.Goals as goal

pub ipv4_summary-requires : goal.ipv4_summary-requires
ipv4_summary-requires g c = (begins4 _ _ (ipv4_header.bytes c.in-Some-Ipv4.base) c.args.self.base_is (search rules) (search rules)).prefix

pub ipv6_summary-requires : goal.ipv6_summary-requires
ipv6_summary-requires g c = (begins6 _ _ (ipv6_header.bytes c.in-Some-Ipv6.base) c.args.self.base_is (search rules) (search rules)).prefix

pub with-requires : goal.with-requires
with-requires g c = c.ipv4_summary.ensures.summary ∙ ap summary_of (sym (begins4 _ _ (ipv4_header.bytes c.in-Some-Ipv4.base) c.args.self.base_is (search rules) (search rules)).is)

pub with-requires-in-Some-Ipv6 : goal.with-requires-in-Some-Ipv6
with-requires-in-Some-Ipv6 g c = c.ipv6_summary.ensures.summary ∙ ap summary_of (sym (begins6 _ _ (ipv6_header.bytes c.in-Some-Ipv6.base) c.args.self.base_is (search rules) (search rules)).is)

pub with-requires-in-None : goal.with-requires-in-None
with-requires-in-None g c = let w = begins_none _ (rw c.in-None.is at c.args.self.base_is) in c.no_summary.ensures _ w.ends ∙ ap summary_of (sym w.is)

pub returns-in-Some-Ipv4-clause-visited : goal.returns-in-Some-Ipv4-clause-visited
returns-in-Some-Ipv4-clause-visited g c =
    let P : DissectedParts → Type 0 = λ p. g.V.HeaderVisitor.visited c.args.visitor.now (length p.base) p.headers c.ipv4_summary.new.visitor in
    subst P (sym (begins4 _ _ (ipv4_header.bytes c.in-Some-Ipv4.base) c.args.self.base_is (search rules) (search rules)).is) c.ipv4_summary.ensures.visited

pub returns-in-Some-Ipv6-clause-visited : goal.returns-in-Some-Ipv6-clause-visited
returns-in-Some-Ipv6-clause-visited g c =
    let P : DissectedParts → Type 0 = λ p. g.V.HeaderVisitor.visited c.args.visitor.now (length p.base) p.headers c.ipv6_summary.new.visitor in
    subst P (sym (begins6 _ _ (ipv6_header.bytes c.in-Some-Ipv6.base) c.args.self.base_is (search rules) (search rules)).is) c.ipv6_summary.ensures.visited

pub returns-in-None-clause-visited : goal.returns-in-None-clause-visited
returns-in-None-clause-visited g c =
    let P : DissectedParts → Type 0 = λ p. g.V.HeaderVisitor.visited c.args.visitor.now (length p.base) p.headers c.args.visitor.now in
    subst P (sym (begins_none _ (rw c.in-None.is at c.args.self.base_is)).is) (g.met.V.HeaderVisitor.none _ _)
