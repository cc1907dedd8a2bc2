use Rattle.ip_spec.proofs.Common.{rules, ◌≡◌, ◌∙◌, ap, sym, subst, Option, Some, IsSome}
use Rattle.ip_base.specs.Ipv4HeaderSlice as ipv4_header
use Rattle.ip_base.specs.Ipv6HeaderSlice as ipv6_header
use Rattle.ip_dissect.specs.Dissection.{DissectedParts}
use Rattle.ip_dissect.specs.Summary.{summary_of}
use Rattle.ip_dissect.specs.End.{has_error}
use Rattle.ip_dissect.specs.declared.summary.Summary.{Summary}
use Rattle.ip_dissect.specs.declared.end.End.{End}
use Rattle.ip_dissect.proofs.DissectedLemmas.{begins4, begins6, begins_none}
use Rattle.ip_dissect.proofs.SummaryLemmas.{ipv6_error_there, ipv6_error_is}
use Rattle.ip_dissect.proofs.PacketLemmas.{summary_fits}
use Rattle.ip_dissect.proofs.packet.Packet.error.Goals as goal

some_same : (d e : End) → Some d ≡ Some e → d ≡ e
some_same d e is = search rules

pub ipv4_end-requires : goal.ipv4_end-requires
ipv4_end-requires c = (begins4 _ _ (ipv4_header.bytes c.in-Some-Ipv4.base) c.args.self.now.base_is (search rules) (search rules)).prefix

pub end_at_extension-requires : goal.end_at_extension-requires
end_at_extension-requires c =
    let w = begins6 _ _ (ipv6_header.bytes c.in-Some-Ipv6.field-0-0) c.args.self.now.base_is (search rules) (search rules) in
    let fits = summary_fits c.args.self.now.bytes.now _ _ c.args.self.now.base_is c.args.self.now.summary_is in
    let base = ap (λ (o : Summary). o.base_len) (c.args.self.now.summary_is ∙ ap summary_of w.is) ∙ w.header.len in
    record {
      fits = search (rules, fits, base);
      fault =
          ipv6_error_there (ipv6_header.bytes c.in-Some-Ipv6.field-0-0) c.args.self.now.bytes.now _ _ (c.args.self.now.summary_is ∙ ap summary_of w.is) (c.payload.ensures ∙ ap (λ (p : DissectedParts). p.payload) w.is)
          (ap (λ (p : DissectedParts). has_error p.end) (sym w.is) ∙ c.requires);
    }

pub base_error-requires : goal.base_error-requires
base_error-requires c = let P : Option End → Type 0 = λ o. IsSome o in subst P (sym (begins_none _ (rw c.in-None.is at c.args.self.now.base_is)).ends) (search rules)

pub returns-in-Some-Ipv4 : goal.returns-in-Some-Ipv4
returns-in-Some-Ipv4 c = c.ipv4_end.ensures ∙ ap (λ (p : DissectedParts). p.end) (sym (begins4 _ _ (ipv4_header.bytes c.in-Some-Ipv4.base) c.args.self.now.base_is (search rules) (search rules)).is)

pub returns-in-Some-Ipv6 : goal.returns-in-Some-Ipv6
returns-in-Some-Ipv6 c =
    let w = begins6 _ _ (ipv6_header.bytes c.in-Some-Ipv6.field-0-0) c.args.self.now.base_is (search rules) (search rules) in
    ipv6_error_is (ipv6_header.bytes c.in-Some-Ipv6.field-0-0) c.args.self.now.bytes.now _ _ (c.args.self.now.summary_is ∙ ap summary_of w.is) (c.payload.ensures ∙ ap (λ (p : DissectedParts). p.payload) w.is)
    (ap (λ (p : DissectedParts). has_error p.end) (sym w.is) ∙ c.requires) _ c.end_at_extension.ensures
    ∙ ap (λ (p : DissectedParts). p.end) (sym w.is)

pub returns-in-None : goal.returns-in-None
returns-in-None c = let w = begins_none _ (rw c.in-None.is at c.args.self.now.base_is) in some_same _ _ (sym c.base_error.ensures ∙ w.ends) ∙ ap (λ (p : DissectedParts). p.end) (sym w.is)
