use Rattle.std.proofs.Common.{◌≡◌, Bool, cond, sym, subst, ◌∙◌}
use Rattle.std.specs.Prelude.{Option, Some, None}
use Rattle.ip_filter_bpf.specs.Blocks.{Returns}
use Rattle.ip_filter_bpf.specs.Fields.{field_of}
use Rattle.ip_filter_bpf.specs.declared.fields.Field.{Field}
use Rattle.ip_filter_bpf.proofs.FieldLemmas.{Compares, ComparesIfSome, says}
use Rattle.ip_filter_bpf.proofs.compared.put_quantity.Goals as goal

pub returns-in-Some-clause-leads : goal.returns-in-Some-clause-leads
returns-in-Some-clause-leads c = λ packet r of_version bytes h.
    let x = c.args.test.now in
    let is : field_of x.kind c.args.version ≡ Some c.in-Some.field = sym c.field_of.ensures ∙ c.in-Some.is in
    let it : Compares x c.in-Some.field packet = subst (λ (o : Option Field). ComparesIfSome x packet o) is (says x packet bytes c.args.version c.requires.kind of_version) in
    c.put_compared.ensures.leads packet r it.there bytes it.small
    (subst (λ (t : Bool). Returns c.args.code.now (cond t c.args.if_met c.args.if_not) packet r) it.met h)

pub returns-in-None-clause-leads : goal.returns-in-None-clause-leads
returns-in-None-clause-leads c = λ packet r of_version bytes h.
    let x = c.args.test.now in
    let is : field_of x.kind c.args.version ≡ None = sym c.field_of.ensures ∙ c.in-None.is in
    let it : ComparesIfSome x packet None = subst (λ (o : Option Field). ComparesIfSome x packet o) is (says x packet bytes c.args.version c.requires.kind of_version) in
    subst (λ (t : Bool). Returns c.args.code.now (cond t c.args.if_met c.args.if_not) packet r) it h
