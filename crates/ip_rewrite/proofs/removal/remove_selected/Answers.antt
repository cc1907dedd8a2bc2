use Rattle.ip_spec.proofs.Common.{◌≡◌, ℕ, List, length, true, sym, ◌∙◌, ap}
use Rattle.ip_dissect.specs.Dissection.{DissectedParts, dissected}
use Rattle.ip_rewrite.specs.Selection.{any_selected}
use Rattle.ip_rewrite.specs.Request.{change_fault}
use Rattle.ip_rewrite.specs.declared.request.Request.{Request}
use Rattle.ip_rewrite.specs.declared.selection.Selection.{Selection}
use Rattle.ip_rewrite.proofs.SingleLemmas.{leaving_is}
use Rattle.ip_rewrite.proofs.removal.remove_selected.Goals as goal

pub returns-clause-fault : goal.returns-clause-fault
returns-clause-fault c =
    let p : DissectedParts = dissected c.args.packet.now in
    let n : ℕ = length c.args.out.now in
    let some : any_selected (λ h. true) c.args.which 0 p.headers ≡ true =
    ap (λ (r : Request). any_selected (λ h. true) r.without 0 p.headers) (sym c.leaving-request.ensures) ∙ (sym (ap (λ (v : Selection). v.selects) c.seen.ensures.plan.selection) ∙ c.if-not-plan.false) in
    c.write_planned.ensures.fault
    ∙ (ap (λ (s : List ℕ). change_fault c.leaving-request.result (dissected s) n) c.seen.ensures.bytes
    ∙ (ap (λ (r : Request). change_fault r p n) c.leaving-request.ensures ∙ leaving_is c.args.which c.args.authentication p n some))
