use Rattle.ip_spec.proofs.Common.{◌≡◌, true, sym, ◌∙◌, ap, None, cond-true, option_or}
use Rattle.ip_dissect.specs.Dissection.{DissectedParts, dissected}
use Rattle.ip_rewrite.specs.Rewritten.{jumbo_fault}
use Rattle.ip_rewrite.specs.Selection.{selects_first, any_selected}
use Rattle.ip_rewrite.specs.Without.{selection_fault}
use Rattle.ip_rewrite.specs.Writing.{empty_selection, selection_after}
use Rattle.ip_rewrite.specs.declared.request.Request.{Request}
use Rattle.ip_rewrite.specs.declared.selection.Selection.{Selection}
use Rattle.ip_rewrite.specs.declared.which.Which.{Which}
use Rattle.ip_rewrite.proofs.JumbogramLemmas.{selected_fault}
use Rattle.ip_rewrite.proofs.plan.test_leaving.Goals as goal

pub returns : goal.returns
returns c =
    let p : DissectedParts = dissected c.args.packet.now.bytes.now in
    let r : Request = c.args.request in
    let v : Selection = c.args.plan.now.selection in
    let which : v.which ≡ r.without = ap (λ (x : Selection). x.which) c.requires.selection in
    let own : v ≡ selection_after (empty_selection v.which) p.headers = c.requires.selection ∙ ap (λ (w : Which). selection_after (empty_selection w) p.headers) (sym which) in
    let selection : selection_fault r.without r.authentication p ≡ None =
    ap (λ (w : Which). selection_fault w r.authentication p) (sym which) ∙ sym (c.in_ok-test_selection.ensures p c.args.packet.now.summary_is own) in
    let jumbo = c.test_jumbogram.ensures ∙ selected_fault r.without p c.selects-ends.result (λ h is. c.selects-ends.ensures h is) in
    let some : any_selected (λ h. true) r.without 0 p.headers ≡ true = sym (ap (λ (x : Selection). x.selects) c.requires.selection) ∙ c.if-not-plan.false in
    let both = option_or (selection_fault r.without r.authentication p) (jumbo_fault (selects_first r.without p.headers) p) in
    jumbo ∙ sym (cond-true (any_selected (λ h. true) r.without 0 p.headers) both None some ∙ ap (λ x. option_or x (jumbo_fault (selects_first r.without p.headers) p)) selection)
