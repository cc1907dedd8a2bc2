use Rattle.std.proofs.Common.{ℕ, ◌-◌, ap, ◌∙◌}
use Rattle.ip_bpf.proofs.AssemblyLemmas.{extends-put, extends-trans, result_kept, needs_kept, branch_leads, branch_needs}
use Rattle.ip_bpf.proofs.assembler.Assembler.branch.Goals as goal

pub returns-clause-front : goal.returns-clause-front
returns-clause-front c =
    extends-trans c.put.new.self c.reach-if_met.new.self c.args.self.now
    (extends-put c.put.new.self c.reach-if_met.new.self _ c.put.ensures)
    (extends-trans c.reach-if_met.new.self c.reach-if_not.new.self c.args.self.now c.reach-if_met.ensures.front c.reach-if_not.ensures.front)

pub returns-clause-leads : goal.returns-clause-leads
returns-clause-leads c = λ packet m.
    branch_leads c.put.new.self c.reach-if_met.new.self c.args.self.now c.args.comparison c.args.operand _ _ c.reach-if_met.result c.reach-if_not.result c.args.if_met c.args.if_not
    c.put.ensures
    (ap (λ (n : ℕ). n - c.reach-if_met.result) c.label-here.ensures.value)
    (ap (λ (n : ℕ). n - c.reach-if_not.result) c.label-here.ensures.value)
    packet m
    (c.reach-if_met.ensures.leads packet m ∙ result_kept c.reach-if_not.new.self c.args.self.now c.reach-if_not.ensures.front c.args.if_met c.requires.met_there packet m)
    (result_kept c.reach-if_met.new.self c.reach-if_not.new.self c.reach-if_met.ensures.front c.reach-if_not.result c.reach-if_not.ensures.there packet m ∙ c.reach-if_not.ensures.leads packet m)

pub returns-clause-words : goal.returns-clause-words
returns-clause-words c = λ k.
    branch_needs c.put.new.self c.reach-if_met.new.self c.args.self.now c.args.comparison c.args.operand _ _ c.reach-if_met.result c.reach-if_not.result c.args.if_met c.args.if_not
    c.put.ensures
    (ap (λ (n : ℕ). n - c.reach-if_met.result) c.label-here.ensures.value)
    (ap (λ (n : ℕ). n - c.reach-if_not.result) c.label-here.ensures.value)
    k
    (c.reach-if_met.ensures.words k ∙ needs_kept c.reach-if_not.new.self c.args.self.now c.reach-if_not.ensures.front c.args.if_met c.requires.met_there k)
    (needs_kept c.reach-if_met.new.self c.reach-if_not.new.self c.reach-if_met.ensures.front c.reach-if_not.result c.reach-if_not.ensures.there k ∙ c.reach-if_not.ensures.words k)
