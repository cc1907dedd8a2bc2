use Rattle.std.proofs.Common.{Bool, cond, subst}
use Rattle.ip_bpf.proofs.AssemblyLemmas.{extends-put, extends-trans}
use Rattle.ip_bpf.specs.Machine.{number_at}
use Rattle.ip_bpf.specs.declared.instruction.Width.TheVariants.{Word}
use Rattle.ip_filter_bpf.specs.Blocks.{Returns}
use Rattle.ip_filter_bpf.proofs.BlockLemmas.{all_ignored}
use Rattle.ip_filter_bpf.proofs.blocks.put_word.Goals as goal

pub returns-then-ignored-ge32-clause-leads : goal.returns-then-ignored-ge32-clause-leads
returns-then-ignored-ge32-clause-leads c = λ packet r there small h.
    subst (λ (t : Bool). Returns c.args.code.now (cond t c.args.if_met c.args.if_not) packet r)
    (all_ignored c.args.ignored (number_at packet c.args.offset Word) c.args.word c.if-ignored-ge32.true small c.ranges.word.fits) h

pub returns-clause-front : goal.returns-clause-front
returns-clause-front c =
    extends-trans c.put.new.self c.put_shift.new.code c.args.code.now
    (extends-put c.put.new.self c.put_shift.new.code _ c.put.ensures)
    (extends-trans c.put_shift.new.code c.branch-code.new.self c.args.code.now c.put_shift.ensures.front c.branch-code.ensures.front)
