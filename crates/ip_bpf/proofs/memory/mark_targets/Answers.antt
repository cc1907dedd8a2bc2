use Rattle.std.proofs.Common.{◌+◌, ◌<◌, inl, inr, length, arith}
use Rattle.ip_bpf.specs.Programs.{skipped_if}
use Rattle.ip_bpf.proofs.BitLemmas.{marked_twice, both_ways}
use Rattle.ip_bpf.proofs.memory.mark_targets.Goals as goal

pub returns-clause-marked : goal.returns-clause-marked
returns-clause-marked c = λ p k less.
    let within : p < length c.args.unwritten.now = omega arith in
    let marks = marked_twice c.args.unwritten.now c.mark.new.unwritten c.mark-2.new.unwritten (c.args.place + 1 + c.skipped_if.result) (c.args.place + 1 + c.skipped_if-2.result) c.args.words p k c.mark.ensures c.mark-2.ensures within in
    let ways = both_ways (λ t. skipped_if t c.args.operation) p c.args.place c.skipped_if.result c.skipped_if-2.result c.skipped_if.ensures.value c.skipped_if-2.ensures.value in (
      λ h. elim (marks.0 h) [ inl old ↦ inl old | inr new ↦ inr (new.0, ways.0 new.1) ],
      λ h. elim h [ inl old ↦ marks.1 (inl old) | inr new ↦ marks.1 (inr (new.0, ways.1 new.1)) ],
    )
