use Rattle.std.proofs.Common.{ap, ◌∙◌, ℕ, arith}
use Rattle.std.specs.Int.{bit_at}
use Rattle.ip_bpf.proofs.BitLemmas.{start_more, all_first, none_later}
use Rattle.ip_bpf.proofs.memory.mark_start.Goals as goal
use Rattle.ip_bpf.proofs.memory.mark_start.Goals.{then-place-eq0, else-place-eq0}

pub loop-place-preserved : goal.loop-place-preserved
loop-place-preserved c = λ p k less small.
    start_more c.loop-place.unwritten c.loop-place.place c.if-place-eq0.words p k (omega arith) less
    (elim c.if-place-eq0.branch [
      | then-place-eq0 w ↦ ap (λ (n : ℕ). bit_at n k) w.words-is ∙ all_first c.loop-place.place k w.if-place-eq0.true small
      | else-place-eq0 w ↦ ap (λ (n : ℕ). bit_at n k) w.words-is ∙ none_later c.loop-place.place k w.if-place-eq0.false
    ])
    (λ q below. c.loop-place.invariant q k below small)
