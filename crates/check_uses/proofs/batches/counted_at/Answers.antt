use Rattle.std.proofs.Common.{[], ap, ◌∙◌, append-nil}
use Rattle.ip_statistics.specs.Lists.{statistics_of}
use Rattle.ip_batches.specs.Batch.{packets_at}
use Rattle.check_uses.proofs.batches.counted_at.Goals as goal

pub returns-clause-counted : goal.returns-clause-counted
returns-clause-counted c =
    let batch = c.in_ok-batch.batch in
    c.count.ensures.packets [] c.new-statistics.ensures ∙ ap statistics_of (append-nil (packets_at batch.buffer.now batch.spans.now))
    ∙ ap (λ s. statistics_of (packets_at s batch.spans.now)) c.in_ok-batch.ensures.same.0 ∙ ap (λ spans. statistics_of (packets_at c.args.buffer.now spans)) c.in_ok-batch.ensures.same.1
