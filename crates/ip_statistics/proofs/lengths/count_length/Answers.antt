use Rattle.std.proofs.Common.{◌==◌, ◌&&◌, ◌∙◌, ap, sym}
use Rattle.ip_statistics.specs.Counts.{all_added, each_below, one_if}
use Rattle.ip_statistics.specs.Lengths.{is_for_length}
use Rattle.ip_statistics.proofs.CountLemmas.{each_below_same}
use Rattle.ip_statistics.proofs.lengths.count_length.Goals as goal

pub returns : goal.returns
returns c = c.count_at.ensures ∙ ap (all_added c.args.counts.now)
    (ap (λ n. each_below n (λ i. one_if (c.args.condition && (c.length_index.result == i)))) c.requires
    ∙ each_below_same 73 _ (λ i. one_if (c.args.condition && is_for_length i c.args.len)) (λ i l. ap (λ b. one_if (c.args.condition && b)) (sym (c.length_index.ensures.length i l))))
