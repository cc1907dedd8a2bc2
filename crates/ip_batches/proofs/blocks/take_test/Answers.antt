use Rattle.std.proofs.Common.{rules, ap, ◌∙◌, get_or}
use Rattle.std.proofs.lemmas.List.{get_or_default}
use Rattle.ip_batches.specs.Blocks.{after_test}
use Rattle.ip_batches.proofs.BlockLemmas.{one_led}
use Rattle.ip_batches.proofs.blocks.take_test.Goals as goal

pub packets-preserved : goal.packets-preserved
packets-preserved c =
    let metadata = c.args.metadata.now in
    one_led c.args.test.now c.args.index metadata c.args.next.now c.packets.next c.packets.place c.index_after.result (search rules) c.packets.invariant.0 c.packets.invariant.1
    (λ d. c.index_after.ensures ∙ ap (λ b. after_test c.args.test.now c.args.index b (get_or c.packets.next c.packets.place 0))
    (c.index-metadata-place.is ∙ get_or_default metadata c.packets.place _ d c.packets-test.true))
