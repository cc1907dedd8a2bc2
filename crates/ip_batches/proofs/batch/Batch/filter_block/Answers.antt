use Rattle.std.proofs.Common.{◌≡◌, length, ◌+◌, ◌<◌, ◌++◌, take, drop, min, refl, ap, ◌∙◌, arith, get_or}
use Rattle.std.proofs.lemmas.List.{length-set}
use Rattle.ip_dissect.specs.Dissection.{dissected}
use Rattle.ip_filter.specs.Tests.{meets}
use Rattle.ip_filter.specs.Program.{tests_of, passes}
use Rattle.ip_statistics.specs.Counts.{one_if}
use Rattle.ip_batches.specs.Batch.{packets_at, matches_of}
use Rattle.ip_batches.proofs.BatchLemmas.{next_stored}
use Rattle.ip_batches.proofs.BlockLemmas.{element}
use Rattle.ip_batches.proofs.batch.Batch.filter_block.Goals as goal

pub packets-preserved : goal.packets-preserved
packets-preserved c =
    let metadata = c.put_metadata.new.metadata in
    let k = c.packets.index in
    let d = element metadata k c.packets-test.true in
    let within : k < length c.args.metadata.now = omega (arith, c.packets-test.true, c.put_metadata.ensures.len) in
    let next : (c.args.first + k) + 1 ≡ c.args.first + (k + 1) = omega arith in
    let met = ap one_if (c.run_tests-next.ensures k d c.packets-test.true ∙ ap (λ xs. passes xs (λ x. meets x (dissected (get_or metadata k d).bytes.now))) c.used_tests.ensures.tests) in (
      length-set c.packets.matches (c.args.first + k) _ ∙ c.packets.invariant.0,
      λ old len stored. next_stored c.args.self.now.buffer.now c.args.self.now.spans.now (λ s. one_if (passes (tests_of c.args.filter.now) (λ x. meets x (dissected s)))) old
          c.packets.matches (c.args.first + k) (min (length c.args.self.now.spans.now) (length old)) (get_or metadata k d).bytes.now _ (c.packets.invariant.1 old len stored)
          (omega (arith, c.packets-test.true, c.put_metadata.ensures.len, c.requires.spans, c.requires.room, len)) refl (λ e. c.put_metadata.ensures.bytes k d e within) (c.byte_of.ensures ∙ met)
          ∙ ap (λ n. take n (matches_of c.args.filter.now (packets_at c.args.self.now.buffer.now c.args.self.now.spans.now)) ++ drop n old) next,
    )
