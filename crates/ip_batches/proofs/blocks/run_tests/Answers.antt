use Rattle.ip_batches.specs.Blocks.{met_by}
use Rattle.std.proofs.Common.{get_or}
use Rattle.ip_batches.proofs.BlockLemmas.{test_taken, none_taken}
use Rattle.ip_batches.proofs.blocks.run_tests.Goals as goal

pub tests-init : goal.tests-init
tests-init c = none_taken c.args.tests.now c.args.metadata.now

pub tests-preserved : goal.tests-preserved
tests-preserved c = λ j d l. test_taken (met_by (get_or c.args.metadata.now j d)) c.args.tests.now c.tests.index _ _ _ c.tests-test.true (c.take_test.ensures j d l) (c.tests.invariant j d l)
