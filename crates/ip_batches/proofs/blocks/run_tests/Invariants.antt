use Rattle.ip_batches.specs.Blocks.{AreLed}
use Rattle.ip_batches.proofs.blocks.run_tests.Given as goal

-- the tests before the index have led each packet on
abbrev pub invariant-tests : goal.invariant-tests
invariant-tests l = AreLed l.tests l.index l.metadata l.next
