use Rattle.std.proofs.Common.{◌≡◌, ◌<◌, ◌≤◌, ℕ, get_or}
use Rattle.ip_filter.specs.declared.metadata.Metadata.{Metadata}
use Rattle.ip_batches.specs.Blocks.{after_test}
use Rattle.ip_batches.proofs.blocks.take_test.Given as goal

-- the packets before the place have been led on, and those from it on haven't
abbrev pub invariant-packets : goal.invariant-packets
invariant-packets l = ((j : ℕ) (d : Metadata) → j < l.place → get_or l.next j 0 ≡ after_test l.test l.index (get_or l.metadata j d) (get_or l.fn.next j 0))
    × ((j : ℕ) → l.place ≤ j → get_or l.next j 0 ≡ get_or l.fn.next j 0)
