use Rattle.std.proofs.Common.{◌≡◌, ◌+◌, drop}
use Rattle.ip_filter.specs.Numbers.{index_of}
use Rattle.ip_filter.proofs.numbers.index_of.Given as goal

abbrev pub invariant-bytes : goal.invariant-bytes
invariant-bytes l = index_of l.byte l.word ≡ l.i + index_of l.byte (drop l.i l.word)
