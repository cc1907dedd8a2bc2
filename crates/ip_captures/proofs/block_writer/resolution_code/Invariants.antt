use Rattle.std.proofs.Common.{◌≢◌, ◌<◌, ℕ}
use Rattle.ip_captures.specs.Interface.{resolution}
use Rattle.ip_captures.proofs.block_writer.resolution_code.Given as goal

abbrev pub invariant-codes : goal.invariant-codes
invariant-codes l = (b : ℕ) → b < l.code → resolution b ≢ l.ticks
