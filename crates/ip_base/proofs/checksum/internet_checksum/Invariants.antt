use Rattle.std.proofs.Common.{◌≡◌, ◌≤◌}
use Rattle.ip_base.specs.Checksum.{sum_of}
use Rattle.ip_base.proofs.checksum.internet_checksum.Given as goal

abbrev pub invariant-words : goal.invariant-words
invariant-words l = record { sum : l.sum ≡ sum_of l.bytes l.index; fits : l.sum ≤ 65535 }
