use Rattle.std.proofs.Common.{◌≡◌, drop}
use Rattle.ip_filter.specs.Words.{words}
use Rattle.ip_filter.proofs.words.skip_spaces.Given as goal

abbrev pub invariant-spaces : goal.invariant-spaces
invariant-spaces l = words (drop l.i l.text) ≡ words l.text
