use Rattle.std.proofs.Common.{◌≡◌, length}
use Rattle.ip_captures.specs.Options.{option_value}
use Rattle.ip_captures.proofs.options.option_value.Given as goal

abbrev pub invariant-options : goal.invariant-options
invariant-options l = option_value l.order l.code l.rest ≡ option_value l.order l.code l.options

abbrev pub decreases-options : goal.decreases-options
decreases-options l = length l.rest
