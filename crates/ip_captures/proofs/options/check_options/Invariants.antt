use Rattle.std.proofs.Common.{◌≡◌, length}
use Rattle.ip_captures.specs.Options.{options_error}
use Rattle.ip_captures.proofs.options.check_options.Given as goal

abbrev pub invariant-options : goal.invariant-options
invariant-options l = options_error l.order l.rest ≡ options_error l.order l.options

abbrev pub decreases-options : goal.decreases-options
decreases-options l = length l.rest
