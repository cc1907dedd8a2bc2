use Rattle.ip_spec.proofs.Common.{◌≡◌, ◌≤◌, ◌-◌, length, drop, IfSome}
use Rattle.ip_header_contents.specs.Options.{options_in}
use Rattle.ip_rewrite.specs.Jumbogram.{only_jumbo_payload}
use Rattle.ip_rewrite.specs.Writing.{found_or}
use Rattle.ip_rewrite.proofs.jumbogram.only_jumbo_payload.Given as goal

abbrev pub invariant-options : goal.invariant-options
invariant-options l = record {
  within : l.offset ≤ length l.header;
  found : IfSome l.found (λ k. k ≤ length l.header);
  rest : found_or l.found l.offset (options_in (drop l.offset l.header)) ≡ only_jumbo_payload 2 (options_in (drop 2 l.header));
}

abbrev pub decreases-options : goal.decreases-options
decreases-options l = length l.header - l.offset
