use Rattle.ip_spec.proofs.Common.{◌≡◌}
use Rattle.ip_ext_chains.specs.Ipv6ExtensionsRuns.{start, input}
use Rattle.check_uses.proofs.runs.len_of_runs.Given as goal

abbrev pub invariant-runs : goal.invariant-runs
invariant-runs l = record {
  start : start l.runs ≡ l.fn.start.0;
  input : input l.runs ≡ l.fn.packet;
}
