use Rattle.ip_spec.proofs.Common.{◌≡◌, ◌+◌, length, [], true, if◌then◌else◌, bytes_of, cleared_chain, joined}
use Rattle.ip_ext_slices.specs.Ipv6ExtensionSliceIter.{headers_left}
use Rattle.ip_ext_chains.specs.Clearing.{Clearing}
use Rattle.ip_ext_chains.specs.RunsOf.{runs_from}
use Rattle.ip_ext_chains.specs.Ipv6ExtensionsRuns.{runs_left}
use Rattle.ip_ext_chains.proofs.ipv6_exts_runs.Ipv6ExtensionsRuns.clear_runs.Given as goal

abbrev pub invariant-runs : goal.invariant-runs
invariant-runs l = record {
  counted : l.count + length (if l.done then [] else runs_from l.self.number.0 (headers_left l.headers)) ≡ length (runs_left l.self);
  clearing : Clearing (bytes_of (cleared_chain (joined (runs_left l.self)))) (headers_left l.headers) l.at l.copy;
  last : l.done ≡ true → headers_left l.headers ≡ [];
}

abbrev pub decreases-runs : goal.decreases-runs
decreases-runs l = length (if l.done then [] else runs_from l.self.number.0 (headers_left l.headers))
