use Rattle.ip_spec.proofs.Common.{◌≡◌, ◌∷◌, [], ap, length, if◌then◌else◌, arith, rules}
use Rattle.ip_ext_slices.specs.Ipv6ExtensionSliceIter.{headers_left}
use Rattle.ip_ext_chains.specs.RunsOf.{runs_from}
use Rattle.ip_ext_chains.proofs.RunsOfLemmas.{left_joined, left_few}
use Rattle.ip_ext_chains.proofs.RunLemmas.{run_passes}
use Rattle.ip_ext_chains.proofs.ipv6_exts_runs.Ipv6ExtensionsRuns.clear_runs.Goals as goal

pub runs-init : goal.runs-init
runs-init c = search (rules, left_joined)

-- the run is passed over
passes : (c : goal.After-is_last-done) → (if c.runs.done then [] else runs_from c.args.self.number.0 (headers_left c.runs.headers))
    ≡ c.clear_run-end.ensures.run.run ∷ (if c.is_last-done.result then [] else runs_from c.args.self.number.0 (headers_left c.clear_run-end.new.headers))
passes c = let last = c.is_last-done.ensures in run_passes _ _ _ _ c.clear_run-end.ensures.run _ _ (search rules) last.last last.more

pub overflow_add-count : goal.overflow_add-count
overflow_add-count c = search (rules, left_joined, passes, left_few)

pub runs-smaller : goal.runs-smaller
runs-smaller c = omega (arith, ap length (passes c))

pub runs-preserved : goal.runs-preserved
runs-preserved c = record {
  counted = omega (arith, ap length (passes c), c.runs.invariant.counted);
  clearing = rw c.runs.invariant.clearing.cleared at c.clear_run-end.ensures.cleared;
  last = λ e. (c.is_last-done.ensures.last e).0;
}
