use Rattle.ip_ext_chains.proofs.RewritingLemmas.{IsRewriting}
use Rattle.check_reference.proofs.runs.write_runs.Given as goal

abbrev pub invariant-runs : goal.invariant-runs
invariant-runs l = IsRewriting l.fn.start.0 l.fn.packet l.runs l.next.0 l.count l.written.items
