use Rattle.ip_spec.proofs.Common.{rules, refl}
use Rattle.ip_ext_slices.proofs.LongestLemmas.{longest_chain-longest}
use Rattle.ip_ext_chains.proofs.RunLemmas.{run_passes}
use Rattle.ip_ext_chains.proofs.RunsOfLemmas.{run_leads, ends_after, bytes_after}
use Rattle.ip_ext_chains.proofs.ipv6_exts_runs.Ipv6ExtensionsRuns.take_places.Goals as goal

pub returns : goal.returns
returns c =
    let last = c.is_last-self.ensures in
    let r = c.args.self.now in
    let run = c.take_run-places.ensures in
    let passes = run_passes r.number.0 _ _ _ run r.done c.is_last-self.result (search rules) last.last last.more in
    let leads = run_leads _ _ _ _ _ (longest_chain-longest _ _).has.chain r.ends run in
    ((run.run, passes, leads), run.placed, refl, refl)

pub invariant_of-self : goal.invariant_of-self
invariant_of-self c =
    let r = c.args.self.now in
    let chain = (longest_chain-longest r.headers.next_header.0 r.headers.rest.now).has.chain in
    let ends = ends_after _ _ _ _ _ chain r.ends c.take_run-places.ensures in
    let bytes = bytes_after _ r.number.0 _ _ _ chain r.ends c.take_run-places.ensures r.are_bytes in
    let last = c.is_last-self.ensures.last in search rules
