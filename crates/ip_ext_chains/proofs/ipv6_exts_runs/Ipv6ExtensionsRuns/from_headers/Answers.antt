use Rattle.ip_spec.proofs.Common.{rules}
use Rattle.ip_spec.proofs.RunsLemmas.{one_runs, runs_joined, fewest_runs, runs_bound}
use Rattle.ip_ext_slices.proofs.LongestLemmas.{longest_chain-longest}
use Rattle.ip_ext_chains.proofs.RunSpellingLemmas.{left_spelled, spellings_written}
use Rattle.ip_ext_chains.proofs.RunsOfLemmas.{runs_from-runs}
use Rattle.ip_ext_chains.proofs.ipv6_exts_runs.Ipv6ExtensionsRuns.from_headers.Goals as goal

pub returns-clause-joined : goal.returns-clause-joined
returns-clause-joined c = search (rules, runs_joined, runs_from-runs)

pub returns-clause-only : goal.returns-clause-only
returns-clause-only c = rw c.into_iter.ensures.headers (search (rules, one_runs, runs_from-runs))

pub returns-clause-fewest : goal.returns-clause-fewest
returns-clause-fewest c = rw c.into_iter.ensures.headers (search (rules, fewest_runs, runs_from-runs))

pub returns-clause-most : goal.returns-clause-most
returns-clause-most c = rw (← c.into_iter.ensures.bytes) (search (rules, runs_bound, longest_chain-longest, runs_from-runs))

pub returns-clause-spelled : goal.returns-clause-spelled
returns-clause-spelled c = search (rules, left_spelled)

pub returns-clause-written : goal.returns-clause-written
returns-clause-written c = rw (← c.into_iter.ensures.headers) (spellings_written _ _ _ (returns-clause-spelled c))
