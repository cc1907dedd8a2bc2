use Rattle.ip_spec.proofs.Common.{◌∙◌, arith, get_or_default, AreBytes, rules}
use Rattle.ip_spec.proofs.RunsLemmas.{one_runs, fewest_runs, runs_bound}
use Rattle.ip_ext_slices.proofs.LongestLemmas.{longest_chain-longest}
use Rattle.ip_ext_chains.proofs.RunSpellingLemmas.{runs_spelled, spellings_written}
use Rattle.ip_ext_chains.proofs.RunsOfLemmas.{runs_from-runs}
use Rattle.ip_ext_chains.proofs.ipv6_exts_runs.Ipv6ExtensionsRuns.new.Goals as goal

pub returns-clause-only : goal.returns-clause-only
returns-clause-only c = search (rules, one_runs)

pub returns-clause-fewest : goal.returns-clause-fewest
returns-clause-fewest c = search (rules, fewest_runs)

pub returns-clause-most : goal.returns-clause-most
returns-clause-most c =
    rw (c.from_slice_lax.ensures.answer.number, c.into_iter.ensures.headers ∙ c.from_slice_lax.ensures.answer.value)
    (search (rules, runs_bound, longest_chain-longest, runs_from-runs))

pub returns-clause-spelled : goal.returns-clause-spelled
returns-clause-spelled c =
    let bytes : AreBytes c.args.bytes.now = λ k d l. omega (arith, get_or_default c.args.bytes.now k d 0 l, c.type_inv.bytes k) in
    rw (c.from_slice_lax.ensures.answer.number, c.into_iter.ensures.headers ∙ c.from_slice_lax.ensures.answer.value) (runs_spelled _ _ bytes)

pub returns-clause-written : goal.returns-clause-written
returns-clause-written c =
    let bytes : AreBytes c.args.bytes.now = λ k d l. omega (arith, get_or_default c.args.bytes.now k d 0 l, c.type_inv.bytes k) in
    rw (c.from_slice_lax.ensures.answer.number, c.into_iter.ensures.headers ∙ c.from_slice_lax.ensures.answer.value) (spellings_written _ _ _ (runs_spelled _ _ bytes))
