use Rattle.ip_spec.proofs.Common.{rules}
use Rattle.ip_ext_slices.proofs.LongestLemmas.{longest_chain-within}
use Rattle.ip_ext_slices.proofs.ipv6_exts_slice.Ipv6ExtensionsSliceIntoIterator.into_iter.Goals as goal

pub returns-clause-bound : goal.returns-clause-bound
returns-clause-bound c = search (rules, longest_chain-within)
