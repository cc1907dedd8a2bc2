use Rattle.std.proofs.Common.{◌∙◌, sym}
use Rattle.ip_statistics.specs.Lists.{packets_in}
use Rattle.ip_statistics.proofs.MergeLemmas.{merged_comm, merged_assoc, nothing_right, statistics_of-append, statistics_of-permutation, merged_in-packets_in}
use Rattle.ip_statistics.proofs.merge_laws.merges_are_the_statistics_of_all.Goals as goal

pub returns : goal.returns
returns c = record {
  associative = merged_assoc;
  commutative = merged_comm;
  neutral = nothing_right;
  split = statistics_of-append;
  order = statistics_of-permutation;
  all = λ m xs order. merged_in-packets_in m ∙ sym (statistics_of-permutation xs (packets_in m) order);
}
