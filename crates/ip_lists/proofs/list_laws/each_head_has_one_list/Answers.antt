use Rattle.std.proofs.Common.{length}
use Rattle.ip_lists.specs.Members.{members_after}
use Rattle.ip_lists.proofs.Walks.{has_list}
use Rattle.ip_lists.proofs.Paths.{same_path, lacks_end}
use Rattle.ip_lists.proofs.ListLemmas.{all_within, distinct, few}
use Rattle.ip_lists.proofs.list_laws.each_head_has_one_list.Goals as goal

pub returns : goal.returns
returns c = record {
  some = λ next previous h linked within. (members_after next h h (length next), has_list next previous linked h within);
  only = λ next h xs ys one other. same_path next h h xs ys one other;
  distinct = λ next h xs list. distinct next h h xs list;
  without_head = λ next h xs list. lacks_end next h h xs list;
  within = λ next h xs list. all_within next h h xs list;
  few = λ next h xs list. few next h h xs list;
}
