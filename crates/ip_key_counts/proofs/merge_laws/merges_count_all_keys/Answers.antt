use Rattle.std.proofs.Common.{◌≡◌, ℕ, ◌+◌, ◌-◌, ◌^◌, List, length, ap, ◌∙◌, arith}
use Rattle.std.specs.Prelude.{min}
use Rattle.ip_key_counts.specs.Counts.{nothing, added, keys_counted, listed_total, total}
use Rattle.ip_key_counts.proofs.MergeLemmas.{keys_merged_all, parts_are_all}
use Rattle.ip_key_counts.proofs.TotalLemmas.{total_keys, distinct_keys, total_merged}
use Rattle.ip_key_counts.proofs.merge_laws.merges_count_all_keys.Goals as goal

pub returns-clause-one : goal.returns-clause-one
returns-clause-one c = λ room r counts keys small none. keys_merged_all room r counts keys small none

pub returns-clause-parts : goal.returns-clause-parts
returns-clause-parts c = λ room r parts none. parts_are_all room r nothing parts (omega arith) none

zero_total : (n : ℕ) → min (added 0 0 + n) (2 ^ 64 - 1) ≡ min n (2 ^ 64 - 1)
zero_total n = omega arith

of_keys : (room : ℕ) (keys : List (List ℕ)) → total (keys_counted room nothing keys) ≡ min (length keys) (2 ^ 64 - 1)
unfolding listed_total
of_keys room keys = total_keys room nothing keys tt ∙ zero_total (length keys)

sum_by : (m n : ℕ) → added (min m (2 ^ 64 - 1)) (min n (2 ^ 64 - 1)) ≡ min (m + n) (2 ^ 64 - 1)
sum_by m n = omega arith

pub returns-clause-total : goal.returns-clause-total
returns-clause-total c = λ room keys. of_keys room keys

pub returns-clause-merged_total : goal.returns-clause-merged_total
returns-clause-merged_total c = λ room r s xs ys.
    total_merged room (keys_counted r nothing xs) (keys_counted s nothing ys) (distinct_keys r nothing xs tt)
    ∙ (ap (λ (t : ℕ). added t (total (keys_counted s nothing ys))) (of_keys r xs)
    ∙ (ap (λ (t : ℕ). added (min (length xs) (2 ^ 64 - 1)) t) (of_keys s ys) ∙ sum_by (length xs) (length ys)))
