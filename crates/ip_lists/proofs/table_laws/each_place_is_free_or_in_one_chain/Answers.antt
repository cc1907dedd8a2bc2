use Rattle.ip_lists.proofs.ListLemmas.{distinct}
use Rattle.ip_lists.proofs.Tables.{from_table, free_lacks, bucket_has}
use Rattle.ip_lists.proofs.table_laws.each_place_is_free_or_in_one_chain.Goals as goal

pub returns : goal.returns
returns c = record {
  apart = λ table free used bucket_of is. free_lacks _ _ _ _ _ _ (from_table table free used bucket_of is).split;
  distinct = λ table free used bucket_of is. (distinct _ _ _ free is.free_list, distinct _ _ _ used is.used_list);
  chains = bucket_has;
}
