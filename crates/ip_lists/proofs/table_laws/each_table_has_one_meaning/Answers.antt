use Rattle.ip_lists.proofs.Tables.{one_meaning, other_buckets}
use Rattle.ip_lists.proofs.table_laws.each_table_has_one_meaning.Goals as goal

pub returns : goal.returns
returns c = record { only = one_meaning; buckets = other_buckets }
