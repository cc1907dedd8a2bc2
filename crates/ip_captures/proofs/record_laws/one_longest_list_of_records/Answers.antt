use Rattle.ip_captures.proofs.RecordLemmas.{records_longest, one_longest_list, first_records}
use Rattle.ip_captures.proofs.record_laws.one_longest_list_of_records.Goals as goal

pub returns : goal.returns
returns c = record { some = records_longest; only = one_longest_list; longest = first_records }
