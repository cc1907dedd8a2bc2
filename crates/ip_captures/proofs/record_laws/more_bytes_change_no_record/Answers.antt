use Rattle.ip_captures.proofs.RecordLemmas.{more_records, same_frame, same_error}
use Rattle.ip_captures.proofs.record_laws.more_bytes_change_no_record.Goals as goal

pub returns : goal.returns
returns c = record { records = more_records; frame = same_frame; error = same_error }
