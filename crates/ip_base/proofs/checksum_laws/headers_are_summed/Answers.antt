use Rattle.ip_base.proofs.ChecksumLemmas.{whole_sum, updated_sum}
use Rattle.ip_base.proofs.checksum_laws.headers_are_summed.Goals as goal

pub returns : goal.returns
returns c = record { whole = whole_sum; updated = updated_sum }
