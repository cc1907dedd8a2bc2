use Rattle.ip_rewrite.proofs.ChecksumLawLemmas.{written_sum}
use Rattle.ip_rewrite.proofs.checksum_laws.written_checksums_are_right.Goals as goal

pub returns : goal.returns
returns c = written_sum
