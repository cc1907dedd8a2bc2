use Rattle.ip_spans.proofs.WrittenLemmas.{written_is_chain}
use Rattle.ip_spans.proofs.writes.write_headers.Goals as goal

pub returns-then-len-out-clause-chain : goal.returns-then-len-out-clause-chain
returns-then-len-out-clause-chain c n = written_is_chain _ n _ c.in_ok-len.ensures.lie

pub returns-else-len-out-clause-chain : goal.returns-else-len-out-clause-chain
returns-else-len-out-clause-chain c n = written_is_chain _ n _ c.in_ok-len.ensures.lie
