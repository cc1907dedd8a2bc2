use Rattle.ip_spec.proofs.Common.{◌∙◌, arith, Asks}
use Rattle.ip_base.proofs.ReadingLemmas.{consumed_more, refused_in_layer}
use Rattle.ip_ext_chains.specs.ChainReading.{layer_of}
use Rattle.ip_ext_chains.proofs.ReadErrorLemmas.{request_refused}
use Rattle.ip_ext_chains.proofs.header_source.LimitedHeaderSource.read_exact.Goals as goal

pub returns-in-Ok-clause-more : goal.returns-in-Ok-clause-more
returns-in-Ok-clause-more g c = λ layer old done read. (
  consumed_more _ _ _ _ c.read_exact.new.self done c.read_exact.new.buf _ read.0 (omega arith) c.in-Ok.ensures.takes c.in-Ok.ensures.within c.in-Ok.ensures.limits,
  c.in-Ok.ensures.steady ∙ read.1,
  c.in-Ok.ensures.kept ∙ read.2,
)

pub returns-in-Err-clause-refused : goal.returns-in-Err-clause-refused
returns-in-Err-clause-refused g c = λ m old done read asked.
    rw c.of_limited.ensures (request_refused g.T.ExactRead.bytes_left g.T.ExactRead.is_steady g.T.ExactRead.has_failed c.in-Err.e m old c.read_exact.new.self
    (refused_in_layer _ (layer_of m) _ _ (Asks m) _ _ _ done _ _ read.0 read.1 read.2 asked c.in-Err.ensures.refuses c.in-Err.ensures.stays))
