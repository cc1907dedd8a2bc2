use Rattle.std.proofs.Common.{rules}
use Rattle.std.proofs.lemmas.Slice.{overwrites}
use Rattle.ip_captures.proofs.block_writer.put.Goals as goal

pub returns-clause-rest : goal.returns-clause-rest
returns-clause-rest c = λ k h. search (rules, overwrites)
