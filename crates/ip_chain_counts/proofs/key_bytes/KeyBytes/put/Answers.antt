use Rattle.ip_chain_counts.proofs.KeyLemmas.{three_replaced}
use Rattle.ip_chain_counts.proofs.key_bytes.KeyBytes.put.Goals as goal

pub returns-then-index : goal.returns-then-index
returns-then-index c = λ xs ys at has. three_replaced c.args.self.now xs ys c.args.first c.args.second c.args.third c.args.index at has
