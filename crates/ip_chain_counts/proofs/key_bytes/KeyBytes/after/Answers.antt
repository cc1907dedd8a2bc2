use Rattle.std.proofs.Common.{[]}
use Rattle.ip_chain_counts.proofs.KeyLemmas.{has_as, joined}
use Rattle.ip_chain_counts.proofs.key_bytes.KeyBytes.after.Goals as goal

pub returns : goal.returns
returns c =
    let empty = c.new-key.ensures in
    has_as _ _ _ (joined c.args.path.now 0 0 0) (c.push-3.ensures _ (c.push-2.ensures _ (c.push.ensures _ (c.extend.ensures [] empty))))
