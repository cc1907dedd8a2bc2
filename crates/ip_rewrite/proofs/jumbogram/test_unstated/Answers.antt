use Rattle.ip_spec.proofs.Common.{rules}
use Rattle.ip_dissect.proofs.PacketLemmas.{summary_fits}
use Rattle.ip_rewrite.proofs.jumbogram.test_unstated.Goals as goal

pub overflow_add-summary : goal.overflow_add-summary
overflow_add-summary c = let fits = summary_fits c.args.packet.now.bytes.now _ _ c.args.packet.now.base_is c.args.packet.now.summary_is in search (rules, fits)
