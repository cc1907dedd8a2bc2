use Rattle.ip_spec.proofs.Common.{rules}
use Rattle.ip_dissect.proofs.PacketLemmas.{summary_fits, padding_is}
use Rattle.ip_dissect.proofs.packet.Packet.padding.Goals as goal

pub overflow_sub-result : goal.overflow_sub-result
overflow_sub-result c = let fits = summary_fits c.args.self.now.bytes.now _ _ c.args.self.now.base_is c.args.self.now.summary_is in search (rules, fits)

pub returns : goal.returns
returns c = padding_is c.args.self.now.bytes.now _ _ c.args.self.now.base_is c.args.self.now.summary_is
