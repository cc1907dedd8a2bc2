use Rattle.ip_spec.proofs.Common.{rules}
use Rattle.ip_dissect.proofs.PacketLemmas.{summary_fits, payload_is}
use Rattle.ip_dissect.proofs.packet.Packet.payload.Goals as goal

pub overflow_add-start : goal.overflow_add-start
overflow_add-start c = let fits = summary_fits c.args.self.now.bytes.now _ _ c.args.self.now.base_is c.args.self.now.summary_is in search (rules, fits)

pub overflow_add-result : goal.overflow_add-result
overflow_add-result c = let fits = summary_fits c.args.self.now.bytes.now _ _ c.args.self.now.base_is c.args.self.now.summary_is in search (rules, fits)

pub slice_bounds-result-end : goal.slice_bounds-result-end
slice_bounds-result-end c = let fits = summary_fits c.args.self.now.bytes.now _ _ c.args.self.now.base_is c.args.self.now.summary_is in search (rules, fits)

pub returns : goal.returns
returns c = payload_is c.args.self.now.bytes.now _ _ c.args.self.now.base_is c.args.self.now.summary_is
