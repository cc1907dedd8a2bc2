use Rattle.ip_spec.proofs.Common.{◌+◌, rules, ap, arith}
use Rattle.ip_dissect.specs.declared.summary.Summary.{Summary}
use Rattle.ip_dissect.proofs.PacketLemmas.{summary_fits}
use Rattle.ip_defragmenter.proofs.fragment.end_of.Goals as goal

pub overflow_add-result : goal.overflow_add-result
overflow_add-result c = let fits = summary_fits c.args.packet.now.bytes.now _ _ c.args.packet.now.base_is c.args.packet.now.summary_is in search (rules, fits)

pub overflow_add-result-2 : goal.overflow_add-result-2
overflow_add-result-2 c = let fits = summary_fits c.args.packet.now.bytes.now _ _ c.args.packet.now.base_is c.args.packet.now.summary_is in search (rules, fits)

pub returns-clause-is : goal.returns-clause-is
returns-clause-is c = ap (λ (o : Summary). o.base_len + o.extensions_len + o.payload_len) c.args.packet.now.summary_is

pub returns-clause-within : goal.returns-clause-within
returns-clause-within c = omega (arith, summary_fits c.args.packet.now.bytes.now _ _ c.args.packet.now.base_is c.args.packet.now.summary_is)
