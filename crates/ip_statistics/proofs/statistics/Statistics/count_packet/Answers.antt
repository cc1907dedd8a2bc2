use Rattle.std.proofs.Common.{ap, ◌∙◌}
use Rattle.ip_dissect.specs.Dissection.{dissected}
use Rattle.ip_statistics.specs.Packet.{counts_of}
use Rattle.ip_statistics.specs.Statistics.{merged}
use Rattle.ip_statistics.proofs.MergeLemmas.{merged_comm}
use Rattle.ip_statistics.proofs.statistics.Statistics.count_packet.Goals as goal

pub returns-clause-packets : goal.returns-clause-packets
returns-clause-packets c = λ xs e. c.walk_through.ensures c.count_none.ensures ∙ ap (λ a. merged a (counts_of (dissected c.args.bytes.now))) e ∙ merged_comm _ _
