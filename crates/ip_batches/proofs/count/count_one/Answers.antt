use Rattle.std.proofs.Common.{◌∙◌, ap}
use Rattle.ip_dissect.specs.Dissection.{dissected}
use Rattle.ip_statistics.specs.Packet.{counts_of}
use Rattle.ip_statistics.specs.Statistics.{merged}
use Rattle.ip_batches.specs.Plain.{with_plain}
use Rattle.ip_batches.proofs.PlainLemmas.{other_counted}
use Rattle.ip_batches.proofs.count.count_one.Goals as goal

pub returns-in-Some : goal.returns-in-Some
returns-in-Some g c = c.count_plain.ensures
    ∙ ap (λ a. merged (with_plain c.args.plain.now a) (counts_of (dissected c.in-Some.packet.bytes.now))) (c.in-Some.ensures).plain.1
    ∙ ap (λ s. merged (with_plain c.args.plain.now c.args.statistics.now) (counts_of (dissected s))) (c.in-Some.ensures).plain.0

pub returns-in_default : goal.returns-in_default
returns-in_default g c = ap (with_plain c.args.plain.now) (c.in_default.ensures).other ∙ other_counted c.args.statistics.now _ c.args.plain.now
