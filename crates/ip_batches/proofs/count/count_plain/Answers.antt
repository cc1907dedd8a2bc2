use Rattle.std.proofs.Common.{◌≡◌, ◌∙◌, ap, length, rules}
use Rattle.ip_dissect.specs.Dissection.{dissected}
use Rattle.ip_statistics.specs.Packet.{counts_of}
use Rattle.ip_batches.specs.Plain.{with_plain}
use Rattle.ip_batches.proofs.PlainLemmas.{plain_counted, other_counted}
use Rattle.ip_batches.proofs.count.count_plain.Goals as goal

pub returns-then-is_plain : goal.returns-then-is_plain
returns-then-is_plain c =
    let len : length c.args.statistics.now.payload_numbers ≡ 256 = search rules in
    plain_counted c.args.statistics.now c.args.plain.now _ (dissected c.args.packet.now.bytes.now) _ _ _ c.add_nothing.ensures (c.is_plain.ensures c.if-is_plain.true) c.add_no_headers.ensures.none
    (c.add.ensures (dissected c.args.packet.now.bytes.now) c.args.packet.now.summary_is) len (c.from-number.ensures ∙ ap (λ o. o.next_header.0) c.args.packet.now.summary_is) c.count_at.ensures

pub returns-else-is_plain : goal.returns-else-is_plain
returns-else-is_plain c = ap (with_plain c.args.plain.now) c.count_packet.ensures.counts ∙ other_counted c.args.statistics.now (counts_of (dissected c.args.packet.now.bytes.now)) c.args.plain.now
