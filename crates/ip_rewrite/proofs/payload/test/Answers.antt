use Rattle.ip_spec.proofs.Common.{◌≡◌, false, sym, ◌∙◌, ap, arith}
use Rattle.ip_dissect.specs.Dissection.{dissected}
use Rattle.ip_dissect.specs.End.{has_error}
use Rattle.ip_dissect.specs.declared.summary.Summary.{Summary}
use Rattle.ip_dissect.proofs.PacketLemmas.{summary_fits}
use Rattle.ip_rewrite.proofs.BaseLemmas.{base_there}
use Rattle.ip_rewrite.proofs.ResultLemmas.{on_ok}
use Rattle.ip_rewrite.proofs.payload.test.Goals as goal

pub test_room-requires-clause-new : goal.test_room-requires-clause-new
test_room-requires-clause-new c =
    let all = summary_fits c.args.packet.now.bytes.now c.args.packet.now.base c.args.packet.now.summary c.args.packet.now.base_is c.args.packet.now.summary_is in
    omega (arith, all, c.requires.small, c.requires.new)

pub test_room-requires-clause-old : goal.test_room-requires-clause-old
test_room-requires-clause-old c =
    let all = summary_fits c.args.packet.now.bytes.now c.args.packet.now.base c.args.packet.now.summary c.args.packet.now.base_is c.args.packet.now.summary_is in
    omega (arith, all, c.requires.small)

pub returns-clause-base : goal.returns-clause-base
returns-clause-base c =
    let none : has_error (dissected c.args.packet.now.bytes.now).end ≡ false = sym (ap (λ (o : Summary). o.has_error) c.args.packet.now.summary_is) ∙ c.in_ok-test_packet.ensures.whole in
    on_ok c.test_room.result (base_there c.args.packet.now.bytes.now c.args.packet.now.base c.args.packet.now.base_is none)
