use Rattle.ip_spec.proofs.Common.{◌≡◌, ◌+◌, length, false, sym, ◌∙◌, ap, arith, List, None, ExtHeader, bytes_of}
use Rattle.ip_dissect.specs.Dissection.{DissectedParts, dissected}
use Rattle.ip_dissect.specs.End.{has_error}
use Rattle.ip_dissect.specs.declared.summary.Summary.{Summary}
use Rattle.ip_dissect.proofs.PacketLemmas.{summary_fits}
use Rattle.ip_dissect.specs.Fragment.{is_fragment_header}
use Rattle.ip_rewrite.specs.Rewritten.{rewritten_field, jumbo_fault, room_fault}
use Rattle.ip_rewrite.specs.Without.{packet_fault}
use Rattle.ip_rewrite.specs.Insertion.{inserted, header_fault}
use Rattle.ip_rewrite.proofs.BaseLemmas.{base_there}
use Rattle.ip_rewrite.proofs.ResultLemmas.{weaker, on_ok, all_none}
use Rattle.ip_rewrite.proofs.InsertionLemmas.{inserted_len}
use Rattle.ip_rewrite.proofs.insertion.test.Goals as goal

pub overflow_add-exts_len : goal.overflow_add-exts_len
overflow_add-exts_len c =
    let all = summary_fits c.args.packet.now.bytes.now c.args.packet.now.base c.args.packet.now.summary c.args.packet.now.base_is c.args.packet.now.summary_is in
    omega (arith, all, c.requires.small, c.requires.new)

pub test_room-requires-clause-new : goal.test_room-requires-clause-new
test_room-requires-clause-new c =
    let all = summary_fits c.args.packet.now.bytes.now c.args.packet.now.base c.args.packet.now.summary c.args.packet.now.base_is c.args.packet.now.summary_is in
    omega (arith, all, c.requires.small, c.requires.new)

pub test_room-requires-clause-old : goal.test_room-requires-clause-old
test_room-requires-clause-old c =
    let all = summary_fits c.args.packet.now.bytes.now c.args.packet.now.base c.args.packet.now.summary c.args.packet.now.base_is c.args.packet.now.summary_is in
    omega (arith, all, c.requires.small)

pub returns-clause-fault : goal.returns-clause-fault
returns-clause-fault c = λ h is.
    let p : DissectedParts = dissected c.args.packet.now.bytes.now in
    let d : List ExtHeader = inserted c.args.around.now.index h p.headers in
    let packet : packet_fault p ≡ None = sym (c.in_ok-test_packet.ensures.fault p c.args.packet.now.summary_is) in
    let new : header_fault c.args.authentication c.args.around.now.index h p ≡ None = sym (c.in_ok-test_header.ensures.fault p h c.args.packet.now.summary_is is c.requires.options c.requires.fragmented c.requires.authentication) in
    let jumbo : jumbo_fault (is_fragment_header h) p ≡ None =
    ap (λ (g : ExtHeader). jumbo_fault (is_fragment_header g) p) is ∙ (ap (λ b. jumbo_fault b p) (sym c.eq.ensures) ∙ sym c.in_ok-test_jumbogram.ensures) in
    let size : c.args.packet.now.summary.extensions_len + length c.args.header.now ≡ length (bytes_of d) = omega (arith, ap (λ (o : Summary). o.extensions_len) c.args.packet.now.summary_is, inserted_len c.args.around.now.index p.headers h, ap (λ (g : ExtHeader). length g.bytes) is) in
    let payload : c.args.packet.now.summary.payload_len ≡ length p.payload = ap (λ (o : Summary). o.payload_len) c.args.packet.now.summary_is in
    c.test_room.ensures.fault d p.payload size payload ∙ sym (all_none (packet_fault p) (header_fault c.args.authentication c.args.around.now.index h p) (jumbo_fault (is_fragment_header h) p) (room_fault p d p.payload c.args.room) packet new jumbo)

pub returns-clause-field : goal.returns-clause-field
returns-clause-field c =
    let p : DissectedParts = dissected c.args.packet.now.bytes.now in
    let payload : c.args.packet.now.summary.payload_len ≡ length p.payload = ap (λ (o : Summary). o.payload_len) c.args.packet.now.summary_is in
    weaker _ (λ n. (h : ExtHeader) → h ≡ record { number = c.args.number.0; bytes = c.args.header.now } → n ≡ rewritten_field p (inserted c.args.around.now.index h p.headers) p.payload) c.test_room.result (λ n f h is.
    let size : c.args.packet.now.summary.extensions_len + length c.args.header.now ≡ length (bytes_of (inserted c.args.around.now.index h p.headers)) = omega (arith, ap (λ (o : Summary). o.extensions_len) c.args.packet.now.summary_is, inserted_len c.args.around.now.index p.headers h, ap (λ (g : ExtHeader). length g.bytes) is) in
    f (inserted c.args.around.now.index h p.headers) p.payload size payload) c.test_room.ensures.field

pub returns-clause-base : goal.returns-clause-base
returns-clause-base c =
    let none : has_error (dissected c.args.packet.now.bytes.now).end ≡ false = sym (ap (λ (o : Summary). o.has_error) c.args.packet.now.summary_is) ∙ c.in_ok-test_packet.ensures.whole in
    on_ok c.test_room.result (base_there c.args.packet.now.bytes.now c.args.packet.now.base c.args.packet.now.base_is none)
