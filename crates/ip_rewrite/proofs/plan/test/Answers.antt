use Rattle.ip_spec.proofs.Common.{◌≡◌, ◌+◌, ◌≤◌, length, false, None, sym, ◌∙◌, ap, arith, List, ExtHeader, bytes_of}
use Rattle.ip_dissect.specs.Dissection.{DissectedParts, dissected}
use Rattle.ip_dissect.specs.End.{has_error}
use Rattle.ip_dissect.specs.declared.summary.Summary.{Summary}
use Rattle.ip_dissect.proofs.PacketLemmas.{summary_fits}
use Rattle.ip_rewrite.specs.Rewritten.{rewritten_field, rewritten_len, room_fault}
use Rattle.ip_rewrite.specs.Selection.{kept}
use Rattle.ip_rewrite.specs.Without.{packet_fault}
use Rattle.ip_rewrite.specs.Request.{changed_headers, leaving_fault, clearing_step_fault, ordering_step_fault}
use Rattle.ip_rewrite.specs.declared.request.Request.{Request}
use Rattle.ip_rewrite.specs.declared.selection.Selection.{Selection}
use Rattle.ip_rewrite.proofs.BaseLemmas.{base_there}
use Rattle.ip_rewrite.proofs.ResultLemmas.{weaker, on_ok, four_none}
use Rattle.ip_rewrite.proofs.RequestLemmas.{changed_len}
use Rattle.ip_rewrite.proofs.SelectionLemmas.{kept_less}
use Rattle.ip_rewrite.proofs.plan.test.Goals as goal

pub test_room-requires-clause-new : goal.test_room-requires-clause-new
test_room-requires-clause-new c =
    let p : DissectedParts = dissected c.args.packet.now.bytes.now in
    let all = summary_fits c.args.packet.now.bytes.now c.args.packet.now.base c.args.packet.now.summary c.args.packet.now.base_is c.args.packet.now.summary_is in
    let exts : c.args.packet.now.summary.extensions_len ≡ length (bytes_of p.headers) = ap (λ (o : Summary). o.extensions_len) c.args.packet.now.summary_is in
    let keeps : c.args.plan.now.selection.kept_len ≡ 0 + length (bytes_of (kept c.args.request.without p.headers)) = ap (λ (v : Selection). v.kept_len) c.requires.plan.selection in
    omega (arith, all, exts, keeps, kept_less c.args.request.without 0 p.headers, c.requires.small)

pub test_room-requires-clause-old : goal.test_room-requires-clause-old
test_room-requires-clause-old c =
    let all = summary_fits c.args.packet.now.bytes.now c.args.packet.now.base c.args.packet.now.summary c.args.packet.now.base_is c.args.packet.now.summary_is in
    omega (arith, all, c.requires.small)

pub returns-clause-fault : goal.returns-clause-fault
returns-clause-fault c =
    let p : DissectedParts = dissected c.args.packet.now.bytes.now in
    let r : Request = c.args.request in
    let d : List ExtHeader = changed_headers r p.headers in
    let packet : packet_fault p ≡ None = sym (c.in_ok-test_packet.ensures.fault p c.args.packet.now.summary_is) in
    let keeps : c.args.plan.now.selection.kept_len ≡ 0 + length (bytes_of (kept r.without p.headers)) = ap (λ (v : Selection). v.kept_len) c.requires.plan.selection in
    let size : c.args.plan.now.selection.kept_len ≡ length (bytes_of d) = omega (arith, keeps, changed_len r p.headers) in
    let payload : c.args.packet.now.summary.payload_len ≡ length p.payload = ap (λ (o : Summary). o.payload_len) c.args.packet.now.summary_is in
    c.test_room.ensures.fault d p.payload size payload
    ∙ sym (four_none (packet_fault p) (leaving_fault r p) (clearing_step_fault r p) (ordering_step_fault r p) (room_fault p d p.payload c.args.room) packet (sym c.in_ok-test_leaving.ensures) (sym c.in_ok-test_clearing.ensures) (sym c.in_ok-test_ordering.ensures))

pub returns-clause-field : goal.returns-clause-field
returns-clause-field c =
    let p : DissectedParts = dissected c.args.packet.now.bytes.now in
    let r : Request = c.args.request in
    let d : List ExtHeader = changed_headers r p.headers in
    let keeps : c.args.plan.now.selection.kept_len ≡ 0 + length (bytes_of (kept r.without p.headers)) = ap (λ (v : Selection). v.kept_len) c.requires.plan.selection in
    let size : c.args.plan.now.selection.kept_len ≡ length (bytes_of d) = omega (arith, keeps, changed_len r p.headers) in
    let payload : c.args.packet.now.summary.payload_len ≡ length p.payload = ap (λ (o : Summary). o.payload_len) c.args.packet.now.summary_is in
    weaker _ (λ n. n ≡ rewritten_field p d p.payload) c.test_room.result (λ n f. f d p.payload size payload) c.test_room.ensures.field

pub returns-clause-fits : goal.returns-clause-fits
returns-clause-fits c =
    let p : DissectedParts = dissected c.args.packet.now.bytes.now in
    let r : Request = c.args.request in
    let d : List ExtHeader = changed_headers r p.headers in
    let base : c.args.packet.now.summary.base_len ≡ length p.base = ap (λ (o : Summary). o.base_len) c.args.packet.now.summary_is in
    let keeps : c.args.plan.now.selection.kept_len ≡ 0 + length (bytes_of (kept r.without p.headers)) = ap (λ (v : Selection). v.kept_len) c.requires.plan.selection in
    let payload : c.args.packet.now.summary.payload_len ≡ length p.payload = ap (λ (o : Summary). o.payload_len) c.args.packet.now.summary_is in
    weaker _ (λ n. rewritten_len p d p.payload ≤ c.args.room) c.test_room.result (λ n f. omega (arith, f, base, keeps, changed_len r p.headers, payload)) c.test_room.ensures.fits

pub returns-clause-base : goal.returns-clause-base
returns-clause-base c =
    let none : has_error (dissected c.args.packet.now.bytes.now).end ≡ false = sym (ap (λ (o : Summary). o.has_error) c.args.packet.now.summary_is) ∙ c.in_ok-test_packet.ensures.whole in
    on_ok c.test_room.result (base_there c.args.packet.now.bytes.now c.args.packet.now.base c.args.packet.now.base_is none)
