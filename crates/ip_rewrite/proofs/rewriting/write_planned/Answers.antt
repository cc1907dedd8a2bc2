use Rattle.ip_spec.proofs.Common.{◌≡◌, ◌+◌, ℕ, ◌++◌, length, drop, sym, ◌∙◌, ap, arith, List, None, bytes_of}
use Rattle.ip_dissect.specs.Dissection.{DissectedParts, dissected}
use Rattle.ip_dissect.specs.Summary.{summary_of}
use Rattle.ip_dissect.specs.declared.summary.Summary.{Summary}
use Rattle.ip_rewrite.specs.Selection.{kept}
use Rattle.ip_rewrite.specs.Request.{changed_headers, change_fault, requested, requested_len}
use Rattle.ip_rewrite.specs.declared.plan.Plan.{Plan}
use Rattle.ip_rewrite.specs.declared.request.Request.{Request}
use Rattle.ip_rewrite.specs.declared.selection.Selection.{Selection}
use Rattle.ip_rewrite.specs.Planning.{IsPlan}
use Rattle.ip_rewrite.proofs.DissectLemmas.{written_front}
use Rattle.ip_rewrite.proofs.RequestLemmas.{changed_len}
use Rattle.ip_rewrite.proofs.RequestedLemmas.{request_option, request_dissects}
use Rattle.ip_rewrite.proofs.rewriting.write_planned.Goals as goal

len_is : (r : Request) (p : DissectedParts) (o : Summary) (v : Plan) → o ≡ summary_of p → IsPlan r p.headers v → o.base_len + v.selection.kept_len + o.payload_len ≡ requested_len r p
len_is r p o v is plan =
    let keeps : v.selection.kept_len ≡ 0 + length (bytes_of (kept r.without p.headers)) = ap (λ (x : Selection). x.kept_len) plan.selection in
    omega (arith, ap (λ (x : Summary). x.base_len) is, ap (λ (x : Summary). x.payload_len) is, keeps, changed_len r p.headers)

pub write-requires-clause-option : goal.write-requires-clause-option
write-requires-clause-option c = request_option c.args.request (dissected c.args.packet.now.bytes.now) (length c.args.out.now) (sym c.in_ok-field.ensures.fault)

pub returns-clause-len : goal.returns-clause-len
returns-clause-len c = len_is c.args.request (dissected c.args.packet.now.bytes.now) c.args.packet.now.summary c.args.plan.now c.args.packet.now.summary_is c.requires.plan

pub returns-clause-written : goal.returns-clause-written
returns-clause-written c =
    let p : DissectedParts = dissected c.args.packet.now.bytes.now in
    c.write.ensures ∙ ap (λ (n : ℕ). requested c.args.request p ++ drop n c.args.out.now) (sym (len_is c.args.request p c.args.packet.now.summary c.args.plan.now c.args.packet.now.summary_is c.requires.plan))

pub returns-clause-dissects : goal.returns-clause-dissects
returns-clause-dissects c =
    let packet = c.args.packet.now in
    let s : List ℕ = packet.bytes.now in
    let p : DissectedParts = dissected s in
    let r : Request = c.args.request in
    let n : ℕ = packet.summary.base_len + c.args.plan.now.selection.kept_len + packet.summary.payload_len in
    let none : change_fault r p (length c.args.out.now) ≡ None = sym c.in_ok-field.ensures.fault in
    let front = written_front p (changed_headers r p.headers) p.number p.payload (drop (requested_len r p) c.args.out.now) c.write.new.out n (request_option r p (length c.args.out.now) none) c.write.ensures (len_is r p packet.summary c.args.plan.now packet.summary_is c.requires.plan) in
    ap dissected front ∙ request_dissects r (length c.args.out.now) s packet.base packet.base_is none
