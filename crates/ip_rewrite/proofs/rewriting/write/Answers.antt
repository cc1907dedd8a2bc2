use Rattle.ip_spec.proofs.Common.{◌≡◌, ◌+◌, ◌≤◌, ℕ, [], ◌++◌, drop, length, subst, sym, ◌∙◌, ap, arith, List, ExtHeader, bytes_of}
use Rattle.ip_dissect.specs.Dissection.{DissectedParts, dissected}
use Rattle.ip_dissect.specs.declared.summary.Summary.{Summary}
use Rattle.ip_rewrite.specs.Base.{number_offset}
use Rattle.ip_rewrite.specs.Rewritten.{rewritten, rewritten_len, rewritten_field}
use Rattle.ip_rewrite.specs.Selection.{kept}
use Rattle.ip_rewrite.specs.Request.{changed_headers}
use Rattle.ip_rewrite.specs.Writing.{AreWritten}
use Rattle.ip_rewrite.specs.declared.request.Request.{Request}
use Rattle.ip_rewrite.specs.declared.selection.Selection.{Selection}
use Rattle.ip_rewrite.proofs.FrontLemmas.{out_len}
use Rattle.ip_rewrite.proofs.RequestLemmas.{changed_len}
use Rattle.ip_rewrite.proofs.rewriting.write.Goals as goal

pub returns : goal.returns
returns c =
    let p : DissectedParts = dissected c.args.packet.now.bytes.now in
    let r : Request = c.args.request in
    let d : List ExtHeader = changed_headers r p.headers in
    let o : Summary = c.args.packet.now.summary in
    let b : List ℕ = p.base in
    let l : ℕ = number_offset p.version in
    let buffer : List ℕ = c.args.out.now in
    let k : ℕ = length b + length (bytes_of (kept r.without p.headers)) in
    let n : ℕ = c.args.plan.now.selection.kept_len in
    let z : List ℕ = c.write_changed-link.new.out in
    let link : ℕ = c.write_changed-link.result in
    let version : o.version ≡ p.version = ap (λ (x : Summary). x.version) c.args.packet.now.summary_is in
    let size : o.base_len ≡ length b = ap (λ (x : Summary). x.base_len) c.args.packet.now.summary_is in
    let number : o.next_header.0 ≡ p.number = ap (λ (x : Summary). x.next_header.0) c.args.packet.now.summary_is in
    let offset : c.number_offset-offset.result ≡ l = c.number_offset-offset.ensures ∙ ap number_offset version in
    let keeps : n ≡ 0 + length (bytes_of (kept r.without p.headers)) = ap (λ (v : Selection). v.kept_len) c.requires.plan.selection in
    let exts : n ≡ length (bytes_of d) = omega (arith, keeps, changed_len r p.headers) in
    let here : AreWritten l b buffer d z k link = subst (λ (i : ℕ). AreWritten i b buffer d z k link) offset c.write_changed-link.ensures in
    let at : k ≡ o.base_len + n = omega (arith, size, keeps) in
    let begun : AreWritten l b buffer d z (o.base_len + n) link = subst (λ (i : ℕ). AreWritten l b buffer d z i link) at here in
    let none : ExtHeader = record { number = 0; bytes = [] } in
    let fits : length b + length (bytes_of d) + length p.payload ≤ length buffer = c.requires.fits in
    let same = out_len l b buffer d none z k link here (omega (arith, fits)) in
    let payload : c.payload-payload.result.now ≡ p.payload = c.payload-payload.ensures in
    let field : c.args.field ≡ rewritten_field p d c.payload-payload.result.now = c.requires.field ∙ ap (rewritten_field p d) (sym payload) in
    c.finish.ensures d buffer c.requires.option exts field begun (sym same)
    ∙ (ap (λ (i : ℕ). rewritten p d i c.payload-payload.result.now ++ drop (rewritten_len p d c.payload-payload.result.now) buffer) number
    ∙ ap (λ (q : List ℕ). rewritten p d p.number q ++ drop (rewritten_len p d q) buffer) payload)
