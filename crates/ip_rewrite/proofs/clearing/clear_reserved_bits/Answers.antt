use Rattle.ip_spec.proofs.Common.{◌≡◌, ℕ, ◌++◌, length, drop, take, ◌∙◌, ap, true, cleared_chain}
use Rattle.ip_dissect.specs.Dissection.{DissectedParts, dissected}
use Rattle.ip_rewrite.specs.Rewritten.{rewritten, rewritten_len, rewritten_parts}
use Rattle.ip_rewrite.specs.Without.{keeps_checksums}
use Rattle.ip_rewrite.specs.Request.{changed_headers, change_fault}
use Rattle.ip_rewrite.specs.declared.request.Request.{Request}
use Rattle.ip_rewrite.specs.declared.removal.Rewritten.{Rewritten}
use Rattle.ip_rewrite.proofs.ResultLemmas.{weaker}
use Rattle.ip_rewrite.proofs.SingleLemmas.{keeps_all, only_cleared, clearing_is}
use Rattle.ip_rewrite.proofs.clearing.clear_reserved_bits.Goals as goal

pub returns-clause-fault : goal.returns-clause-fault
returns-clause-fault c =
    let p : DissectedParts = dissected c.args.packet.now in
    let n : ℕ = length c.args.out.now in
    c.write_requested.ensures.fault ∙ (ap (λ (r : Request). change_fault r p n) c.clearing.ensures ∙ clearing_is c.args.authentication p n)

pub returns-clause-len : goal.returns-clause-len
returns-clause-len c =
    let p : DissectedParts = dissected c.args.packet.now in
    let same : changed_headers c.clearing.result p.headers ≡ cleared_chain p.headers = ap (λ (r : Request). changed_headers r p.headers) c.clearing.ensures ∙ only_cleared c.args.authentication p.headers in
    weaker _ (λ (r : Rewritten). r.len ≡ rewritten_len p (cleared_chain p.headers) p.payload) c.write_requested.result (λ r is. is ∙ ap (λ d. rewritten_len p d p.payload) same) c.write_requested.ensures.len

pub returns-clause-checksums : goal.returns-clause-checksums
returns-clause-checksums c =
    let p : DissectedParts = dissected c.args.packet.now in
    weaker _ (λ (r : Rewritten). r.keeps_checksums ≡ true) c.write_requested.result (λ r is. is ∙ (ap (λ (r : Request). keeps_checksums r.without p) c.clearing.ensures ∙ keeps_all p)) c.write_requested.ensures.checksums

pub returns-clause-written : goal.returns-clause-written
returns-clause-written c =
    let p : DissectedParts = dissected c.args.packet.now in
    let same : changed_headers c.clearing.result p.headers ≡ cleared_chain p.headers = ap (λ (r : Request). changed_headers r p.headers) c.clearing.ensures ∙ only_cleared c.args.authentication p.headers in
    weaker _ (λ (r : Rewritten). c.write_requested.new.out ≡ rewritten p (cleared_chain p.headers) p.number p.payload ++ drop r.len c.args.out.now) c.write_requested.result
    (λ r is. is ∙ ap (λ d. rewritten p d p.number p.payload ++ drop r.len c.args.out.now) same) c.write_requested.ensures.written

pub returns-clause-dissects : goal.returns-clause-dissects
returns-clause-dissects c =
    let p : DissectedParts = dissected c.args.packet.now in
    let same : changed_headers c.clearing.result p.headers ≡ cleared_chain p.headers = ap (λ (r : Request). changed_headers r p.headers) c.clearing.ensures ∙ only_cleared c.args.authentication p.headers in
    weaker _ (λ (r : Rewritten). dissected (take r.len c.write_requested.new.out) ≡ rewritten_parts p (cleared_chain p.headers) p.number p.payload) c.write_requested.result
    (λ r is. is ∙ ap (λ d. rewritten_parts p d p.number p.payload) same) c.write_requested.ensures.dissects
