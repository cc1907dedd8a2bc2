use Rattle.ip_spec.proofs.Common.{◌≡◌, ◌+◌, ◌≤◌, ◌<◌, ℕ, [], length, sym, ap, arith, List, ExtHeader, bytes_of}
use Rattle.ip_dissect.specs.Dissection.{DissectedParts, dissected}
use Rattle.ip_dissect.specs.declared.summary.Summary.{Summary}
use Rattle.ip_rewrite.specs.Base.{number_offset}
use Rattle.ip_rewrite.specs.Writing.{AreWritten, link_of}
use Rattle.ip_rewrite.proofs.BaseLemmas.{offset_within}
use Rattle.ip_rewrite.proofs.DissectLemmas.{IsWholeChain, whole_chain}
use Rattle.ip_rewrite.proofs.JumbogramLemmas.{has_option}
use Rattle.ip_rewrite.proofs.FrontLemmas.{out_len, written_whole}
use Rattle.ip_rewrite.proofs.payload.write_payload.Goals as goal

pub returns : goal.returns
returns c =
    let s : List ℕ = c.args.packet.now.bytes.now in
    let p : DissectedParts = dissected s in
    let o : Summary = c.args.packet.now.summary in
    let b : List ℕ = p.base in
    let d : List ExtHeader = p.headers in
    let l : ℕ = number_offset p.version in
    let z : List ℕ = c.copy_headers.new.out in
    let link : ℕ = c.link_after-link.result in
    let size : o.base_len ≡ length b = ap (λ (x : Summary). x.base_len) c.args.packet.now.summary_is in
    let exts : o.extensions_len ≡ length (bytes_of d) = ap (λ (x : Summary). x.extensions_len) c.args.packet.now.summary_is in
    let chain : IsWholeChain p = whole_chain s c.args.packet.now.base c.args.packet.now.base_is c.requires.whole in
    let at : link ≡ link_of l b d = c.link_after-link.ensures p c.args.packet.now.summary_is c.requires.last in
    let less : l < length b = offset_within p c.requires.base in
    let w : AreWritten l b c.args.out.now d z (o.base_len + o.extensions_len) link = written_whole l b c.args.out.now d z (o.base_len + o.extensions_len) link less chain.chain c.copy_headers.ensures (omega (arith, size, exts)) at in
    let none : ExtHeader = record { number = 0; bytes = [] } in
    let fits : length b + length (bytes_of d) + length c.args.payload.now ≤ length c.args.out.now = c.requires.fits in
    let same = out_len l b c.args.out.now d none z (o.base_len + o.extensions_len) link w (omega (arith, fits)) in
    c.finish.ensures d c.args.out.now (has_option p) exts c.requires.field w (sym same)
