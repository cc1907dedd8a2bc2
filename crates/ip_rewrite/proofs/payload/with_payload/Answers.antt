use Rattle.ip_spec.proofs.Common.{◌≡◌, ◌+◌, ℕ, length, drop, sym, ◌∙◌, ap, arith, List, None, bytes_of}
use Rattle.ip_dissect.specs.Dissection.{DissectedParts, dissected}
use Rattle.ip_dissect.specs.Summary.{summary_of}
use Rattle.ip_dissect.specs.declared.summary.Summary.{Summary}
use Rattle.ip_rewrite.specs.Rewritten.{rewritten_len, rewritten_parts}
use Rattle.ip_rewrite.specs.Payload.{payload_fault}
use Rattle.ip_rewrite.proofs.JumbogramLemmas.{has_option}
use Rattle.ip_rewrite.proofs.DissectLemmas.{written_front}
use Rattle.ip_rewrite.proofs.PayloadLemmas.{payload_dissects}
use Rattle.ip_rewrite.proofs.payload.with_payload.Goals as goal

pub returns-in-Ok-clause-dissects : goal.returns-in-Ok-clause-dissects
returns-in-Ok-clause-dissects c =
    let packet = c.walk-packet.result in
    let s : List ℕ = packet.bytes.now in
    let p : DissectedParts = dissected s in
    let m : ℕ = c.args.number.0 in
    let q : List ℕ = c.args.payload.now in
    let same : s ≡ c.args.packet.now = c.walk-packet.ensures.bytes in
    let is : packet.summary ≡ summary_of p = packet.summary_is in
    let base : packet.summary.base_len ≡ length p.base = ap (λ (o : Summary). o.base_len) is in
    let exts : packet.summary.extensions_len ≡ length (bytes_of p.headers) = ap (λ (o : Summary). o.extensions_len) is in
    let none : payload_fault c.args.authentication m q p (length c.args.out.now) ≡ None = sym c.in-Ok.ensures.fault in
    let front = written_front p p.headers m q (drop (rewritten_len p p.headers q) c.args.out.now) c.write_payload.new.out
    (packet.summary.base_len + packet.summary.extensions_len + length q) (has_option p) c.write_payload.ensures (omega (arith, base, exts)) in
    ap dissected front ∙ (payload_dissects c.args.authentication m q (length c.args.out.now) s packet.base packet.base_is none ∙ ap (λ (x : List ℕ). rewritten_parts (dissected x) (dissected x).headers m q) same)
