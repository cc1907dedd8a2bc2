use Rattle.ip_spec.proofs.Common.{◌≡◌, ◌+◌, ◌≤◌, ℕ, length, drop, refl, subst, sym, ◌∙◌, ap, arith, not, List, None, ExtHeader, bytes_of}
use Rattle.ip_dissect.specs.Dissection.{DissectedParts, dissected}
use Rattle.ip_dissect.specs.declared.summary.Summary.{Summary}
use Rattle.ip_rewrite.specs.Rewritten.{rewritten_len, rewritten_parts}
use Rattle.ip_rewrite.specs.Insertion.{inserted, insertion_fault}
use Rattle.ip_rewrite.proofs.DissectLemmas.{written_front}
use Rattle.ip_rewrite.proofs.InsertionLemmas.{inserted_len, index_within, inserted_option, insertion_dissects}
use Rattle.ip_rewrite.proofs.insertion.with_header.Goals as goal

pub write_inserted-requires-clause-index : goal.write_inserted-requires-clause-index
write_inserted-requires-clause-index c =
    let h : ExtHeader = record { number = c.args.number.0; bytes = c.args.header.now } in
    let p : DissectedParts = dissected c.walk-packet.result.bytes.now in
    subst (λ (i : ℕ). i ≤ length p.headers) c.walk-packet.ensures.visited.0 (index_within c.args.authentication c.walk-packet.new.visitor.index h p (length c.args.out.now) (sym (c.in-Ok.ensures.fault h refl)))

pub write_inserted-requires-clause-option : goal.write_inserted-requires-clause-option
write_inserted-requires-clause-option c = λ h is.
    let p : DissectedParts = dissected c.walk-packet.result.bytes.now in
    let none : insertion_fault c.args.authentication c.args.index h p (length c.args.out.now) ≡ None =
    subst (λ (j : ℕ). insertion_fault c.args.authentication j h p (length c.args.out.now) ≡ None) c.walk-packet.ensures.visited.0 (sym (c.in-Ok.ensures.fault h is)) in
    inserted_option c.args.authentication c.args.index h p (length c.args.out.now) none

pub returns-in-Ok-clause-checksums : goal.returns-in-Ok-clause-checksums
returns-in-Ok-clause-checksums c = ap not (c.has_segments-keeps_checksums.ensures (record { number = c.args.number.0; bytes = c.args.header.now }) refl)

pub returns-in-Ok-clause-dissects : goal.returns-in-Ok-clause-dissects
returns-in-Ok-clause-dissects c =
    let h : ExtHeader = record { number = c.args.number.0; bytes = c.args.header.now } in
    let packet = c.walk-packet.result in
    let s : List ℕ = packet.bytes.now in
    let p : DissectedParts = dissected s in
    let i : ℕ = c.args.index in
    let base : packet.summary.base_len ≡ length p.base = ap (λ (o : Summary). o.base_len) packet.summary_is in
    let exts : packet.summary.extensions_len ≡ length (bytes_of p.headers) = ap (λ (o : Summary). o.extensions_len) packet.summary_is in
    let payload : packet.summary.payload_len ≡ length p.payload = ap (λ (o : Summary). o.payload_len) packet.summary_is in
    let size : packet.summary.base_len + (packet.summary.extensions_len + length c.args.header.now) + packet.summary.payload_len ≡ rewritten_len p (inserted i h p.headers) p.payload = omega (arith, base, exts, payload, inserted_len i p.headers h) in
    let none : insertion_fault c.args.authentication i h p (length c.args.out.now) ≡ None = subst (λ (j : ℕ). insertion_fault c.args.authentication j h p (length c.args.out.now) ≡ None) c.walk-packet.ensures.visited.0 (sym (c.in-Ok.ensures.fault h refl)) in
    let front = written_front p (inserted i h p.headers) p.number p.payload (drop (rewritten_len p (inserted i h p.headers) p.payload) c.args.out.now) c.write_inserted.new.out
    (packet.summary.base_len + (packet.summary.extensions_len + length c.args.header.now) + packet.summary.payload_len) (inserted_option c.args.authentication i h p (length c.args.out.now) none) (c.write_inserted.ensures h refl) size in
    ap dissected front ∙ (insertion_dissects c.args.authentication i h (length c.args.out.now) s packet.base packet.base_is none
    ∙ ap (λ (x : List ℕ). let r : DissectedParts = dissected x in rewritten_parts r (inserted i h r.headers) r.number r.payload) c.walk-packet.ensures.bytes)
