use Rattle.ip_spec.proofs.Common.{rules, ◌≡◌, ◌+◌, length, refl, sym, ap, ◌∙◌, arith, is_some, bytes_of}
use Rattle.ip_dissect.specs.Dissection.{DissectedParts, dissected}
use Rattle.ip_dissect.specs.declared.summary.Summary.{Summary}
use Rattle.ip_dissect.proofs.PacketLemmas.{summary_fits}
use Rattle.ip_rewrite.specs.Jumbogram.{following_len, stating_offset}
use Rattle.ip_rewrite.proofs.JumbogramLemmas.{stated_no_jumbogram, fragment_no_jumbogram, short_no_jumbogram, long_no_jumbogram, offset_by}
use Rattle.ip_rewrite.proofs.jumbogram.jumbo_offset.Goals as goal
use Rattle.ip_rewrite.proofs.jumbogram.jumbo_offset.Goals.{then-is_some-via-then-is_some, then-is_some-via-else-is_some+then-is_some-2, then-len-le65535-via-then-len-le65535, then-len-le65535-via-else-len-le65535+then-len-ge4294967296}

pub overflow_add-len : goal.overflow_add-len
overflow_add-len c = let fits = summary_fits c.args.packet.now.bytes.now _ _ c.args.packet.now.base_is c.args.packet.now.summary_is in search (rules, fits)

pub returns-then-is_some : goal.returns-then-is_some
returns-then-is_some c =
    let p : DissectedParts = dissected c.args.packet.now.bytes.now in
    let is = c.args.packet.now.summary_is in
    elim c.then-is_some.branch [
      | then-is_some-via-then-is_some w ↦ sym (stated_no_jumbogram p (sym (c.is_some.ensures ∙ ap (λ (o : Summary). is_some o.stated_len) is) ∙ w.if-is_some.true))
      | then-is_some-via-else-is_some+then-is_some-2 w ↦ sym (fragment_no_jumbogram p (sym (w.is_some-else-is_some.ensures ∙ ap (λ (o : Summary). is_some o.fragment) is) ∙ w.if-is_some-2.true))
    ]

pub returns-then-len-le65535 : goal.returns-then-len-le65535
returns-then-len-le65535 c =
    let p : DissectedParts = dissected c.args.packet.now.bytes.now in
    let is = c.args.packet.now.summary_is in
    let exts : c.args.packet.now.summary.extensions_len ≡ length (bytes_of p.headers) = ap (λ (o : Summary). o.extensions_len) is in
    let payload : c.args.packet.now.summary.payload_len ≡ length p.payload = ap (λ (o : Summary). o.payload_len) is in
    elim c.then-len-le65535.branch [
      | then-len-le65535-via-then-len-le65535 w ↦ sym (short_no_jumbogram p (omega (arith, w.if-len-le65535.true, exts, payload)))
      | then-len-le65535-via-else-len-le65535+then-len-ge4294967296 w ↦ sym (long_no_jumbogram p (omega (arith, w.if-len-ge4294967296.true, exts, payload)))
    ]

pub returns : goal.returns
returns c =
    let p : DissectedParts = dissected c.args.packet.now.bytes.now in
    let is = c.args.packet.now.summary_is in
    let exts : c.args.packet.now.summary.extensions_len ≡ length (bytes_of p.headers) = ap (λ (o : Summary). o.extensions_len) is in
    let payload : c.args.packet.now.summary.payload_len ≡ length p.payload = ap (λ (o : Summary). o.payload_len) is in
    let len : c.args.packet.now.summary.extensions_len + c.args.packet.now.summary.payload_len ≡ following_len p = omega (arith, exts, payload) in
    let stated : is_some p.stated ≡ _ = sym (c.is_some.ensures ∙ ap (λ (o : Summary). is_some o.stated_len) is) ∙ c.if-is_some.false in
    let whole : is_some p.fragment ≡ _ = sym (c.is_some-else-is_some.ensures ∙ ap (λ (o : Summary). is_some o.fragment) is) ∙ c.if-is_some-2.false in
    let by = offset_by p stated whole (omega (arith, len, c.if-len-le65535.false)) (omega (arith, len, c.if-len-ge4294967296.false)) in
    c.walk.ensures.visited.1 refl ∙ (ap (λ n. stating_offset n p.headers) len ∙ sym by)
