use Rattle.ip_spec.proofs.Common.{rules, ◌≡◌, ◌+◌, ◌≤◌, ◌++◌, ℕ, List, length, take, drop, subst, sym, ap, ◌∙◌, arith, Some, bytes_of}
use Rattle.ip_header_contents.specs.Options.{option_bytes}
use Rattle.ip_dissect.specs.Dissection.{DissectedParts, dissected}
use Rattle.ip_dissect.specs.declared.summary.Summary.{Summary}
use Rattle.ip_dissect.proofs.PacketLemmas.{summary_fits}
use Rattle.ip_rewrite.specs.Jumbogram.{jumbo_payload, jumbo_offset, stating_at}
use Rattle.ip_rewrite.specs.Rewritten.{joined}
use Rattle.ip_rewrite.specs.Writing.{HasOption}
use Rattle.ip_rewrite.proofs.JumbogramLemmas.{has_option, has_within}
use Rattle.ip_rewrite.proofs.WrittenLemmas.{put_within, option_put}
use Rattle.ip_rewrite.proofs.jumbogram.state_jumbo.Goals as goal

pub overflow_add-packet : goal.overflow_add-packet
overflow_add-packet c =
    let p : DissectedParts = dissected c.args.packet.now.bytes.now in
    let fits = summary_fits c.args.packet.now.bytes.now _ _ c.args.packet.now.base_is c.args.packet.now.summary_is in
    let exts : c.args.packet.now.summary.extensions_len ≡ length (bytes_of p.headers) = ap (λ (o : Summary). o.extensions_len) c.args.packet.now.summary_is in
    let offset : jumbo_offset p ≡ Some c.in-Some.offset = sym c.jumbo_offset.ensures ∙ c.in-Some.is in
    let within : c.in-Some.offset + 6 ≤ length (bytes_of p.headers) = has_within c.in-Some.offset p.headers (subst (λ o. HasOption o p.headers) offset (has_option p)) in
    search (rules, fits, exts, within)

pub returns-in-Some : goal.returns-in-Some
returns-in-Some c = λ d m q rest has len is.
    let p : DissectedParts = dissected c.args.packet.now.bytes.now in
    let k : ℕ = c.in-Some.offset in
    let n : ℕ = c.args.len in
    let out : List ℕ = c.args.out.now in
    let new : List ℕ = c.put_at.new.out in
    let base : c.args.packet.now.summary.base_len ≡ length p.base = ap (λ (o : Summary). o.base_len) c.args.packet.now.summary_is in
    let offset : jumbo_offset p ≡ Some k = sym c.jumbo_offset.ensures ∙ c.in-Some.is in
    let there : HasOption (Some k) d = subst (λ o. HasOption o d) offset has in
    let fits : length p.base + k + 6 ≤ length out = put_within p d m q rest out k there is in
    let option : c.jumbo_payload-option.result ≡ option_bytes (jumbo_payload n) = c.jumbo_payload-option.ensures in
    let at : c.args.packet.now.summary.base_len + k ≡ length p.base + k = omega (arith, base) in
    let size : length c.jumbo_payload-option.result ≡ 6 = ap length option in
    let put = c.put_at.ensures (omega (arith, at, size, fits)) in
    let put_option : new ≡ take (length p.base + k) out ++ option_bytes (jumbo_payload n) ++ drop (length p.base + k + 6) out =
    subst (λ (x : List ℕ). new ≡ take (length p.base + k) out ++ x ++ drop (length p.base + k + length x) out) option
    (subst (λ (i : ℕ). new ≡ take i out ++ c.jumbo_payload-option.result ++ drop (i + length c.jumbo_payload-option.result) out) at put) in
    option_put p d m q rest out new k n there is put_option ∙ ap (λ o. joined p (stating_at o n d) m q ++ rest) (sym offset)
