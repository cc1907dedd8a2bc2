use Rattle.ip_spec.proofs.Common.{◌≡◌, ◌+◌, ◌≤◌, ℕ, List, ◌++◌, take, drop, length, sym, ◌∙◌, ap, arith, length-append, append_assoc, take-append_seam, drop-append_seam, IsHeader, cleared_header}
use Rattle.ip_spec.proofs.HeaderLemmas.{header-least}
use Rattle.ip_rewrite.proofs.ClearingLemmas.{cleared_start}
use Rattle.ip_rewrite.proofs.clearing.clear_at.Goals as goal

room : (out f b r : List ℕ) (n offset : ℕ) → IsHeader n b → offset ≡ length f → out ≡ f ++ b ++ r → offset + 8 ≤ length out
room out f b r n offset header at is = omega (arith, at, ap length is, length-append (f ++ b) r, length-append f b, header-least n b header)

pub returns-then-saturating_sub-ge4 : goal.returns-then-saturating_sub-ge4
returns-then-saturating_sub-ge4 c = λ f b r header at is.
    let out : List ℕ = c.args.out.now in
    let s : out ≡ f ++ (b ++ r) = is ∙ append_assoc f b r in
    let front : c.split_at_mut-rest.result.0.now ≡ f = c.split_at_mut-rest.ensures.front ∙ (ap (λ k. take k out) at ∙ (ap (take (length f)) s ∙ take-append_seam f (b ++ r))) in
    let back : c.split_at_mut-rest.result.1.now ≡ b ++ r = c.split_at_mut-rest.ensures.back ∙ (ap (λ k. drop k out) at ∙ (ap (drop (length f)) s ∙ drop-append_seam f (b ++ r))) in
    let changed : c.clear.new.bytes ≡ cleared_header c.args.number.0 b ++ r = c.clear.ensures ∙ (ap (cleared_header c.args.number.0) back ∙ cleared_start c.args.number.0 b r (omega (arith, header-least c.args.number.0 b header))) in
    ap (λ x. x ++ c.clear.new.bytes) front ∙ (ap (λ x. f ++ x) changed ∙ sym (append_assoc f (cleared_header c.args.number.0 b) r))

pub returns-else-saturating_sub-ge4 : goal.returns-else-saturating_sub-ge4
returns-else-saturating_sub-ge4 c = λ f b r header at is. absurd (omega (arith, room c.args.out.now f b r c.args.number.0 c.args.offset header at is, c.saturating_sub.ensures, c.if-saturating_sub-ge4.false))
