use Rattle.ip_spec.proofs.Common.{◌≡◌, ◌+◌, ◌++◌, List, ℕ, take, drop, length, subst, ◌∙◌, ap, arith, bytes_of}
use Rattle.ip_dissect.specs.Dissection.{DissectedParts, dissected}
use Rattle.ip_rewrite.proofs.FrontLemmas.{copied_after}
use Rattle.ip_rewrite.proofs.write.copy_headers.Goals as goal

pub returns : goal.returns
returns c =
    let p : DissectedParts = dissected c.args.packet.now.bytes.now in
    let b : List ℕ = p.base in
    let e : List ℕ = bytes_of p.headers in
    let r : List ℕ = c.base_of-base.result.now in
    let f : List ℕ = c.extensions.result.now in
    let x : List ℕ = c.put_at.new.out in
    let y : List ℕ = c.put_at-2.new.out in
    let base : r ≡ b = c.base_of-base.ensures in
    let exts : f ≡ e = c.extensions.ensures in
    let size : length r ≡ length b = ap length base in
    let first : x ≡ b ++ drop (0 + length b) c.args.out.now = subst (λ (z : List ℕ). x ≡ z ++ drop (0 + length z) c.args.out.now) base (c.put_at.ensures (omega (arith, size, c.requires))) in
    let second = c.put_at-2.ensures (omega (arith, size, ap length exts, c.requires, c.put_at.auto.out)) in
    let there : y ≡ take (length b) x ++ e ++ drop (length b + length e) x = subst (λ (z : List ℕ). y ≡ take (length b) x ++ z ++ drop (length b + length z) x) exts (subst (λ (k : ℕ). y ≡ take k x ++ f ++ drop (k + length f) x) size second) in
    copied_after b e c.args.out.now x y (first ∙ ap (λ k. b ++ drop k c.args.out.now) (omega arith)) there
