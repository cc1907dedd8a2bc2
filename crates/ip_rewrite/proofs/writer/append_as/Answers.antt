use Rattle.ip_spec.proofs.Common.{◌≡◌, ◌+◌, ◌++◌, ◌∷◌, [], ℕ, List, Bool, length, ap, sym, subst, IsHeader, cleared_header, ExtHeader}
use Rattle.ip_rewrite.specs.Request.{cleared_if}
use Rattle.ip_rewrite.specs.Writing.{AreWritten}
use Rattle.ip_rewrite.proofs.RequestLemmas.{last_cleared}
use Rattle.ip_rewrite.proofs.writer.append_as.Goals as goal

pub returns-then-clears : goal.returns-then-clears
returns-then-clears c = λ l b buffer d h is w fits small.
    let header : IsHeader h.number h.bytes = subst (λ (g : ExtHeader). IsHeader g.number g.bytes) (sym is) c.requires in
    let number : c.args.number.0 ≡ h.number = sym (ap (λ (g : ExtHeader). g.number) is) in
    let out : List ℕ = c.append.new.out in
    let new : List ℕ = c.clear_at.new.out in
    let len : ℕ = c.args.len in
    let k : ℕ = len + length c.args.header.now in
    subst (λ (x : Bool). AreWritten l b buffer (d ++ cleared_if x (h ∷ [])) new k len) (sym c.if-clears.true)
    (last_cleared l b buffer d h out new k len w.headers header (c.append.ensures l b buffer d h is w fits small)
    (subst (λ (m : ℕ). (f x r : List ℕ) → IsHeader m x → len ≡ length f → out ≡ f ++ x ++ r → new ≡ f ++ cleared_header m x ++ r) number c.clear_at.ensures))

pub returns-else-clears : goal.returns-else-clears
returns-else-clears c = λ l b buffer d h is w fits small.
    let k : ℕ = c.args.len + length c.args.header.now in
    subst (λ (x : Bool). AreWritten l b buffer (d ++ cleared_if x (h ∷ [])) c.append.new.out k c.args.len) (sym c.if-clears.false) (c.append.ensures l b buffer d h is w fits small)
