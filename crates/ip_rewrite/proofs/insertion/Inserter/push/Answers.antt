use Rattle.ip_spec.proofs.Common.{◌≡◌, ◌+◌, ℕ, [], ◌∷◌, ◌++◌, length, subst, ap, arith, ExtHeader}
use Rattle.ip_rewrite.specs.Writing.{AreWritten}
use Rattle.ip_rewrite.proofs.FrontLemmas.{more_len}
use Rattle.ip_rewrite.proofs.insertion.Inserter.push.Goals as goal

pub returns-clause-written : goal.returns-clause-written
returns-clause-written c = λ l b buffer d h is w fits small.
    let sum : c.args.self.now.len + length c.args.header.now ≡ c.saturating_add-self.result =
    omega (arith, c.saturating_add-self.ensures, ap (λ (g : ExtHeader). length g.bytes) is, w.len, more_len d h, fits, small) in
    subst (λ (k : ℕ). AreWritten l b buffer (d ++ h ∷ []) c.append.new.out k c.args.self.now.len) sum (c.append.ensures l b buffer d h is w fits small)
