-- The truth of a formula that is negated.
use Rattle.std.proofs.Common.{zero, suc}
use Rattle.ip_spec.proofs.Common.{◌≡◌, ℕ, ◌%◌, sym, ap, ◌∙◌, arith, common_steps, nat_eq, eqb_tells, Bool, not, if◌then◌else◌}
use Rattle.ip_filter.specs.Formula.{Formula, truth, negated}
use Rattle.ip_filter.specs.declared.term.Term.{Term}

odd-suc : (k : ℕ) → nat_eq (suc k % 2) 1 ≡ not (nat_eq (k % 2) 1)
odd-suc k = grind (arith, common_steps, eqb_tells)

pub negated-truth : (k : ℕ) (f : Formula) (h : Term → Bool) (b : Bool) → truth f h ≡ b → (if nat_eq (k % 2) 1 then not b else b) ≡ truth (negated k f) h
negated-truth zero f h b e = sym e
negated-truth (suc k) f h b e = grind (arith, common_steps, odd-suc k, negated-truth k f h b e)

module _ (k : ℕ) (f : Formula) (h : Term → Bool) (b : Bool) (e : truth f h ≡ b) where
  pub negated_odd : k % 2 ≡ 1 → not b ≡ truth (negated k f) h
  negated_odd o = ap (λ j. if nat_eq j 1 then not b else b) (sym o) ∙ negated-truth k f h b e

  pub negated_even : k % 2 ≡ 0 → b ≡ truth (negated k f) h
  negated_even o = ap (λ j. if nat_eq j 1 then not b else b) (sym o) ∙ negated-truth k f h b e
