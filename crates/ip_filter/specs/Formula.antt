-- Formulas of terms.
use Rattle.std.specs.Prelude.{ℕ, zero, suc, ◌+◌, Bool, not, ◌&&◌, ◌||◌}
use Rattle.ip_filter.specs.declared.term.Term.{Term}

pub data Formula : Type 0 where
  single : Term → Formula
  negation : Formula → Formula
  both : Formula → Formula → Formula
  either : Formula → Formula → Formula

-- the formula holds where h says which terms hold
abbrev pub truth : Formula → (Term → Bool) → Bool
truth (single t) h = h t
truth (negation f) h = not (truth f h)
truth (both f g) h = truth f h && truth g h
truth (either f g) h = truth f h || truth g h

-- how many terms a formula has
abbrev pub terms_of : Formula → ℕ
terms_of (single t) = 1
terms_of (negation f) = terms_of f
terms_of (both f g) = terms_of f + terms_of g
terms_of (either f g) = terms_of f + terms_of g

-- f negated k times
abbrev pub negated : ℕ → Formula → Formula
negated zero f = f
negated (suc k) f = negation (negated k f)
