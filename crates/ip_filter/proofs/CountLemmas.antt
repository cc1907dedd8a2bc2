-- Formulas have as many terms as the text that they are read from.
use Rattle.std.proofs.Common.{Some, None}
use Rattle.std.specs.Prelude.{Option}
use Rattle.std.specs.Option.{option_map_or}
use Rattle.ip_spec.proofs.Common.{◌≡◌, ◌+◌, ◌≤◌, List, [], ◌∷◌, refl, arith}
use Rattle.ip_filter.specs.Words.{Word}
use Rattle.ip_filter.specs.Formula.{Formula, terms_of}
use Rattle.ip_filter.specs.Grammar.{Operand, Conjunction, Disjunction, a_primitive, a_negation, a_group, an_operand, an_and, a_conjunction, an_or, operand_formula, conjunction_formula, formula_of, operand_terms, conjunction_terms, terms_in}
use Rattle.ip_filter.specs.Compiled.{terms_of_all}
use Rattle.ip_filter.specs.Parsing.{Open, after, group_terms, or_formulas, and_formulas, group_formulas, state_formulas, state_terms}
use Rattle.ip_filter.proofs.CompileLemmas.{some_terms}

mutual
  pub operand_count : (u : Operand) → terms_of (operand_formula u) ≡ operand_terms u
  operand_count (a_primitive w us p) = refl
  operand_count (a_negation w u) = operand_count u
  operand_count (a_group d) = filter_count d

  pub conjunction_count : (c : Conjunction) → terms_of (conjunction_formula c) ≡ conjunction_terms c
  conjunction_count (an_operand u) = operand_count u
  conjunction_count (an_and c w u) = omega (arith, conjunction_count c, operand_count u)

  pub filter_count : (d : Disjunction) → terms_of (formula_of d) ≡ terms_in d
  filter_count (a_conjunction c) = conjunction_count c
  filter_count (an_or d w c) = omega (arith, filter_count d, conjunction_count c)

pub some_in_operand : (u : Operand) → 1 ≤ operand_terms u
some_in_operand u = omega (arith, operand_count u, some_terms (operand_formula u))

pub some_in_conjunction : (c : Conjunction) → 1 ≤ conjunction_terms c
some_in_conjunction c = omega (arith, conjunction_count c, some_terms (conjunction_formula c))

-- ---- the formulas of what was read

or_count : (o : Option (Disjunction × Word)) (fs : List Formula) → terms_of_all (or_formulas o fs) ≡ terms_of_all fs + option_map_or (λ p. terms_in p.0) o 0
or_count None fs = omega arith
or_count (Some p) fs = omega (arith, filter_count p.0)

and_count : (a : Option (Conjunction × Word)) (fs : List Formula) → terms_of_all (and_formulas a fs) ≡ terms_of_all fs + option_map_or (λ p. conjunction_terms p.0) a 0
and_count None fs = omega arith
and_count (Some p) fs = omega (arith, conjunction_count p.0)

pub group_count : (fs : List Open) → terms_of_all (group_formulas fs) ≡ group_terms fs
group_count [] = refl
group_count (f ∷ fs) =
    omega (arith, group_count fs, or_count f.or_left (group_formulas fs), and_count f.and_left (or_formulas f.or_left (group_formulas fs)))

pub after_count : (fs : List Open) (o : Option (Disjunction × Word)) (c : Conjunction) → terms_of_all (state_formulas (after fs o c)) ≡ state_terms (after fs o c)
after_count fs o c = omega (arith, group_count fs, or_count o (group_formulas fs), conjunction_count c)
