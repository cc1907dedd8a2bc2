-- An operand is negated, and joined to what waits for it.
use Rattle.std.proofs.Common.{Some, None, is_some}
use Rattle.std.specs.Prelude.{Option}
use Rattle.std.specs.Option.{option_map_or}
use Rattle.ip_spec.proofs.Common.{◌≡◌, ◌+◌, ◌≤◌, List, [], ◌∷◌, length, refl, sym, ap, ◌∙◌, subst, arith, Bool, true, false, false≢true}
use Rattle.ip_filter.specs.declared.builder.Builder.{Builder}
use Rattle.ip_filter.specs.declared.compile.Compiler.{Compiler}
use Rattle.ip_filter.specs.Words.{Word}
use Rattle.ip_filter.specs.Formula.{Formula, negation, negated, both, either, terms_of}
use Rattle.ip_filter.specs.Grammar.{Operand, Conjunction, operand_terms, conjunction_terms, operand_formula, conjunction_formula, operand_leaves, conjunction_leaves}
use Rattle.ip_filter.specs.Compiled.{terms_of_all, HasCompiled}
use Rattle.ip_filter.specs.Parsing.{Open, negate, and_joined, with_operand, or_formulas, and_formulas, group_formulas, state_terms, Holds, HoldsOperand}
use Rattle.ip_filter.proofs.CountLemmas.{operand_count, group_count, after_count}

-- ---- negations before an operand

negate_formula : (ns : List Word) (u : Operand) → operand_formula (negate ns u) ≡ negated (length ns) (operand_formula u)
negate_formula [] u = refl
negate_formula (w ∷ ws) u = ap negation (negate_formula ws u)

negate_terms : (ns : List Word) (u : Operand) → operand_terms (negate ns u) ≡ operand_terms u
negate_terms [] u = refl
negate_terms (w ∷ ws) u = negate_terms ws u

negate_leaves : (ns : List Word) (u : Operand) → operand_leaves (negate ns u) ≡ operand_leaves u
negate_leaves [] u = refl
negate_leaves (w ∷ ws) u = negate_leaves ws u

joined_leaves : (a : Option (Conjunction × Word)) (u : Operand) → conjunction_leaves (and_joined a u) ≡ operand_leaves u
joined_leaves None u = refl
joined_leaves (Some p) u = refl

pub joined_terms : (ns : List Word) (u : Operand) (a : Option (Conjunction × Word))
    → option_map_or (λ p. conjunction_terms p.0) a 0 + operand_terms u ≡ conjunction_terms (and_joined a (negate ns u))
joined_terms ns u None = omega (arith, negate_terms ns u)
joined_terms ns u (Some p) = ap (λ n. conjunction_terms p.0 + n) (sym (negate_terms ns u))

-- ---- the operand's formula is joined

-- an operand joined to the conjunction that waits, if any
abbrev pub JoinsAnd : Bool → Compiler → Compiler → Type 0
JoinsAnd waits old new = (a : Option (Conjunction × Word)) (u : Operand) (fs : List Formula) → waits ≡ is_some a → terms_of_all (conjunction_formula (and_joined a u) ∷ fs) ≤ 64
    → HasCompiled (operand_formula u ∷ and_formulas a fs) old → HasCompiled (conjunction_formula (and_joined a u) ∷ fs) new

pub and_joins : (waits : Bool) (old new : Compiler) → waits ≡ true
    → ((f g : Formula) (fs : List Formula) → terms_of g + (terms_of f + terms_of_all fs) ≤ 64 → HasCompiled (g ∷ f ∷ fs) old → HasCompiled (both f g ∷ fs) new)
    → JoinsAnd waits old new
and_joins waits old new is join None u fs same few h = absurd (false≢true (sym same ∙ is))
and_joins waits old new is join (Some p) u fs same few h = join (conjunction_formula p.0) (operand_formula u) fs (omega (arith, few)) h

pub no_and_joins : (waits : Bool) (old : Compiler) → waits ≡ false → JoinsAnd waits old old
no_and_joins waits old is None u fs same few h = h
no_and_joins waits old is (Some p) u fs same few h = absurd (false≢true (sym is ∙ same))

pub operand_ended : (b : Builder) (mid new : Compiler)
    → ((g : Formula) (gs : List Formula) → terms_of g + terms_of_all gs ≤ 64 → HasCompiled (g ∷ gs) b.compiler → HasCompiled (negated b.level.nots g ∷ gs) mid)
    → JoinsAnd b.level.and_waits mid new
    → (fs : List Open) (f : Open) (u : Operand) → HoldsOperand fs f u b → state_terms (with_operand fs f u) ≤ 64
    → Holds (with_operand fs f u) (record { compiler = new; terms = b.terms; outer = b.outer; level = record { nots = 0; or_waits = b.level.or_waits; and_waits = false }; has_operand = true; leaves = b.leaves })
operand_ended b mid new negate_it join fs f u h few =
    let all = joined_terms f.nots u f.and_left in
    let terms = h.terms in
    let waiting : List Formula = group_formulas (f ∷ fs) in
    let room : terms_of_all (operand_formula u ∷ waiting) ≤ 64 = omega (arith, few, all, operand_count u, group_count (f ∷ fs)) in
    let same : negated b.level.nots (operand_formula u) ≡ operand_formula (negate f.nots u)
    = ap (λ l. negated l.nots (operand_formula u)) h.level ∙ sym (negate_formula f.nots u) in
    let made : HasCompiled (operand_formula (negate f.nots u) ∷ waiting) mid
    = subst (λ g. HasCompiled (g ∷ waiting) mid) same (negate_it (operand_formula u) waiting room h.compiled) in
    record {
      compiled = join f.and_left (negate f.nots u) (or_formulas f.or_left (group_formulas fs)) (ap (λ l. l.and_waits) h.level)
          (omega (arith, few, after_count fs f.or_left (and_joined f.and_left (negate f.nots u)))) made;
      terms = omega (arith, all, terms);
      outer = h.outer;
      level = ap (λ l. record { nots = 0; or_waits = l.or_waits; and_waits = false }) h.level;
      operand = refl;
      leaves = h.leaves ∙ sym (joined_leaves f.and_left (negate f.nots u) ∙ negate_leaves f.nots u);
    }

-- ---- the formula of a primitive is appended

abbrev pub Adds : Formula → Compiler → Compiler → Type 0
Adds f old new = (fs : List Formula) → terms_of_all (f ∷ fs) ≤ 64 → HasCompiled fs old → HasCompiled (f ∷ fs) new

module _ (f g : Formula) (old mid last new : Compiler) (first : Adds f old mid) (second : Adds g mid last) where
  added : (fs : List Formula) → terms_of_all (g ∷ f ∷ fs) ≤ 64 → HasCompiled fs old → HasCompiled (g ∷ f ∷ fs) last
  added fs few h = second (f ∷ fs) few (first fs (omega (arith, few)) h)

  pub both_added : ((f g : Formula) (fs : List Formula) → terms_of g + (terms_of f + terms_of_all fs) ≤ 64 → HasCompiled (g ∷ f ∷ fs) last → HasCompiled (both f g ∷ fs) new) → Adds (both f g) old new
  both_added join fs few h = let small : terms_of_all (g ∷ f ∷ fs) ≤ 64 = omega (arith, few) in join f g fs small (added fs small h)

  pub either_added : ((f g : Formula) (fs : List Formula) → terms_of g + (terms_of f + terms_of_all fs) ≤ 64 → HasCompiled (g ∷ f ∷ fs) last → HasCompiled (either f g ∷ fs) new) → Adds (either f g) old new
  either_added join fs few h = let small : terms_of_all (g ∷ f ∷ fs) ≤ 64 = omega (arith, few) in join f g fs small (added fs small h)
