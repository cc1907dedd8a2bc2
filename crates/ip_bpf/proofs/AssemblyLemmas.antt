-- Code that is written from its end.
use Rattle.std.proofs.Common.{◌≡◌, ◌≢◌, ℕ, zero, suc, ◌+◌, ◌-◌, ◌<◌, ◌≤◌, Bool, true, false, cond, ◌||◌, ◌&&◌, not, List, [], ◌∷◌, ◌++◌, length, inl, inr, refl, sym, ap, ◌∙◌, arith, append_assoc, eq-eqb, ne_eqb, length-append}
use Rattle.std.specs.Prelude.{Option, Some, None, IsSomeAnd}
use Rattle.std.specs.Option.{option_map_or}
use Rattle.std.proofs.Math.Bool.{or-true}
use Rattle.std.proofs.lemmas.Bool.{false≢true, cases_eq}
use Rattle.ip_bpf.proofs.EncodingLemmas.{decoded}
use Rattle.ip_bpf.specs.Assembly.{result_at, AreRight, is_word, needs_from, needs_at, Extends}
use Rattle.ip_bpf.specs.Codes.{operation_of}
use Rattle.ip_bpf.specs.Encoding.{instruction_of}
use Rattle.ip_bpf.specs.Machine.{step, step_of, after_step, result_from, holds, operand_in}
use Rattle.ip_bpf.specs.Programs.{IsProgram, instruction_error, error_at, operation_at, skipped_if, IsUnwritten, word_loaded, word_stored}
use Rattle.ip_bpf.specs.declared.instruction.Instruction.{Instruction}
use Rattle.ip_bpf.specs.declared.instruction.Comparison.{Comparison}
use Rattle.ip_bpf.specs.declared.instruction.Operand.{Operand}
use Rattle.ip_bpf.specs.declared.instruction.Operation.{Operation}
use Rattle.ip_bpf.specs.declared.instruction.Operation.TheVariants.{Branch}
use Rattle.ip_bpf.specs.declared.machine.Machine.{Machine}

-- what is put before code changes nothing after a label in it
result_after : (front code : List Instruction) (t n : ℕ) (packet : List ℕ) (m : Machine) → t ≡ length front + n → result_from (front ++ code) t packet m ≡ result_from code n packet m
result_after [] code t n packet m e = let same : t ≡ n = omega arith in ap (λ (k : ℕ). result_from code k packet m) same
result_after (i ∷ front) code zero n packet m e = absurd (omega arith)
result_after (i ∷ front) code (suc t) n packet m e = result_after front code t n packet m (omega arith)

needs_after : (k : ℕ) (front code : List Instruction) (t n : ℕ) → t ≡ length front + n → needs_from k (front ++ code) t ≡ needs_from k code n
needs_after k [] code t n e = let same : t ≡ n = omega arith in ap (needs_from k code) same
needs_after k (i ∷ front) code zero n e = absurd (omega arith)
needs_after k (i ∷ front) code (suc t) n e = needs_after k front code t n (omega arith)

module _ (new code : List Instruction) (more : Extends new code) (label : ℕ) (there : label ≤ length code) where
  apart : length (more.0 ++ code) - label ≡ length more.0 + (length code - label)
  apart = omega (arith, length-append more.0 code)

  pub result_kept : (packet : List ℕ) (m : Machine) → result_at new label packet m ≡ result_at code label packet m
  result_kept packet m =
      ap (λ (c : List Instruction). result_at c label packet m) more.1
      ∙ result_after more.0 code _ _ packet m apart

  pub needs_kept : (k : ℕ) → needs_at k new label ≡ needs_at k code label
  needs_kept k = ap (λ (c : List Instruction). needs_at k c label) more.1 ∙ needs_after k more.0 code _ _ apart

pub extends-refl : (code : List Instruction) → Extends code code
extends-refl code = ([], refl)

pub extends-put : (new code : List Instruction) (i : Instruction) → new ≡ i ∷ code → Extends new code
extends-put new code i e = (i ∷ [], e)

pub extends-trans : (a b c : List Instruction) → Extends a b → Extends b c → Extends a c
extends-trans a b c f g = (f.0 ++ g.0, f.1 ∙ ap (λ (x : List Instruction). f.0 ++ x) g.1 ∙ sym (append_assoc f.0 g.0 c))

pub extends-length : (new code : List Instruction) → Extends new code → length code ≤ length new
extends-length new code f = let e : length new ≡ length (f.0 ++ code) = ap length f.1 in omega (arith, length-append f.0 code)

-- what code with another operation before it returns
pub result_put : (new code : List Instruction) (o : Operation) (packet : List ℕ) (m : Machine) → new ≡ instruction_of o ∷ code → result_at new (length new) packet m ≡ after_step (step o packet m) (λ skipped next. result_from code skipped packet next)
result_put new code o packet m e =
    let none : length new - length new ≡ 0 = omega arith in
    ap (λ (n : ℕ). result_from new n packet m) none
    ∙ ap (λ (c : List Instruction). result_from c 0 packet m) e
    ∙ ap (λ (x : Option Operation). after_step (step_of x packet m) (λ skipped next. result_from code skipped packet next)) (decoded o)

-- the words that it needs
pub needs_put : (k : ℕ) (new code : List Instruction) (o : Operation) → new ≡ instruction_of o ∷ code → needs_at k new (length new) ≡ (is_word k (word_loaded (Some o)) || (not (is_word k (word_stored (Some o))) && (needs_from k code (skipped_if true o) || needs_from k code (skipped_if false o))))
needs_put k new code o e =
    let none : length new - length new ≡ 0 = omega arith in
    ap (needs_from k new) none
    ∙ ap (λ (c : List Instruction). needs_from k c 0) e
    ∙ ap (λ (x : Option Operation). is_word k (word_loaded x) || (not (is_word k (word_stored x)) && option_map_or (λ o. needs_from k code (skipped_if true o) || needs_from k code (skipped_if false o)) x false)) (decoded o)

-- each instruction of a program that is right as the end of one
pub right_at : (program : List Instruction) → AreRight program → (index : ℕ) → index < length program → error_at program index ≡ None
right_at [] right index less = absurd (omega arith)
right_at (i ∷ code) right zero less =
    let count : length (i ∷ code) - 0 - 1 ≡ length code = omega arith in
    ap (λ (n : ℕ). instruction_error n (operation_of i)) count ∙ right.0
right_at (i ∷ code) right (suc index) less =
    let count : length (i ∷ code) - suc index - 1 ≡ length code - index - 1 = omega arith in
    ap (λ (n : ℕ). instruction_error n (operation_at code index)) count ∙ right_at code right.1 index (omega arith)

is_that_word : (k : ℕ) (w : Option ℕ) → w ≡ Some k → is_word k w ≡ true
is_that_word k w e = ap (is_word k) e ∙ eq-eqb k k refl

is_other_word : (k : ℕ) (w : Option ℕ) → w ≢ Some k → is_word k w ≡ false
is_other_word k None other = refl
is_other_word k (Some j) other = elim (cases_eq j k) [
  | inl same ↦ absurd (other (ap Some same))
  | inr differ ↦ ne_eqb j k differ
]

needs_loaded : (k : ℕ) (program : List Instruction) (index : ℕ) → word_loaded (operation_at program index) ≡ Some k → needs_from k program index ≡ true
needs_loaded k [] index e = absurd (let y : ⊥ = cc in y)
needs_loaded k (i ∷ code) zero e = ap (λ t. t || (not (is_word k (word_stored (operation_of i))) && option_map_or (λ o. needs_from k code (skipped_if true o) || needs_from k code (skipped_if false o)) (operation_of i) false)) (is_that_word k _ e)
needs_loaded k (i ∷ code) (suc index) e = needs_loaded k code index e

needs_either : (t : Bool) (f : Bool → Bool) → f t ≡ true → (f true || f false) ≡ true
needs_either true f e = ap (λ x. x || f false) e
needs_either false f e = ap (λ x. f true || x) e ∙ or-true (f true)

needs_next : (k : ℕ) (program : List Instruction) (place target : ℕ) (o : Operation) (is_met : Bool) → operation_at program place ≡ Some o → word_stored (Some o) ≢ Some k → target ≡ place + 1 + skipped_if is_met o → needs_from k program target ≡ true → needs_from k program place ≡ true
needs_next k [] place target o is_met e kept t needed = absurd (let y : ⊥ = cc in y)
needs_next k (i ∷ code) zero zero o is_met e kept t needed = absurd (omega arith)
needs_next k (i ∷ code) zero (suc n) o is_met e kept t needed =
    let skips : n ≡ skipped_if is_met o = omega arith in
    let later : needs_from k code (skipped_if is_met o) ≡ true = ap (needs_from k code) (sym skips) ∙ needed in
    let either : (needs_from k code (skipped_if true o) || needs_from k code (skipped_if false o)) ≡ true = needs_either is_met (λ b. needs_from k code (skipped_if b o)) later in
    ap (λ (x : Option Operation). is_word k (word_loaded x) || (not (is_word k (word_stored x)) && option_map_or (λ o. needs_from k code (skipped_if true o) || needs_from k code (skipped_if false o)) x false)) e
    ∙ ap (λ t. is_word k (word_loaded (Some o)) || (not t && (needs_from k code (skipped_if true o) || needs_from k code (skipped_if false o)))) (is_other_word k _ kept)
    ∙ ap (λ t. is_word k (word_loaded (Some o)) || t) either
    ∙ or-true (is_word k (word_loaded (Some o)))
needs_next k (i ∷ code) (suc place) zero o is_met e kept t needed = absurd (omega arith)
needs_next k (i ∷ code) (suc place) (suc target) o is_met e kept t needed = needs_next k code place target o is_met e kept (omega arith) needed

leads_by : (program : List Instruction) (k before index : ℕ) (found : Option Operation) → operation_at program before ≡ found → IsSomeAnd found (λ o. (is_met : Bool) × (index ≡ before + 1 + skipped_if is_met o)) → word_stored found ≢ Some k → needs_from k program index ≡ true → needs_from k program before ≡ true
leads_by program k before index None e leads kept needed = absurd leads
leads_by program k before index (Some o) e leads kept needed = needs_next k program before index o leads.0 e kept leads.1 needed

-- on a path without a store to it, a word that is needed is needed from the start on
needs_on_path : (program : List Instruction) (k index : ℕ) (path : List ℕ) → IsUnwritten program k index path → needs_from k program index ≡ true → needs_from k program 0 ≡ true
needs_on_path program k index [] at needed = ap (needs_from k program) (sym at) ∙ needed
needs_on_path program k index (before ∷ path) at needed =
    needs_on_path program k before path at.2 (leads_by program k before index (operation_at program before) refl at.0 at.1 needed)

-- a program that is right as the end of one is a whole one, if it needs no word
pub whole_program : (program : List Instruction) → 0 < length program → length program ≤ 4096 → AreRight program → ((k : ℕ) → needs_at k program (length program) ≡ false) → IsProgram program
whole_program program some few right none = record {
  some = some;
  few = few;
  right = right_at program right;
  written = λ index less unwritten.
      let k = unwritten.0 in
      let start : length program - length program ≡ 0 = omega arith in
      let needed : needs_from k program 0 ≡ true = needs_on_path program k index unwritten.1 unwritten.3 (needs_loaded k program index unwritten.2) in
      let free : needs_from k program 0 ≡ false = ap (needs_from k program) (sym start) ∙ none k in
      false≢true (sym free ∙ needed);
}

-- A branch that leads to two labels of the code after it, which stand for two others of other code.
module _ (new code old : List Instruction) (c : Comparison) (o : Operand) (jt jf met not' if_met if_not : ℕ)
    (e : new ≡ instruction_of (Branch c o jt jf) ∷ code) (met_is : jt ≡ length code - met) (not_is : jf ≡ length code - not') where
  pub branch_leads : (packet : List ℕ) (m : Machine) → result_at code met packet m ≡ result_at old if_met packet m → result_at code not' packet m ≡ result_at old if_not packet m → result_at new (length new) packet m ≡ result_at old (cond (holds c m.a (operand_in o m)) if_met if_not) packet m
  branch_leads packet m same_met same_not = result_put new code (Branch c o jt jf) packet m e ∙ by (holds c m.a (operand_in o m)) where
    by : (t : Bool) → result_from code (cond t jt jf) packet m ≡ result_at old (cond t if_met if_not) packet m
    by true = ap (λ (n : ℕ). result_from code n packet m) met_is ∙ same_met
    by false = ap (λ (n : ℕ). result_from code n packet m) not_is ∙ same_not

  pub branch_needs : (k : ℕ) → needs_at k code met ≡ needs_at k old if_met → needs_at k code not' ≡ needs_at k old if_not → needs_at k new (length new) ≡ (needs_at k old if_met || needs_at k old if_not)
  branch_needs k same_met same_not =
      needs_put k new code (Branch c o jt jf) e
      ∙ ap (λ (n : ℕ). needs_from k code n || needs_from k code jf) met_is
      ∙ ap (λ (n : ℕ). needs_at k code met || needs_from k code n) not_is
      ∙ ap (λ t. t || needs_at k code not') same_met
      ∙ ap (λ t. needs_at k old if_met || t) same_not
