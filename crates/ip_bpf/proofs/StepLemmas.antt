-- One step of a program that the kernel accepts.
use Rattle.std.proofs.Common.{◌≡◌, ◌≢◌, ℕ, ◌+◌, ◌-◌, ◌%◌, ◌<◌, ◌^◌, nat_lt, ◌&&◌, Bool, true, false, cond, inl, inr, List, length, set, refl, sym, ap, subst, ◌∙◌, arith, get_or-set_same, get_or-set_other}
use Rattle.std.proofs.lemmas.List.{length-set}
use Rattle.std.proofs.lemmas.Bool.{cases_eq, cases_lt, le-ltb, lt-ltb}
use Rattle.std.specs.Prelude.{Option, Some, None, slice_index_or}
use Rattle.std.specs.Option.{option_or}
use Rattle.ip_bpf.specs.Machine.{Step, Returns, Continues, Stuck, step, loaded, header_length, computed, operand_in, holds, next_or_end, next_or_stuck, with_register, in_register}
use Rattle.ip_bpf.specs.Programs.{instruction_error, operation_error, way_error, skipped_if, word_loaded, word_stored}
use Rattle.ip_bpf.specs.declared.instruction.Operation.{Operation}
use Rattle.ip_bpf.specs.declared.instruction.Operation.TheVariants.{LoadConstant, LoadMemory, LoadLength, LoadAbsolute, LoadIndirect, LoadHeaderLength, Store, Compute, Negate, Jump, Branch, ReturnConstant, ReturnAccumulator, CopyToIndex, CopyToAccumulator}
use Rattle.ip_bpf.specs.declared.instruction.Register.{Register}
use Rattle.ip_bpf.specs.declared.instruction.Register.TheVariants as register
use Rattle.ip_bpf.specs.declared.machine.Machine.{Machine}
use Rattle.ip_bpf.specs.declared.err.InstructionError.{InstructionError}

-- what an operation may do to the memory
pub record Stores (o : Operation) (old new : List (Option ℕ)) : Type 0 where
  pub len : length new ≡ 16
  pub kept : (k : ℕ) → slice_index_or new k None ≡ None → slice_index_or old k None ≡ None
  pub stored : (k : ℕ) → slice_index_or new k None ≡ None → word_stored (Some o) ≢ Some k

-- what a step leads to, if so many instructions are left
abbrev pub IsRight : Operation → ℕ → Machine → Step → Type 0
IsRight o left m (Returns n) = Unit {0}
IsRight o left m (Continues n next) = (n < left) × ((is_met : Bool) × (n ≡ skipped_if is_met o)) × Stores o m.memory next.memory
IsRight o left m Stuck = ⊥

none_below : (k n : ℕ) (e : InstructionError) → cond (nat_lt k n) None (Some e) ≡ None → k < n
none_below k n e h = elim (cases_lt k n) [
  | inl less ↦ less
  | inr above ↦
      let t : nat_lt k n ≡ false = le-ltb k n above in
      let x : Some e ≡ None = ap (λ b. cond b None (Some e)) (sym t) ∙ h in
      absurd (let y : ⊥ = cc in y)
]

second_none : (a b : Option InstructionError) → option_or a b ≡ None → b ≡ None
second_none None b h = h
second_none (Some e) b h = absurd (let y : ⊥ = cc in y)

first_none : (a b : Option InstructionError) → option_or a b ≡ None → a ≡ None
first_none None b h = refl
first_none (Some e) b h = absurd (let y : ⊥ = cc in y)

way_right : (o : Operation) (left : ℕ) → instruction_error left (Some o) ≡ None → way_error left o ≡ None
way_right o left h = second_none (operation_error o) (way_error left o) h

constants_right : (o : Operation) (left : ℕ) → instruction_error left (Some o) ≡ None → operation_error o ≡ None
constants_right o left h = first_none (operation_error o) (way_error left o) h

register_kept : (r : Register) (n : ℕ) (m : Machine) → (with_register r n m).memory ≡ m.memory
register_kept register.A n m = refl
register_kept register.X n m = refl

-- the memory stays
kept_right : (o : Operation) (left n : ℕ) (m next : Machine) → next.memory ≡ m.memory → length m.memory ≡ 16 → n < left → ((is_met : Bool) × (n ≡ skipped_if is_met o)) → word_stored (Some o) ≡ None → IsRight o left m (Continues n next)
kept_right o left n m next same len less skips none = (
  less,
  skips,
  record {
    len = ap length same ∙ len;
    kept = λ k h. ap (λ (w : List (Option ℕ)). slice_index_or w k None) (sym same) ∙ h;
    stored = λ k h e. let x : None ≡ Some k = sym none ∙ e in let y : ⊥ = cc in y;
  },
)

-- a number that may not be there ends the program without it
end_right : (o : Operation) (left : ℕ) (m : Machine) (v : Option ℕ) (make : ℕ → Machine) → ((n : ℕ) → (make n).memory ≡ m.memory) → length m.memory ≡ 16 → 0 < left → ((is_met : Bool) × (0 ≡ skipped_if is_met o)) → word_stored (Some o) ≡ None → IsRight o left m (next_or_end v make)
end_right o left m None make same len less skips none = tt
end_right o left m (Some n) make same len less skips none = kept_right o left 0 m (make n) (same n) len less skips none

-- a word that is written
word_right : (o : Operation) (left : ℕ) (m : Machine) (v : Option ℕ) (make : ℕ → Machine) → ((n : ℕ) → (make n).memory ≡ m.memory) → length m.memory ≡ 16 → 0 < left → ((is_met : Bool) × (0 ≡ skipped_if is_met o)) → word_stored (Some o) ≡ None → v ≢ None → IsRight o left m (next_or_stuck v make)
word_right o left m None make same len less skips none written = written refl
word_right o left m (Some n) make same len less skips none written = kept_right o left 0 m (make n) (same n) len less skips none

both_below : (a b left : ℕ) (e : InstructionError) → cond (nat_lt a left && nat_lt b left) None (Some e) ≡ None → (a < left) × (b < left)
both_below a b left e h = elim (cases_lt a left) [
  | inl less ↦
      let t : nat_lt a left ≡ true = lt-ltb a left less in
      (less, none_below b left e (ap (λ t. cond (t && nat_lt b left) None (Some e)) (sym t) ∙ h))
  | inr above ↦
      let t : nat_lt a left ≡ false = le-ltb a left above in
      let x : Some e ≡ None = ap (λ t. cond (t && nat_lt b left) None (Some e)) (sym t) ∙ h in
      absurd (let y : ⊥ = cc in y)
]

branch_below : (t : Bool) (a b left : ℕ) → (a < left) × (b < left) → cond t a b < left
branch_below true a b left h = h.0
branch_below false a b left h = h.1

-- a store at an index of the memory
module _ (r : Register) (k : ℕ) (m : Machine) (len : length m.memory ≡ 16) (less : k < 16) where
  stored_there : slice_index_or (set m.memory k (Some (in_register r m))) k None ≡ None → ⊥
  stored_there h =
      let within : k < length m.memory = omega arith in
      let x : Some (in_register r m) ≡ None = sym (get_or-set_same m.memory k (Some (in_register r m)) None within) ∙ h in
      let y : ⊥ = cc in y

  store_stores : Stores (Store r k) m.memory (set m.memory k (Some (in_register r m)))
  store_stores = record {
    len = length-set m.memory k (Some (in_register r m)) ∙ len;
    kept = λ j h. elim (cases_eq j k) [
      | inl same ↦ absurd (stored_there (ap (λ (i : ℕ). slice_index_or (set m.memory k (Some (in_register r m))) i None) (sym same) ∙ h))
      | inr other ↦ sym (get_or-set_other m.memory k j (Some (in_register r m)) None other) ∙ h
    ];
    stored = λ j h e.
        let same : k ≡ j = cc in
        stored_there (ap (λ (i : ℕ). slice_index_or (set m.memory k (Some (in_register r m))) i None) same ∙ h);
  }

-- an instruction in which nothing is wrong, and which loads no word that isn't written
-- a word that is loaded is one of the memory
pub loaded_below : (o : Operation) (left k : ℕ) → instruction_error left (Some o) ≡ None → word_loaded (Some o) ≡ Some k → k < 16
loaded_below (LoadMemory r j) left k fine h =
    let same : j ≡ k = cc in
    let less : j < 16 = none_below j 16 _ (constants_right (LoadMemory r j) left fine) in
    omega arith
loaded_below o left k fine h = absurd (let y : ⊥ = cc in y)

pub step_right : (o : Operation) (left : ℕ) (packet : List ℕ) (m : Machine) → instruction_error left (Some o) ≡ None → length m.memory ≡ 16 → ((k : ℕ) → word_loaded (Some o) ≡ Some k → k < 16 → slice_index_or m.memory k None ≢ None) → IsRight o left m (step o packet m)
step_right (LoadConstant r k) left packet m fine len loads = kept_right (LoadConstant r k) left 0 m (with_register r k m) (register_kept r k m) len (none_below 0 left _ fine) (true, refl) refl
step_right (LoadMemory r k) left packet m fine len loads =
    word_right (LoadMemory r k) left m (slice_index_or m.memory k None) (λ n. with_register r n m) (λ n. register_kept r n m) len (none_below 0 left _ (way_right (LoadMemory r k) left fine)) (true, refl) refl
    (loads k refl (none_below k 16 _ (constants_right (LoadMemory r k) left fine)))
step_right (LoadLength r) left packet m fine len loads =
    kept_right (LoadLength r) left 0 m (with_register r (length packet % 2 ^ 32) m) (register_kept r (length packet % 2 ^ 32) m) len (none_below 0 left _ fine) (true, refl) refl
step_right (LoadAbsolute w k) left packet m fine len loads =
    end_right (LoadAbsolute w k) left m (loaded packet k w) (λ n. record m { a = n }) (λ n. refl) len (none_below 0 left _ (way_right (LoadAbsolute w k) left fine)) (true, refl) refl
step_right (LoadIndirect w k) left packet m fine len loads =
    end_right (LoadIndirect w k) left m (loaded packet ((m.x + k) % 2 ^ 32) w) (λ n. record m { a = n }) (λ n. refl) len (none_below 0 left _ fine) (true, refl) refl
step_right (LoadHeaderLength k) left packet m fine len loads =
    end_right (LoadHeaderLength k) left m (header_length packet k) (λ n. record m { x = n }) (λ n. refl) len (none_below 0 left _ (way_right (LoadHeaderLength k) left fine)) (true, refl) refl
step_right (Store r k) left packet m fine len loads =
    let less : k < 16 = none_below k 16 _ (constants_right (Store r k) left fine) in
    let next : Machine = record m { memory = set m.memory k (Some (in_register r m)) } in
    subst (λ (t : Bool). IsRight (Store r k) left m (cond t (Continues 0 next) Stuck)) (sym (lt-ltb k 16 less))
    (none_below 0 left _ (way_right (Store r k) left fine), (true, refl), store_stores r k m len less)
step_right (Compute f o) left packet m fine len loads =
    end_right (Compute f o) left m (computed f m.a (operand_in o m)) (λ n. record m { a = n }) (λ n. refl) len (none_below 0 left _ (way_right (Compute f o) left fine)) (true, refl) refl
step_right Negate left packet m fine len loads = kept_right Negate left 0 m (record m { a = (2 ^ 32 - m.a) % 2 ^ 32 }) refl len (none_below 0 left _ fine) (true, refl) refl
step_right (Jump k) left packet m fine len loads = kept_right (Jump k) left k m m refl len (none_below k left _ fine) (true, refl) refl
step_right (Branch c o jt jf) left packet m fine len loads =
    kept_right (Branch c o jt jf) left (cond (holds c m.a (operand_in o m)) jt jf) m m refl len
    (branch_below (holds c m.a (operand_in o m)) jt jf left (both_below jt jf left _ fine))
    (holds c m.a (operand_in o m), refl) refl
step_right (ReturnConstant k) left packet m fine len loads = tt
step_right ReturnAccumulator left packet m fine len loads = tt
step_right CopyToIndex left packet m fine len loads = kept_right CopyToIndex left 0 m (record m { x = m.a }) refl len (none_below 0 left _ fine) (true, refl) refl
step_right CopyToAccumulator left packet m fine len loads = kept_right CopyToAccumulator left 0 m (record m { a = m.x }) refl len (none_below 0 left _ fine) (true, refl) refl
