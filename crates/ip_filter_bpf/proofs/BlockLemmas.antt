-- Blocks of instructions: loads, operations, and a branch at their end.
use Rattle.std.proofs.Common.{◌≡◌, ℕ, ◌+◌, ◌-◌, ◌*◌, ◌/◌, ◌%◌, ◌^◌, ◌<◌, ◌≤◌, Bool, true, false, cond, ◌||◌, ◌&&◌, List, ◌∷◌, length, inl, inr, refl, sym, ap, subst, ◌∙◌, arith, eq-eqb, pow_pos, mod-lt}
use Rattle.std.specs.Prelude.{Some, None, ◌==◌}
use Rattle.std.proofs.Math.Nat.{div-eq_of_lt, div-add-mod, div-div-eq-div-mul}
use Rattle.std.proofs.lemmas.Nat.{pow-add, mod-pow-add, div-mul-add, mod-mul-add}
use Rattle.std.proofs.lemmas.Grind.{common_steps}
use Rattle.std.proofs.lemmas.Bool.Decides.{eqb_tells}
use Rattle.std.proofs.Math.Pow.{pow_mono}
use Rattle.std.proofs.Math.Bool.{and-true}
use Rattle.std.proofs.lemmas.Bool.{lt-ltb, le-leb, cases_lt}
use Rattle.ip_bpf.proofs.AssemblyLemmas.{result_put, needs_put, result_kept, needs_kept}
use Rattle.ip_bpf.specs.Assembly.{Extends, result_at, needs_from}
use Rattle.ip_bpf.specs.Encoding.{instruction_of}
use Rattle.ip_bpf.specs.Machine.{Step, Continues, step, after_step, result_from, loaded, number_at, width_len}
use Rattle.ip_bpf.specs.Programs.{instruction_error, skipped_if, word_loaded, word_stored}
use Rattle.ip_bpf.specs.declared.instruction.Instruction.{Instruction}
use Rattle.ip_bpf.specs.declared.instruction.Width.{Width}
use Rattle.ip_bpf.specs.declared.instruction.Arithmetic.TheVariants.{ShiftRight}
use Rattle.ip_bpf.specs.declared.instruction.Operand.TheVariants.{Constant}
use Rattle.ip_bpf.specs.declared.instruction.Operation.{Operation}
use Rattle.ip_bpf.specs.declared.instruction.Operation.TheVariants.{LoadAbsolute, Compute}
use Rattle.ip_bpf.specs.declared.machine.Machine.{Machine}
use Rattle.ip_filter_bpf.specs.Blocks.{Returns, NeedsNothing, HasBytes, word_at}

-- a load is right before other code
pub load_right : (w : Width) (k left : ℕ) → 0 < left → k < 2 ^ 31 → instruction_error left (Some (LoadAbsolute w k)) ≡ None
load_right w k left some small = rw (lt-ltb k (2 ^ 31) small, lt-ltb 0 left some) refl

pub shift_right : (k left : ℕ) → 0 < left → k < 32 → instruction_error left (Some (Compute ShiftRight (Constant k))) ≡ None
shift_right k left some small = rw (lt-ltb k 32 small, lt-ltb 0 left some) refl

-- an operation that goes on with the next instruction
module _ (new code : List Instruction) (o : Operation) (e : new ≡ instruction_of o ∷ code) where
  pub goes_on : (packet : List ℕ) (m next : Machine) → step o packet m ≡ Continues 0 next → result_at new (length new) packet m ≡ result_at code (length code) packet next
  goes_on packet m next continues =
      let none : 0 ≡ length code - length code = omega arith in
      result_put new code o packet m e
      ∙ ap (λ (s : Step). after_step s (λ skipped n. result_from code skipped packet n)) continues
      ∙ ap (λ (n : ℕ). result_from code n packet next) none

  pub needs_on : word_loaded (Some o) ≡ None → word_stored (Some o) ≡ None → skipped_if true o ≡ 0 → skipped_if false o ≡ 0 → NeedsNothing code (length code) → NeedsNothing new (length new)
  needs_on loads stores first second nothing = λ k.
      let none : 0 ≡ length code - length code = omega arith in
      let free : needs_from k code 0 ≡ false = ap (needs_from k code) none ∙ nothing k in
      needs_put k new code o e
      ∙ rw (loads, stores, first, second, free) refl

loaded_there : (packet : List ℕ) (k : ℕ) (w : Width) → k + width_len w ≤ length packet → loaded packet k w ≡ Some (number_at packet k w)
loaded_there packet k w there = ap (λ (t : Bool). cond t (Some (number_at packet k w)) None) (le-leb (k + width_len w) (length packet) there)

pub load_goes_on : (new code : List Instruction) (w : Width) (k : ℕ) (packet : List ℕ) (m : Machine) → new ≡ instruction_of (LoadAbsolute w k) ∷ code → k + width_len w ≤ length packet → result_at new (length new) packet m ≡ result_at code (length code) packet (record m { a = number_at packet k w })
load_goes_on new code w k packet m e there = goes_on new code (LoadAbsolute w k) e packet m (record m { a = number_at packet k w }) (rw (loaded_there packet k w there) refl)

pub shift_goes_on : (new code : List Instruction) (k : ℕ) (packet : List ℕ) (m : Machine) → new ≡ instruction_of (Compute ShiftRight (Constant k)) ∷ code → k < 32 → result_at new (length new) packet m ≡ result_at code (length code) packet (record m { a = m.a / 2 ^ k })
shift_goes_on new code k packet m e small =
    let same : k % 32 ≡ k = omega arith in
    goes_on new code (Compute ShiftRight (Constant k)) e packet m (record m { a = m.a / 2 ^ k }) (ap (λ (n : ℕ). Continues 0 (record m { a = m.a / 2 ^ n })) same)

-- numbers of 32 bits are equal without as many of their lowest bits
nothing_left : (k n : ℕ) → 32 ≤ k → n < 2 ^ 32 → n / 2 ^ k ≡ 0
nothing_left k n all small = let more : 2 ^ 32 ≤ 2 ^ k = pow_mono all in div-eq_of_lt (omega (arith, more, small))

pub all_ignored : (k n w : ℕ) → 32 ≤ k → n < 2 ^ 32 → w < 2 ^ 32 → (n / 2 ^ k == w / 2 ^ k) ≡ true
all_ignored k n w all small_n small_w = eq-eqb (n / 2 ^ k) (w / 2 ^ k) (nothing_left k n all small_n ∙ sym (nothing_left k w all small_w))

-- the quotient by 2 ^ (j + k), in two steps
in_two_steps : (a j k : ℕ) → a / 2 ^ j / 2 ^ k ≡ a / 2 ^ (j + k)
in_two_steps a j k = rw (pow-add 2 j k) (div-div-eq-div-mul a (2 ^ j) (2 ^ k))

two_parts_tell : (x y m : ℕ) → ((x / m == y / m) && (x % m == y % m)) ≡ (x == y)
two_parts_tell x y m = grind (arith, common_steps, eqb_tells, div-add-mod x m, div-add-mod y m)

-- the last j + k bits of a, without the last k of them
last_part : (a j k : ℕ) → a % 2 ^ (j + k) / 2 ^ k ≡ a / 2 ^ k % 2 ^ j
last_part a j k = rw (mod-pow-add a j k) (div-mul-add (a / 2 ^ k % 2 ^ j) (2 ^ k) (a % 2 ^ k) (mod-lt a (pow_pos k)))

both_parts_tell : (a b j k : ℕ) → ((a / 2 ^ (k + j) == b / 2 ^ (k + j)) && (a % 2 ^ (j + k) / 2 ^ k == b % 2 ^ (j + k) / 2 ^ k)) ≡ (a / 2 ^ k == b / 2 ^ k)
both_parts_tell a b j k = rw (last_part a j k, last_part b j k, ← in_two_steps a k j, ← in_two_steps b k j) (two_parts_tell (a / 2 ^ k) (b / 2 ^ k) (2 ^ j))

-- Two numbers begin alike but for their last k bits: the parts before the last word do, and the last words.
module _ (a b k : ℕ) where
  few_bits : k < 32 → ((a / 2 ^ 32 / 2 ^ (k - 32) == b / 2 ^ 32 / 2 ^ (k - 32)) && (a % 2 ^ 32 / 2 ^ k == b % 2 ^ 32 / 2 ^ k)) ≡ (a / 2 ^ k == b / 2 ^ k)
  few_bits few =
      let sum : (32 - k) + k ≡ 32 = omega arith in
      let turned : k + (32 - k) ≡ 32 = omega arith in
      let none : k - 32 ≡ 0 = omega arith in
      let one : (n : ℕ) → n / 2 ^ (k - 32) ≡ n = λ n. ap (λ (i : ℕ). n / 2 ^ i) none ∙ (omega arith) in
      rw (one (a / 2 ^ 32), one (b / 2 ^ 32)) (
      subst (λ (i : ℕ). ((a / 2 ^ i == b / 2 ^ i) && (a % 2 ^ 32 / 2 ^ k == b % 2 ^ 32 / 2 ^ k)) ≡ (a / 2 ^ k == b / 2 ^ k)) turned (
      subst (λ (i : ℕ). ((a / 2 ^ (k + (32 - k)) == b / 2 ^ (k + (32 - k))) && (a % 2 ^ i / 2 ^ k == b % 2 ^ i / 2 ^ k)) ≡ (a / 2 ^ k == b / 2 ^ k)) sum (both_parts_tell a b (32 - k) k)))

  many_bits : 32 ≤ k → ((a / 2 ^ 32 / 2 ^ (k - 32) == b / 2 ^ 32 / 2 ^ (k - 32)) && (a % 2 ^ 32 / 2 ^ k == b % 2 ^ 32 / 2 ^ k)) ≡ (a / 2 ^ k == b / 2 ^ k)
  many_bits many =
      let sum : 32 + (k - 32) ≡ k = omega arith in
      ap (λ t. (a / 2 ^ 32 / 2 ^ (k - 32) == b / 2 ^ 32 / 2 ^ (k - 32)) && t) (all_ignored k (a % 2 ^ 32) (b % 2 ^ 32) many (mod-lt a (pow_pos 32)) (mod-lt b (pow_pos 32)))
      ∙ and-true (a / 2 ^ 32 / 2 ^ (k - 32) == b / 2 ^ 32 / 2 ^ (k - 32))
      ∙ ap (λ (n : ℕ). n == b / 2 ^ 32 / 2 ^ (k - 32)) (in_two_steps a 32 (k - 32))
      ∙ ap (λ (n : ℕ). a / 2 ^ (32 + (k - 32)) == n) (in_two_steps b 32 (k - 32))
      ∙ ap (λ (i : ℕ). a / 2 ^ i == b / 2 ^ i) sum

  pub last_word_tells : ((a / 2 ^ 32 / 2 ^ (k - 32) == b / 2 ^ 32 / 2 ^ (k - 32)) && (a % 2 ^ 32 / 2 ^ k == b % 2 ^ 32 / 2 ^ k)) ≡ (a / 2 ^ k == b / 2 ^ k)
  last_word_tells = elim (cases_lt k 32) [ inl few ↦ few_bits few | inr many ↦ many_bits many ]

-- the same of numbers that are given by their parts
joined_tell : (x y u v k : ℕ) → y < 2 ^ 32 → v < 2 ^ 32 → ((x / 2 ^ (k - 32) == u / 2 ^ (k - 32)) && (y / 2 ^ k == v / 2 ^ k)) ≡ ((x * 2 ^ 32 + y) / 2 ^ k == (u * 2 ^ 32 + v) / 2 ^ k)
joined_tell x y u v k small_y small_v =
    ap (λ (n : ℕ). (n / 2 ^ (k - 32) == u / 2 ^ (k - 32)) && (y / 2 ^ k == v / 2 ^ k)) (sym (div-mul-add x (2 ^ 32) y small_y))
    ∙ ap (λ (n : ℕ). ((x * 2 ^ 32 + y) / 2 ^ 32 / 2 ^ (k - 32) == n / 2 ^ (k - 32)) && (y / 2 ^ k == v / 2 ^ k)) (sym (div-mul-add u (2 ^ 32) v small_v))
    ∙ ap (λ (n : ℕ). ((x * 2 ^ 32 + y) / 2 ^ 32 / 2 ^ (k - 32) == (u * 2 ^ 32 + v) / 2 ^ 32 / 2 ^ (k - 32)) && (n / 2 ^ k == v / 2 ^ k)) (sym (mod-mul-add x (2 ^ 32) y small_y))
    ∙ ap (λ (n : ℕ). ((x * 2 ^ 32 + y) / 2 ^ 32 / 2 ^ (k - 32) == (u * 2 ^ 32 + v) / 2 ^ 32 / 2 ^ (k - 32)) && ((x * 2 ^ 32 + y) % 2 ^ 32 / 2 ^ k == n / 2 ^ k)) (sym (mod-mul-add u (2 ^ 32) v small_v))
    ∙ last_word_tells (x * 2 ^ 32 + y) (u * 2 ^ 32 + v) k

and_assoc4 : (a b c d : Bool) → (a && (b && (c && d))) ≡ (((a && b) && c) && d)
and_assoc4 true true c d = refl
and_assoc4 true false c d = refl
and_assoc4 false b c d = refl

-- four words begin alike
pub words_tell : (x0 x1 x2 x3 y0 y1 y2 y3 k k1 k2 k3 : ℕ) → k1 ≡ k - 32 → k2 ≡ k - 64 → k3 ≡ k - 96 → x1 < 2 ^ 32 → x2 < 2 ^ 32 → x3 < 2 ^ 32 → y1 < 2 ^ 32 → y2 < 2 ^ 32 → y3 < 2 ^ 32
    → ((x0 / 2 ^ k3 == y0 / 2 ^ k3) && ((x1 / 2 ^ k2 == y1 / 2 ^ k2) && ((x2 / 2 ^ k1 == y2 / 2 ^ k1) && (x3 / 2 ^ k == y3 / 2 ^ k))))
    ≡ ((((x0 * 2 ^ 32 + x1) * 2 ^ 32 + x2) * 2 ^ 32 + x3) / 2 ^ k == (((y0 * 2 ^ 32 + y1) * 2 ^ 32 + y2) * 2 ^ 32 + y3) / 2 ^ k)
words_tell x0 x1 x2 x3 y0 y1 y2 y3 k k1 k2 k3 e1 e2 e3 s1 s2 s3 t1 t2 t3 =
    let f2 : k2 ≡ k1 - 32 = omega arith in
    let f3 : k3 ≡ k2 - 32 = omega arith in
    and_assoc4 (x0 / 2 ^ k3 == y0 / 2 ^ k3) (x1 / 2 ^ k2 == y1 / 2 ^ k2) (x2 / 2 ^ k1 == y2 / 2 ^ k1) (x3 / 2 ^ k == y3 / 2 ^ k)
    ∙ ap (λ (j : ℕ). (((x0 / 2 ^ j == y0 / 2 ^ j) && (x1 / 2 ^ k2 == y1 / 2 ^ k2)) && (x2 / 2 ^ k1 == y2 / 2 ^ k1)) && (x3 / 2 ^ k == y3 / 2 ^ k)) f3
    ∙ ap (λ t. (t && (x2 / 2 ^ k1 == y2 / 2 ^ k1)) && (x3 / 2 ^ k == y3 / 2 ^ k)) (joined_tell x0 x1 y0 y1 k2 s1 t1)
    ∙ ap (λ (j : ℕ). (((x0 * 2 ^ 32 + x1) / 2 ^ j == (y0 * 2 ^ 32 + y1) / 2 ^ j) && (x2 / 2 ^ k1 == y2 / 2 ^ k1)) && (x3 / 2 ^ k == y3 / 2 ^ k)) f2
    ∙ ap (λ t. t && (x3 / 2 ^ k == y3 / 2 ^ k)) (joined_tell (x0 * 2 ^ 32 + x1) x2 (y0 * 2 ^ 32 + y1) y2 k1 s2 t2)
    ∙ ap (λ (j : ℕ). (((x0 * 2 ^ 32 + x1) * 2 ^ 32 + x2) / 2 ^ j == ((y0 * 2 ^ 32 + y1) * 2 ^ 32 + y2) / 2 ^ j) && (x3 / 2 ^ k == y3 / 2 ^ k)) e1
    ∙ joined_tell ((x0 * 2 ^ 32 + x1) * 2 ^ 32 + x2) x3 ((y0 * 2 ^ 32 + y1) * 2 ^ 32 + y2) y3 k s3 t3

pub word_small : (packet : List ℕ) (k : ℕ) → HasBytes packet → word_at packet k < 2 ^ 32
word_small packet k bytes =
    let a = bytes k in let b = bytes (k + 1) in let c = bytes (k + 2) in let d = bytes (k + 3) in
    omega (arith, a, b, c, d)

-- what is put before code changes nothing at its labels
pub returns_kept : (new code : List Instruction) (label : ℕ) (packet : List ℕ) (r : ℕ) → Extends new code → label ≤ length code → Returns code label packet r → Returns new label packet r
returns_kept new code label packet r more there h = λ m. result_kept new code more label there packet m ∙ h m

pub nothing_kept : (new code : List Instruction) (label : ℕ) → Extends new code → label ≤ length code → NeedsNothing code label → NeedsNothing new label
nothing_kept new code label more there h = λ k. needs_kept new code more label there k ∙ h k

-- two conditions, the first of which leads on to code for the second
module _ (code old : List Instruction) (packet : List ℕ) (r label if_met if_not : ℕ) (u : Bool) where
  pub and_leads : (t : Bool) → Returns old (cond (t && u) if_met if_not) packet r → (Returns old (cond u if_met if_not) packet r → Returns code label packet r) → (Returns old if_not packet r → Returns code if_not packet r) → Returns code (cond t label if_not) packet r
  and_leads true h go kept = go h
  and_leads false h go kept = kept h

  pub or_leads : (t : Bool) → Returns old (cond (t || u) if_met if_not) packet r → (Returns old (cond u if_met if_not) packet r → Returns code label packet r) → (Returns old if_met packet r → Returns code if_met packet r) → Returns code (cond t if_met label) packet r
  or_leads true h go kept = kept h
  or_leads false h go kept = go h

-- an address by its four words
pub address_parts : (high low : ℕ) → ((high / 2 ^ 32 * 2 ^ 32 + high % 2 ^ 32) * 2 ^ 32 + low / 2 ^ 32) * 2 ^ 32 + low % 2 ^ 32 ≡ high * 2 ^ 64 + low
address_parts high low = omega arith
