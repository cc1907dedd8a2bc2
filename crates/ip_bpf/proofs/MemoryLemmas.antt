-- Paths on which a word of the memory isn't written.
use Rattle.std.proofs.Common.{◌≡◌, ◌≢◌, ◌⊎◌, ◌↔◌, ℕ, ◌+◌, ◌<◌, Bool, cond, inl, inr, List, [], ◌∷◌, sym, ap, subst, arith}
use Rattle.std.proofs.lemmas.Bool.{cases_eq, ne_eqb}
use Rattle.ip_bpf.proofs.BitLemmas.{first_mark}
use Rattle.std.specs.Prelude.{Option, Some, None, IsSomeAnd}
use Rattle.ip_bpf.specs.Programs.{skipped_if, LeadsTo, IsUnwritten, operation_at, word_stored}
use Rattle.ip_bpf.specs.declared.instruction.Instruction.{Instruction}
use Rattle.ip_bpf.specs.declared.instruction.Operation.{Operation}

-- the last index before the end of a path is below a limit
abbrev pub LastBelow : ℕ → List ℕ → Type 0
LastBelow limit [] = Unit {0}
LastBelow limit (q ∷ path) = q < limit

-- a path leads to p from below a limit
abbrev pub IsReached : List Instruction → ℕ → ℕ → ℕ → Type 0
IsReached program k limit p = (path : List ℕ) × IsUnwritten program k p path × LastBelow limit path

leads_on : (o : Option Operation) (from to : ℕ) → IsSomeAnd o (λ o. (is_met : Bool) × (to ≡ from + 1 + skipped_if is_met o)) → from < to
leads_on None from to h = absurd h
leads_on (Some o) from to h = let e : to ≡ from + 1 + skipped_if h.0 o = h.1 in omega arith

-- each index of a path is below the one that it leads to
pub all_below : (program : List Instruction) (k p : ℕ) (path : List ℕ) → IsUnwritten program k p path → LastBelow p path
all_below program k p [] u = tt
all_below program k p (q ∷ path) u = leads_on (operation_at program q) q p u.0

pub reached_at : (program : List Instruction) (k p : ℕ) (path : List ℕ) → IsUnwritten program k p path → IsReached program k p p
reached_at program k p path u = (path, u, all_below program k p path u)

first_there : (program : List Instruction) (k p : ℕ) → first_mark p ≡ 1 → IsReached program k 0 p
first_there program k p h = elim (cases_eq p 0) [
  | inl first ↦ ([], first, tt)
  | inr later ↦
      let none : first_mark p ≡ 0 = ap (λ (b : Bool). cond b 1 0) (ne_eqb p 0 later) in
      absurd (omega arith)
]

first_only : (program : List Instruction) (k p : ℕ) (path : List ℕ) → IsUnwritten program k p path → LastBelow 0 path → first_mark p ≡ 1
first_only program k p [] u h = ap first_mark u
first_only program k p (q ∷ path) u h = absurd (omega arith)

-- before the first instruction
pub reached_first : (program : List Instruction) (k p : ℕ) → (first_mark p ≡ 1) ↔ IsReached program k 0 p
reached_first program k p = (first_there program k p, λ r. first_only program k p r.0 r.1 r.2)

weaker : (limit : ℕ) (path : List ℕ) → LastBelow limit path → LastBelow (limit + 1) path
weaker limit [] h = tt
weaker limit (q ∷ path) h = omega arith

-- what an operation adds to what is reached
abbrev pub Adds : List Instruction → ℕ → ℕ → ℕ → Operation → Type 0
Adds program k place p o = IsReached program k place place × (word_stored (Some o) ≢ Some k) × ((is_met : Bool) × (p ≡ place + 1 + skipped_if is_met o))

module _ (program : List Instruction) (k place p : ℕ) where
  abbrev Step : ℕ → List ℕ → Type 0
  Step q path = LeadsTo program q p × (word_stored (operation_at program q) ≢ Some k) × IsUnwritten program k q path

  by_place : (o : Operation) → operation_at program place ≡ Some o → (path : List ℕ) → Step place path → Adds program k place p o
  by_place o e path s =
      let leads : (is_met : Bool) × (p ≡ place + 1 + skipped_if is_met o) = subst (λ (t : Option Operation). IsSomeAnd t (λ o. (is_met : Bool) × (p ≡ place + 1 + skipped_if is_met o))) e s.0 in
      let stored : word_stored (Some o) ≢ Some k = subst (λ (t : Option Operation). word_stored t ≢ Some k) e s.1 in
      (reached_at program k place path s.2, stored, leads)

  reached_more : (o : Operation) → operation_at program place ≡ Some o → (path : List ℕ) → IsUnwritten program k p path → LastBelow (place + 1) path → IsReached program k place p ⊎ Adds program k place p o
  reached_more o e [] u h = inl ([], u, tt)
  reached_more o e (q ∷ path) u h = elim (cases_eq q place) [
    | inl same ↦ inr (by_place o e path (subst (λ (t : ℕ). Step t path) same u))
    | inr other ↦ inl (q ∷ path, u, omega arith)
  ]

  -- after an instruction
  pub reached_next : (o : Operation) → operation_at program place ≡ Some o → IsReached program k (place + 1) p ↔ (IsReached program k place p ⊎ Adds program k place p o)
  reached_next o e = (
    λ r. reached_more o e r.0 r.1 r.2,
    λ r. elim r [
      | inl old ↦ (old.0, old.1, weaker place old.0 old.2)
      | inr new ↦
          let leads : LeadsTo program place p = subst (λ (t : Option Operation). IsSomeAnd t (λ o. (is_met : Bool) × (p ≡ place + 1 + skipped_if is_met o))) (sym e) new.2 in
          let stored : word_stored (operation_at program place) ≢ Some k = subst (λ (t : Option Operation). word_stored t ≢ Some k) (sym e) new.1 in
          (place ∷ new.0.0, (leads, stored, new.0.1), omega arith)
    ],
  )
