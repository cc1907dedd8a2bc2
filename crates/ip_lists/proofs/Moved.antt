-- Lists when a place was moved.
use Rattle.std.proofs.Common.{◌≡◌, ◌≢◌, ℕ, List, [], ◌∷◌, ◌++◌, Bool, refl, sym, ap, ◌∙◌, subst, inl, inr, eqb, eq-eqb, cond, ◌⊎◌}
use Rattle.std.specs.Prelude.{not}
use Rattle.std.proofs.lemmas.Bool.{ne_eqb, cases_eq}
use Rattle.std.proofs.lemmas.List.Elements.{filter-append}
use Rattle.ip_lists.specs.Lists.{IsList}
use Rattle.ip_lists.specs.Moves.{without, IsTakenOut, IsMovedTo}
use Rattle.ip_lists.proofs.Lacking.{Lacks, lacks_head, lacks_tail, lacks_cons, lacks_none}
use Rattle.ip_lists.proofs.Paths.{path_from, lacks_start}

pub without_same : (p : ℕ) (xs : List ℕ) → without p (p ∷ xs) ≡ without p xs
without_same p xs = ap (λ (t : Bool). cond (not t) (p ∷ without p xs) (without p xs)) (eq-eqb p p refl)

pub without_other : (p x : ℕ) (xs : List ℕ) → x ≢ p → without p (x ∷ xs) ≡ x ∷ without p xs
without_other p x xs other = ap (λ (t : Bool). cond (not t) (x ∷ without p xs) (without p xs)) (ne_eqb x p other)

pub without_lacking : (p : ℕ) (xs : List ℕ) → Lacks xs p → without p xs ≡ xs
without_lacking p [] none = refl
without_lacking p (x ∷ xs) none = without_other p x xs (lacks_head x p xs none) ∙ ap (λ (ys : List ℕ). x ∷ ys) (without_lacking p xs (lacks_tail x p xs none))

pub without_between : (p : ℕ) (xs ys : List ℕ) → Lacks xs p → Lacks ys p → without p (xs ++ p ∷ ys) ≡ xs ++ ys
without_between p xs ys before after =
    let parts : without p (xs ++ p ∷ ys) ≡ without p xs ++ without p (p ∷ ys) = filter-append (λ q. not (eqb q p)) xs (p ∷ ys) in
    let left : without p xs ≡ xs = without_lacking p xs before in
    let right : without p (p ∷ ys) ≡ ys = without_same p ys ∙ without_lacking p ys after in
    cc

-- The places around the first time that this one comes.
pub record Around (zs : List ℕ) (p : ℕ) : Type 0 where
  pub before : List ℕ
  pub after : List ℕ
  pub is : zs ≡ before ++ p ∷ after
  pub first : Lacks before p

pub around : (zs : List ℕ) (p : ℕ) → Around zs p ⊎ Lacks zs p
around [] p = inr (lacks_none p)
around (z ∷ zs) p = elim (cases_eq z p) [
  | inl same ↦ inl (record { before = []; after = zs; is = ap (λ (x : ℕ). x ∷ zs) same; first = lacks_none p })
  | inr other ↦ elim (around zs p) [
    | inl found ↦ inl (record { before = z ∷ found.before; after = found.after; is = ap (λ (xs : List ℕ). z ∷ xs) found.is; first = lacks_cons z p found.before other found.first })
    | inr none ↦ inr (lacks_cons z p zs other none)
  ]
]

-- A place that was taken out of its list.
pub taken_out : (old new : List ℕ) (p : ℕ)
    → ((h : ℕ) (xs ys : List ℕ) → h ≢ p → IsList old h (xs ++ p ∷ ys) → IsList new h (xs ++ ys))
    → ((h : ℕ) (zs : List ℕ) → h ≢ p → Lacks zs p → IsList old h zs → IsList new h zs)
    → IsTakenOut old new p
taken_out old new p taken others h zs other list = elim (around zs p) [
  | inl found ↦
      let there : IsList old h (found.before ++ p ∷ found.after) = (let P : List ℕ → Type 0 = λ xs. IsList old h xs in subst P found.is list) in
      let after : Lacks found.after p = lacks_start old p h found.after (path_from old h h p found.before found.after there) in
      let is : without p zs ≡ found.before ++ found.after = ap (without p) found.is ∙ without_between p found.before found.after found.first after in
      (let P : List ℕ → Type 0 = λ xs. IsList new h xs in subst P (sym is) (taken h found.before found.after other there))
  | inr none ↦ (let P : List ℕ → Type 0 = λ xs. IsList new h xs in subst P (sym (without_lacking p zs none)) (others h zs other none list))
]

-- A place that is not in the list of a head after a step.
pub lacks_without : (p q : ℕ) (xs : List ℕ) → Lacks xs q → Lacks (without p xs) q
lacks_without p q [] none = none
lacks_without p q (x ∷ xs) none = elim (cases_eq x p) [
  | inl same ↦ (let P : List ℕ → Type 0 = λ ys. Lacks ys q in
      let e : without p (x ∷ xs) ≡ without p xs = ap (λ (y : ℕ). without p (y ∷ xs)) same ∙ without_same p xs in
      subst P (sym e) (lacks_without p q xs (lacks_tail x q xs none)))
  | inr other ↦ (let P : List ℕ → Type 0 = λ ys. Lacks ys q in
      subst P (sym (without_other p x xs other)) (lacks_cons x q (without p xs) (lacks_head x q xs none) (lacks_without p q xs (lacks_tail x q xs none))))
]

-- A place that was taken out and appended.
pub moved_to : (old mid new : List ℕ) (head p : ℕ) → p ≢ head → IsTakenOut old mid p
    → ((xs : List ℕ) → IsList mid head xs → IsList new head (xs ++ p ∷ []))
    → ((h : ℕ) (zs : List ℕ) → h ≢ head → h ≢ p → Lacks zs head → IsList mid h zs → IsList new h zs)
    → IsMovedTo old new head p
moved_to old mid new head p apart out appended others = record {
  appended = λ zs list. appended (without p zs) (out head zs (λ e. apart (sym e)) list);
  others = λ h zs not_head not_place none list. others h (without p zs) not_head not_place (lacks_without p head zs none) (out h zs not_place list);
}
