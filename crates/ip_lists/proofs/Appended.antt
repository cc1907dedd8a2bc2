-- Lists when a place was appended to one of them.
use Rattle.std.proofs.Common.{◌≡◌, ◌≢◌, ℕ, List, [], ◌∷◌, ◌++◌, refl, sym, subst, ◌∙◌, arith, inl, inr}
use Rattle.std.specs.Prelude.{Contains, slice_get, Some}
use Rattle.std.proofs.lemmas.Bool.{cases_eq}
use Rattle.std.proofs.lemmas.Option.{slice_get_within}
use Rattle.std.proofs.lemmas.List.Elements.{Contains-append_right}
use Rattle.ip_lists.specs.Lists.{AreInverse, AreNeighbours, IsAlone, IsPath, IsList}
use Rattle.ip_lists.proofs.Lacking.{Lacks, lacks_head, lacks_tail}
use Rattle.ip_lists.proofs.Paths.{path_stays, lacks_alone, lacks_start}
use Rattle.ip_lists.proofs.Rewired.{rewired, length_rewired, at_first, at_second, at_others}

-- The last member of the head's list, or the head, is `l`, and the place is alone.
pub record IsAppendable (next previous : List ℕ) (l p h : ℕ) : Type 0 where
  pub to_head : slice_get next l ≡ Some h
  pub from_head : slice_get previous h ≡ Some l
  pub alone : slice_get next p ≡ Some p
  pub back_alone : slice_get previous p ≡ Some p
  pub other : p ≢ h

pub appendable : (next previous : List ℕ) (l p h : ℕ) → p ≢ h → IsAlone next previous p → AreNeighbours next previous l h → IsAppendable next previous l p h
appendable next previous l p h other alone last = record { to_head = last.0; from_head = last.1; alone = alone.0; back_alone = alone.1; other = other }

not_last : (next previous : List ℕ) (l p h : ℕ) → IsAppendable next previous l p h → l ≢ p
not_last next previous l p h can = λ e. can.other (cc)

half_linked : (next previous : List ℕ) (l p h : ℕ) → ((s t : ℕ) → slice_get next s ≡ Some t → slice_get previous t ≡ Some s) → IsAppendable next previous l p h
    → (s t : ℕ) → slice_get (rewired next l p p h) s ≡ Some t → slice_get (rewired previous h p p l) t ≡ Some s
half_linked next previous l p h back can s t step =
    let from_place : slice_get (rewired next l p p h) p ≡ Some h = at_second next l p p h (slice_get_within next p p can.alone) in
    let back_from_place : slice_get (rewired previous h p p l) p ≡ Some l = at_second previous h p p l (slice_get_within previous p p can.back_alone) in
    let to_place : slice_get (rewired next l p p h) l ≡ Some p = at_first next l p p h (not_last next previous l p h can) (slice_get_within next l h can.to_head) in
    let back_to_place : slice_get (rewired previous h p p l) h ≡ Some p = at_first previous h p p l (λ e. can.other (sym e)) (slice_get_within previous h l can.from_head) in
    elim (cases_eq s p) [
      | inl own ↦ cc
      | inr not_place ↦ elim (cases_eq s l) [
        | inl last ↦ cc
        | inr neither ↦
            let old : slice_get next s ≡ Some t = sym (at_others next l p p h s not_place neither) ∙ step in
            let old_back : slice_get previous t ≡ Some s = back s t old in
            let not_to_place : t ≢ p = λ e. not_place (cc (can.back_alone)) in
            let not_to_head : t ≢ h = λ e. neither (cc (can.from_head)) in
            at_others previous h p p l t not_to_place not_to_head ∙ old_back
      ]
    ]

swapped : (next previous : List ℕ) (l p h : ℕ) → IsAppendable next previous l p h → IsAppendable previous next h p l
swapped next previous l p h can = record {
  to_head = can.from_head;
  from_head = can.to_head;
  alone = can.back_alone;
  back_alone = can.alone;
  other = λ e. not_last next previous l p h can (sym e);
}

pub appended_linked : (next previous : List ℕ) (l p h : ℕ) → AreInverse next previous → IsAppendable next previous l p h → AreInverse (rewired next l p p h) (rewired previous h p p l)
appended_linked next previous l p h linked can = record {
  as_many = length_rewired previous h p p l ∙ (linked.as_many ∙ sym (length_rewired next l p p h));
  back = half_linked next previous l p h linked.back can;
  forth = λ s t. half_linked previous next h p l (λ x y. linked.forth y x) (swapped next previous l p h can) t s;
}

-- Each step stays, but for those from the place and to the head.
appended_keeps : (next previous : List ℕ) (l p h : ℕ) → IsAppendable next previous l p h
    → (s t : ℕ) → s ≢ p → t ≢ h → slice_get next s ≡ Some t → slice_get (rewired next l p p h) s ≡ Some t
appended_keeps next previous l p h can s t not_from not_to step =
    let not_last : s ≢ l = λ e. not_to (cc (can.to_head)) in
    at_others next l p p h s not_from not_last ∙ step

-- A step to the head goes through the place afterwards.
appended_step : (next previous : List ℕ) (l p h : ℕ) → AreInverse next previous → IsAppendable next previous l p h
    → (s : ℕ) → slice_get next s ≡ Some h → slice_get (rewired next l p p h) s ≡ Some p
appended_step next previous l p h linked can s step =
    let back : slice_get previous h ≡ Some s = linked.back s h step in
    let same : l ≡ s = cc in
    let there : slice_get (rewired next l p p h) l ≡ Some p = at_first next l p p h (not_last next previous l p h can) (slice_get_within next l h can.to_head) in
    cc

-- A path to the head goes through the place last.
path_appended : (next previous : List ℕ) (l p h : ℕ) → AreInverse next previous → IsAppendable next previous l p h
    → (from : ℕ) (xs : List ℕ) → from ≢ p → Lacks xs p → IsPath next from xs h → IsPath (rewired next l p p h) from (xs ++ p ∷ []) h
path_appended next previous l p h linked can from [] start none path = (
  appended_step next previous l p h linked can from path,
  can.other,
  at_second next l p p h (slice_get_within next p p can.alone),
)
path_appended next previous l p h linked can from (x ∷ xs) start none path = (
  appended_keeps next previous l p h can from x start path.1 path.0,
  path.1,
  path_appended next previous l p h linked can x xs (lacks_head x p xs none) (lacks_tail x p xs none) path.2,
)

-- The list of the head gets the place as its last member.
pub list_appended : (next previous : List ℕ) (l p h : ℕ) → AreInverse next previous → IsAppendable next previous l p h
    → (xs : List ℕ) → IsList next h xs → IsList (rewired next l p p h) h (xs ++ p ∷ [])
list_appended next previous l p h linked can xs path =
    path_appended next previous l p h linked can h xs (λ e. can.other (sym e)) (lacks_alone next h p h xs can.alone can.other path) path

-- The list of another head, which isn't in the list, stays.
pub list_stays : (next previous : List ℕ) (l p h : ℕ) → IsAppendable next previous l p h
    → (k : ℕ) (zs : List ℕ) → k ≢ h → k ≢ p → Lacks zs h → IsList next k zs → IsList (rewired next l p p h) k zs
list_stays next previous l p h can k zs not_head not_place none path =
    path_stays next (rewired next l p p h) p h (appended_keeps next previous l p h can) k k zs not_place not_head
    (lacks_alone next k p k zs can.alone (λ e. not_place (sym e)) path) none path

-- A path through the head goes through the place right before it.
path_through : (next previous : List ℕ) (l p h : ℕ) → AreInverse next previous → IsAppendable next previous l p h
    → (from end : ℕ) (xs ys : List ℕ) → from ≢ p → end ≢ p → end ≢ h → Lacks (xs ++ h ∷ ys) p → IsPath next from (xs ++ h ∷ ys) end
    → IsPath (rewired next l p p h) from (xs ++ p ∷ h ∷ ys) end
path_through next previous l p h linked can from end [] ys start stop not_head none path =
    let no_head : Lacks ys h = lacks_start next h end ys path.2 in (
      appended_step next previous l p h linked can from path.0,
      (λ e. stop (sym e)),
      (
        at_second next l p p h (slice_get_within next p p can.alone),
        path.1,
        path_stays next (rewired next l p p h) p h (appended_keeps next previous l p h can) h end ys (λ e. can.other (sym e)) not_head (lacks_tail h p ys none) no_head path.2,
      ),
    )
path_through next previous l p h linked can from end (x ∷ xs) ys start stop not_head none path =
    let lacks : Lacks (xs ++ h ∷ ys) x = lacks_start next x end (xs ++ h ∷ ys) path.2 in
    let there : Contains (xs ++ h ∷ ys) h = Contains-append_right xs (h ∷ ys) h (0, omega arith, refl) in
    let apart : x ≢ h = λ e. lacks (let P : ℕ → Type 0 = λ y. Contains (xs ++ h ∷ ys) y in subst P (sym e) there) in (
      appended_keeps next previous l p h can from x start apart path.0,
      path.1,
      path_through next previous l p h linked can x end xs ys (lacks_head x p (xs ++ h ∷ ys) none) stop not_head (lacks_tail x p (xs ++ h ∷ ys) none) path.2,
    )

-- The list of another head, which is in the list, gets the place right before the head.
pub list_through : (next previous : List ℕ) (l p h : ℕ) → AreInverse next previous → IsAppendable next previous l p h
    → (k : ℕ) (xs ys : List ℕ) → k ≢ h → k ≢ p → IsList next k (xs ++ h ∷ ys) → IsList (rewired next l p p h) k (xs ++ p ∷ h ∷ ys)
list_through next previous l p h linked can k xs ys not_head not_place path =
    path_through next previous l p h linked can k k xs ys not_place not_place not_head (lacks_alone next k p k (xs ++ h ∷ ys) can.alone (λ e. not_place (sym e)) path) path
