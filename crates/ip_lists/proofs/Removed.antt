-- Lists when a place was taken out.
use Rattle.std.proofs.Common.{◌≡◌, ◌≢◌, ℕ, List, [], ◌∷◌, ◌++◌, refl, sym, ◌∙◌, subst, arith, inl, inr}
use Rattle.std.specs.Prelude.{Contains, slice_get, Some}
use Rattle.std.proofs.lemmas.Bool.{cases_eq}
use Rattle.std.proofs.lemmas.Option.{slice_get_within}
use Rattle.std.proofs.lemmas.List.Elements.{Contains-append_right}
use Rattle.ip_lists.specs.Lists.{AreInverse, AreNeighbours, IsAlone, IsPath, IsList}
use Rattle.ip_lists.proofs.Lacking.{Lacks, lacks_head, lacks_tail}
use Rattle.ip_lists.proofs.Paths.{path_stays, lacks_start}
use Rattle.ip_lists.proofs.Rewired.{rewired, length_rewired, at_first, at_second, at_others}

-- The place is between two others, by both arrays.
pub record IsBetween (next previous : List ℕ) (a p b : ℕ) : Type 0 where
  pub to_place : slice_get next a ≡ Some p
  pub from_place : slice_get next p ≡ Some b
  pub back_to_place : slice_get previous b ≡ Some p
  pub back_from_place : slice_get previous p ≡ Some a

pub between : (next previous : List ℕ) (a p b : ℕ) → AreNeighbours next previous a p → AreNeighbours next previous p b → IsBetween next previous a p b
between next previous a p b before after = record { to_place = before.0; from_place = after.0; back_to_place = after.1; back_from_place = before.1 }

-- One array agrees with the other one afterwards.
half_linked : (next previous : List ℕ) (a p b : ℕ) → ((s t : ℕ) → slice_get next s ≡ Some t → slice_get previous t ≡ Some s) → IsBetween next previous a p b
    → (s t : ℕ) → slice_get (rewired next a b p p) s ≡ Some t → slice_get (rewired previous b a p p) t ≡ Some s
half_linked next previous a p b back between s t step =
    let own_next : slice_get (rewired next a b p p) p ≡ Some p = at_second next a b p p (slice_get_within next p b between.from_place) in
    let own_previous : slice_get (rewired previous b a p p) p ≡ Some p = at_second previous b a p p (slice_get_within previous p a between.back_from_place) in
    elim (cases_eq s p) [
      | inl own ↦ cc
      | inr other ↦ elim (cases_eq s a) [
        | inl first ↦
            let apart : a ≢ p = λ e. other (cc) in
            let not_alone : b ≢ p = λ e. other (cc) in
            let there : slice_get (rewired next a b p p) a ≡ Some b = at_first next a b p p apart (slice_get_within next a p between.to_place) in
            let back_there : slice_get (rewired previous b a p p) b ≡ Some a = at_first previous b a p p not_alone (slice_get_within previous b p between.back_to_place) in
            cc
        | inr neither ↦
            let old : slice_get next s ≡ Some t = sym (at_others next a b p p s other neither) ∙ step in
            let old_back : slice_get previous t ≡ Some s = back s t old in
            let not_place : t ≢ p = λ e. neither (cc) in
            let not_after : t ≢ b = λ e. other (cc) in
            at_others previous b a p p t not_place not_after ∙ old_back
      ]
    ]

swapped : (next previous : List ℕ) (a p b : ℕ) → IsBetween next previous a p b → IsBetween previous next b p a
swapped next previous a p b between = record {
  to_place = between.back_to_place;
  from_place = between.back_from_place;
  back_to_place = between.to_place;
  back_from_place = between.from_place;
}

pub removed_linked : (next previous : List ℕ) (a p b : ℕ) → AreInverse next previous → IsBetween next previous a p b → AreInverse (rewired next a b p p) (rewired previous b a p p)
removed_linked next previous a p b linked between = record {
  as_many = length_rewired previous b a p p ∙ (linked.as_many ∙ sym (length_rewired next a b p p));
  back = half_linked next previous a p b linked.back between;
  forth = λ s t. half_linked previous next b p a (λ x y. linked.forth y x) (swapped next previous a p b between) t s;
}

-- Each step stays, but for those from the place and to it.
removed_keeps : (next previous : List ℕ) (a p b : ℕ) → AreInverse next previous → IsBetween next previous a p b
    → (s t : ℕ) → s ≢ p → t ≢ p → slice_get next s ≡ Some t → slice_get (rewired next a b p p) s ≡ Some t
removed_keeps next previous a p b linked between s t not_from not_to step =
    let first : s ≢ a = λ e. not_to (cc (between.to_place)) in
    at_others next a b p p s not_from first ∙ step

-- A step to the place and one from it are one step afterwards.
removed_skips : (next previous : List ℕ) (a p b : ℕ) → AreInverse next previous → IsBetween next previous a p b
    → (s t : ℕ) → s ≢ p → slice_get next s ≡ Some p → slice_get next p ≡ Some t → slice_get (rewired next a b p p) s ≡ Some t
removed_skips next previous a p b linked between s t not_from to_place from_place =
    let back : slice_get previous p ≡ Some s = linked.back s p to_place in
    let first : a ≡ s = cc in
    let apart : a ≢ p = λ e. not_from (cc) in
    let there : slice_get (rewired next a b p p) a ≡ Some b = at_first next a b p p apart (slice_get_within next a p between.to_place) in
    cc

-- A path loses the place.
pub path_without : (next previous : List ℕ) (a p b : ℕ) → AreInverse next previous → IsBetween next previous a p b
    → (from end : ℕ) (xs ys : List ℕ) → from ≢ p → end ≢ p → IsPath next from (xs ++ p ∷ ys) end → IsPath (rewired next a b p p) from (xs ++ ys) end
path_without next previous a p b linked between from end [] [] start stop path = removed_skips next previous a p b linked between from end start path.0 path.2
path_without next previous a p b linked between from end [] (y ∷ ys) start stop path =
    let none : Lacks (y ∷ ys) p = lacks_start next p end (y ∷ ys) path.2 in (
      removed_skips next previous a p b linked between from y start path.0 path.2.0,
      path.2.1,
      path_stays next (rewired next a b p p) p p (removed_keeps next previous a p b linked between) y end ys (lacks_head y p ys none) stop (lacks_tail y p ys none) (lacks_tail y p ys none) path.2.2,
    )
path_without next previous a p b linked between from end (x ∷ xs) ys start stop path =
    let none : Lacks (xs ++ p ∷ ys) x = lacks_start next x end (xs ++ p ∷ ys) path.2 in
    let there : Contains (xs ++ p ∷ ys) p = Contains-append_right xs (p ∷ ys) p (0, omega arith, refl) in
    let apart : x ≢ p = λ e. none (let P : ℕ → Type 0 = λ y. Contains (xs ++ p ∷ ys) y in subst P (sym e) there) in (
      removed_keeps next previous a p b linked between from x start apart path.0,
      path.1,
      path_without next previous a p b linked between x end xs ys apart stop path.2,
    )

-- The list of each other head loses the place.
pub list_without : (next previous : List ℕ) (a p b : ℕ) → AreInverse next previous → IsBetween next previous a p b
    → (h : ℕ) (xs ys : List ℕ) → h ≢ p → IsList next h (xs ++ p ∷ ys) → IsList (rewired next a b p p) h (xs ++ ys)
list_without next previous a p b linked between h xs ys other path = path_without next previous a p b linked between h h xs ys other other path

-- A list without the place stays.
pub list_stays : (next previous : List ℕ) (a p b : ℕ) → AreInverse next previous → IsBetween next previous a p b
    → (h : ℕ) (zs : List ℕ) → h ≢ p → Lacks zs p → IsList next h zs → IsList (rewired next a b p p) h zs
list_stays next previous a p b linked between h zs other none path = path_stays next (rewired next a b p p) p p (removed_keeps next previous a p b linked between) h h zs other other none none path

pub removed_alone : (next previous : List ℕ) (a p b : ℕ) → IsBetween next previous a p b → IsAlone (rewired next a b p p) (rewired previous b a p p) p
removed_alone next previous a p b between = (
  at_second next a b p p (slice_get_within next p b between.from_place),
  at_second previous b a p p (slice_get_within previous p a between.back_from_place),
)
