-- The first element of a list that passes a test, and the parts before and after it, for joined lists.
use Rattle.ip_spec.proofs.Common.{◌≡◌, ℕ, ◌+◌, ◌≤◌, List, [], ◌∷◌, ◌++◌, map, refl, ap, sym, ◌∙◌, arith, inl, inr, Bool, true, false, rules, count_by, Some, is_some, position_or_len, find, before_first, after_first, option_map, option_map_or, list_any, ◌&&◌, cases_Bool, take-append-drop, sum_by-append, common_steps}

module _ {X : Type 0} (t : X → Bool) where
  module _ (x : X) (xs : List X) where
    pub before-no : t x ≡ false → before_first t (x ∷ xs) ≡ x ∷ before_first t xs
    before-no e = search rules

  pub count_yes : (x : X) (xs : List X) → t x ≡ true → count_by t (x ∷ xs) ≡ 1 + count_by t xs
  count_yes x xs e = grind (arith, common_steps)

  -- If none passes, the elements that follow keep their side of the first that does.
  pub before-none : (xs ys : List X) → count_by t xs ≡ 0 → before_first t (xs ++ ys) ≡ xs ++ before_first t ys
  before-none [] ys e = refl
  before-none (x ∷ xs) ys e = search (rules, cases_Bool (t x), count_yes, before-no, before-none xs ys)

  pub after-none : (xs ys : List X) → count_by t xs ≡ 0 → after_first t (xs ++ ys) ≡ after_first t ys
  after-none [] ys e = refl
  after-none (x ∷ xs) ys e = grind (arith, common_steps, after-none xs ys)

  -- If one does, the elements that follow are after it.
  pub before-some : (xs ys : List X) → 1 ≤ count_by t xs → before_first t (xs ++ ys) ≡ before_first t xs
  before-some [] ys l = absurd (omega arith)
  before-some (x ∷ xs) ys l = grind (arith, common_steps, before-no, before-some xs ys)

  pub after-some : (xs ys : List X) → 1 ≤ count_by t xs → after_first t (xs ++ ys) ≡ after_first t xs ++ ys
  after-some [] ys l = absurd (omega arith)
  after-some (x ∷ xs) ys l = grind (arith, common_steps, after-some xs ys)

  -- of a single element
  pub after_one : (x : X) → after_first t (x ∷ []) ≡ []
  after_one x = search rules

  -- The first that passes exists if the count is not 0, and one more follows it if the count is more.
  pub counted : (xs : List X) → is_some (find t xs) ≡ true → 1 ≤ count_by t xs
  counted [] e = absurd (cc)
  counted (x ∷ xs) e = grind (arith, common_steps, counted xs)

  pub none_counted : (xs : List X) → is_some (find t xs) ≡ false → count_by t xs ≡ 0
  none_counted [] e = refl
  none_counted (x ∷ xs) e = grind (arith, common_steps, none_counted xs)

  pub find_passes : (xs : List X) (x : X) → find t xs ≡ Some x → t x ≡ true
  find_passes [] x e = absurd (cc)
  find_passes (y ∷ ys) x e = grind (arith, common_steps, find_passes ys x)

-- Of elements of which at most one passes a test, the first that does is the only one that can pass another, too.
module _ {X : Type 0} (t q : X → Bool) where
  none_both : (xs : List X) → count_by t xs ≡ 0 → list_any (λ x. t x && q x) xs ≡ false
  none_both [] e = refl
  none_both (x ∷ xs) e = grind (arith, common_steps, none_both xs)

  pub only_both : (xs : List X) → count_by t xs ≤ 1 → list_any (λ x. t x && q x) xs ≡ option_map_or q (find t xs) false
  only_both [] l = refl
  only_both (x ∷ xs) l = grind (arith, common_steps, none_both xs, only_both xs)

-- On neither side do more elements pass a test than in the whole list.
module _ {X : Type 0} (t u : X → Bool) (xs : List X) where
  pub count_before : count_by t (before_first u xs) ≤ count_by t xs
  count_before = grind (arith, common_steps, take-append-drop, sum_by-append)

  pub count_after : count_by t (after_first u xs) ≤ count_by t xs
  count_after = let k : ℕ = position_or_len u xs + 1 in omega (arith, sum_by-append, ap (count_by t) (take-append-drop k xs))

-- Lists of images: the parts before and after the first image that passes.
module _ {X Y : Type 0} (f : X → Y) (t : Y → Bool) where
  pub before-map : (xs : List X) → map f (before_first (λ x. t (f x)) xs) ≡ before_first t (map f xs)
  before-map [] = refl
  before-map (x ∷ xs) = elim (cases_Bool (t (f x))) [
    | inl w ↦ search rules
    | inr w ↦ ap (map f) (before-no (λ x. t (f x)) x xs w) ∙ ap (λ l. f x ∷ l) (before-map xs) ∙ sym (before-no t (f x) (map f xs) w)
  ]

  pub after-map : (xs : List X) → map f (after_first (λ x. t (f x)) xs) ≡ after_first t (map f xs)
  after-map [] = refl
  after-map (x ∷ xs) = grind (arith, common_steps, after-map xs)

  pub find-map : (xs : List X) → find t (map f xs) ≡ option_map f (find (λ x. t (f x)) xs)
  find-map [] = refl
  find-map (x ∷ xs) = grind (arith, common_steps, find-map xs)
