-- One more header: whether it is kept, and what a selection then says.
use Rattle.ip_spec.proofs.Common.{◌≡◌, ℕ, ◌+◌, ◌≤◌, ◌<◌, ◌^◌, List, [], ◌∷◌, ◌++◌, length, refl, sym, ◌∙◌, ap, arith, and-true, Bool, true, false, false≢true, ◌||◌, ◌&&◌, not, or-false, or_assoc, cases_Bool, inl, inr, cond-true, cond-false, if◌then◌else◌, length-append, list_any, ExtHeader, bytes_of}
use Rattle.std.proofs.lemmas.List.Folds.{list_any-append}
use Rattle.ip_dissect.specs.Fragment.{fragments}
use Rattle.ip_rewrite.specs.Selection.{selects, kept_from, kept, any_selected, selects_fragmented}
use Rattle.ip_rewrite.specs.Without.{is_authentication, has_segments, is_covered, selects_covered}
use Rattle.ip_rewrite.specs.Writing.{facts_of, selection_after, selection_with}
use Rattle.ip_rewrite.specs.declared.which.Which.{Which}
use Rattle.ip_rewrite.specs.declared.selection.Selection.{Selection}
use Rattle.ip_rewrite.proofs.FrontLemmas.{more_len}

-- The header h with the index j comes after the headers c, of which the first has the index i.
pub left_out : (w : Which) (i j : ℕ) (c : List ExtHeader) (h : ExtHeader) → j ≡ i + length c → selects w j h ≡ true → kept_from w i (c ++ h ∷ []) ≡ kept_from w i c
left_out w i j [] h at s = let e : j ≡ i = omega arith in cond-true (selects w i h) [] (h ∷ []) (ap (λ k. selects w k h) (sym e) ∙ s)
left_out w i j (g ∷ c) h at s =
    let e : j ≡ i + 1 + length c = omega arith in
    ap (λ x. if selects w i g then x else g ∷ x) (left_out w (i + 1) j c h e s)

pub left_in : (w : Which) (i j : ℕ) (c : List ExtHeader) (h : ExtHeader) → j ≡ i + length c → selects w j h ≡ false → kept_from w i (c ++ h ∷ []) ≡ kept_from w i c ++ h ∷ []
left_in w i j [] h at s = let e : j ≡ i = omega arith in cond-false (selects w i h) [] (h ∷ []) (ap (λ k. selects w k h) (sym e) ∙ s)
left_in w i j (g ∷ c) h at s =
    let e : j ≡ i + 1 + length c = omega arith in
    ap (λ x. if selects w i g then x else g ∷ x) (left_in w (i + 1) j c h e s) ∙ inside (selects w i g) (kept_from w (i + 1) c)
  where
    inside : (b : Bool) (x : List ExtHeader) → (if b then x ++ h ∷ [] else g ∷ (x ++ h ∷ [])) ≡ (if b then x else g ∷ x) ++ h ∷ []
    inside true x = refl
    inside false x = refl

any_more : (t : ExtHeader → Bool) (w : Which) (i j : ℕ) (c : List ExtHeader) (h : ExtHeader) → j ≡ i + length c → any_selected t w i (c ++ h ∷ []) ≡ (any_selected t w i c || selects w j h && t h)
any_more t w i j [] h at = let e : j ≡ i = omega arith in or-false (selects w i h && t h) ∙ ap (λ k. selects w k h && t h) (sym e)
any_more t w i j (g ∷ c) h at =
    let e : j ≡ i + 1 + length c = omega arith in
    ap (λ x. selects w i g && t g || x) (any_more t w (i + 1) j c h e) ∙ sym (or_assoc (selects w i g && t g) (any_selected t w (i + 1) c) (selects w j h && t h))

fragmented_more : (w : Which) (i j : ℕ) (after : Bool) (c : List ExtHeader) (h : ExtHeader) → j ≡ i + length c → selects_fragmented w i after (c ++ h ∷ []) ≡ (selects_fragmented w i after c || (after || list_any fragments c) && selects w j h)
fragmented_more w i j after [] h at =
    let e : j ≡ i = omega arith in
    or-false (after && selects w i h) ∙ (ap (λ k. after && selects w k h) (sym e) ∙ ap (λ b. b && selects w j h) (sym (or-false after)))
fragmented_more w i j after (g ∷ c) h at =
    let e : j ≡ i + 1 + length c = omega arith in
    let mine : Bool = after && selects w i g in
    let later : Bool = selects_fragmented w (i + 1) (after || fragments g) c in
    ap (λ x. mine || x) (fragmented_more w (i + 1) j (after || fragments g) c h e)
    ∙ (sym (or_assoc mine later (((after || fragments g) || list_any fragments c) && selects w j h))
    ∙ ap (λ b. (mine || later) || b && selects w j h) (or_assoc after (fragments g) (list_any fragments c)))

covered_more : (w : Which) (i j : ℕ) (after : Bool) (c : List ExtHeader) (h : ExtHeader) → j ≡ i + length c → selects_covered w i after (c ++ h ∷ []) ≡ (selects_covered w i after c || selects w j h && is_covered (after || list_any is_authentication c) h)
covered_more w i j after [] h at =
    let e : j ≡ i = omega arith in
    or-false (selects w i h && is_covered after h) ∙ (ap (λ k. selects w k h && is_covered after h) (sym e) ∙ ap (λ b. selects w j h && is_covered b h) (sym (or-false after)))
covered_more w i j after (g ∷ c) h at =
    let e : j ≡ i + 1 + length c = omega arith in
    let mine : Bool = selects w i g && is_covered after g in
    let later : Bool = selects_covered w (i + 1) (after || is_authentication g) c in
    ap (λ x. mine || x) (covered_more w (i + 1) j (after || is_authentication g) c h e)
    ∙ (sym (or_assoc mine later (selects w j h && is_covered ((after || is_authentication g) || list_any is_authentication c) h))
    ∙ ap (λ b. (mine || later) || selects w j h && is_covered b h) (or_assoc after (is_authentication g) (list_any is_authentication c)))

pub any_last : (t : ExtHeader → Bool) (c : List ExtHeader) (h : ExtHeader) → list_any t (c ++ h ∷ []) ≡ (list_any t c || t h)
any_last t c h = list_any-append t c (h ∷ []) ∙ ap (λ x. list_any t c || x) (or-false (t h))

kept_any : (t : ExtHeader → Bool) (w : Which) (j : ℕ) (c : List ExtHeader) (h : ExtHeader) → j ≡ 0 + length c → list_any t (kept w (c ++ h ∷ [])) ≡ (list_any t (kept w c) || not (selects w j h) && t h)
kept_any t w j c h at = elim (cases_Bool (selects w j h)) [
  | inl s ↦ ap (list_any t) (left_out w 0 j c h at s) ∙ (sym (or-false (list_any t (kept w c))) ∙ ap (λ b. list_any t (kept w c) || not b && t h) (sym s))
  | inr s ↦ ap (list_any t) (left_in w 0 j c h at s) ∙ (any_last t (kept w c) h ∙ ap (λ b. list_any t (kept w c) || not b && t h) (sym s))
]

kept_size : (w : Which) (j k : ℕ) (c : List ExtHeader) (h : ExtHeader) → j ≡ 0 + length c
    → (if selects w j h then k + length (bytes_of (kept w c)) else k + length (bytes_of (kept w c)) + length h.bytes) ≡ k + length (bytes_of (kept w (c ++ h ∷ [])))
kept_size w j k c h at =
    let n : ℕ = k + length (bytes_of (kept w c)) in
    elim (cases_Bool (selects w j h)) [
      | inl s ↦ cond-true (selects w j h) n (n + length h.bytes) s ∙ ap (λ d. k + length (bytes_of d)) (sym (left_out w 0 j c h at s))
      | inr s ↦ cond-false (selects w j h) n (n + length h.bytes) s ∙ omega (arith, ap (λ d. length (bytes_of d)) (left_in w 0 j c h at s), more_len (kept w c) h)
    ]

pub joined_or : (a b x y : Bool) → y ≡ (b || x) → ((a || b) || x) ≡ (a || y)
joined_or a b x y e = or_assoc a b x ∙ ap (λ z. a || z) (sym e)

-- a flag that is joined with that of one more header
pub more_or : (old now result fresh x any all : Bool) → now ≡ (old || any) → fresh ≡ x → result ≡ (now || fresh) → all ≡ (any || x) → result ≡ (old || all)
more_or old now result fresh x any all before is sum whole = sum ∙ (ap (λ z. z || fresh) before ∙ (ap (λ z. (old || any) || z) is ∙ joined_or old any x all whole))

pub same_selection : (v u : Selection) → v.which ≡ u.which → v.selects ≡ u.selects → v.selects_fragmenting ≡ u.selects_fragmenting → v.selects_fragmented ≡ u.selects_fragmented → v.selects_covered ≡ u.selects_covered → v.selects_segments ≡ u.selects_segments
    → v.is_fragmented ≡ u.is_fragmented → v.has_authentication ≡ u.has_authentication → v.keeps_authentication ≡ u.keeps_authentication → v.kept_len ≡ u.kept_len → v ≡ u
same_selection v u a b d e f g h i j k = rw (a, b, d, e, f, g, h, i, j, k) refl

pub selection_more : (v : Selection) (c : List ExtHeader) (h : ExtHeader) → selection_with (selection_after v c) (facts_of v.which (length c) h) ≡ selection_after v (c ++ h ∷ [])
selection_more v c h =
    let w : Which = v.which in
    let j : ℕ = length c in
    let at : j ≡ 0 + j = omega arith in
    same_selection (selection_with (selection_after v c) (facts_of w j h)) (selection_after v (c ++ h ∷ [])) refl
    (joined_or v.selects (any_selected (λ k. true) w 0 c) (selects w j h) (any_selected (λ k. true) w 0 (c ++ h ∷ [])) (any_more (λ k. true) w 0 j c h at ∙ ap (λ b. any_selected (λ k. true) w 0 c || b) (and-true (selects w j h))))
    (joined_or v.selects_fragmenting (any_selected fragments w 0 c) (selects w j h && fragments h) (any_selected fragments w 0 (c ++ h ∷ [])) (any_more fragments w 0 j c h at))
    (joined_or v.selects_fragmented (selects_fragmented w 0 v.is_fragmented c) ((v.is_fragmented || list_any fragments c) && selects w j h) (selects_fragmented w 0 v.is_fragmented (c ++ h ∷ [])) (fragmented_more w 0 j v.is_fragmented c h at))
    (joined_or v.selects_covered (selects_covered w 0 v.has_authentication c) (selects w j h && is_covered (v.has_authentication || list_any is_authentication c) h) (selects_covered w 0 v.has_authentication (c ++ h ∷ [])) (covered_more w 0 j v.has_authentication c h at))
    (joined_or v.selects_segments (any_selected has_segments w 0 c) (selects w j h && has_segments h) (any_selected has_segments w 0 (c ++ h ∷ [])) (any_more has_segments w 0 j c h at))
    (joined_or v.is_fragmented (list_any fragments c) (fragments h) (list_any fragments (c ++ h ∷ [])) (any_last fragments c h))
    (joined_or v.has_authentication (list_any is_authentication c) (is_authentication h) (list_any is_authentication (c ++ h ∷ [])) (any_last is_authentication c h))
    (joined_or v.keeps_authentication (list_any is_authentication (kept w c)) (not (selects w j h) && is_authentication h) (list_any is_authentication (kept w (c ++ h ∷ []))) (kept_any is_authentication w j c h at))
    (kept_size w j v.kept_len c h at)

-- Of headers of which none is selected, all are kept.
pub or_none : (a b : Bool) → (a || b) ≡ false → (a ≡ false) × (b ≡ false)
or_none true b e = absurd (false≢true (sym e))
or_none false b e = (refl, e)

none_here : (s x : Bool) → (s && true || x) ≡ false → (s ≡ false) × (x ≡ false)
none_here true x e = absurd (false≢true (sym e))
none_here false x e = (refl, e)

pub all_stay : (w : Which) (i : ℕ) (c : List ExtHeader) → any_selected (λ h. true) w i c ≡ false → kept_from w i c ≡ c
all_stay w i [] e = refl
all_stay w i (h ∷ c) e =
    let parts = none_here (selects w i h) (any_selected (λ h. true) w (i + 1) c) e in
    cond-false (selects w i h) (kept_from w (i + 1) c) (h ∷ kept_from w (i + 1) c) parts.0 ∙ ap (λ d. h ∷ d) (all_stay w (i + 1) c parts.1)

pub none_passes : (t : ExtHeader → Bool) (w : Which) (i : ℕ) (c : List ExtHeader) → any_selected (λ h. true) w i c ≡ false → any_selected t w i c ≡ false
none_passes t w i [] e = refl
none_passes t w i (h ∷ c) e =
    let parts = none_here (selects w i h) (any_selected (λ h. true) w (i + 1) c) e in
    ap (λ b. b && t h || any_selected t w (i + 1) c) parts.0 ∙ none_passes t w (i + 1) c parts.1

-- what is kept is no longer than all
pub kept_less : (w : Which) (i : ℕ) (c : List ExtHeader) → length (bytes_of (kept_from w i c)) ≤ length (bytes_of c)
kept_less w i [] = omega arith
kept_less w i (h ∷ c) = elim (cases_Bool (selects w i h)) [
  | inl s ↦ omega (arith, kept_less w (i + 1) c, length-append h.bytes (bytes_of c), ap (λ d. length (bytes_of d)) (cond-true (selects w i h) (kept_from w (i + 1) c) (h ∷ kept_from w (i + 1) c) s))
  | inr s ↦ omega (arith, kept_less w (i + 1) c, length-append h.bytes (bytes_of c), length-append h.bytes (bytes_of (kept_from w (i + 1) c)), ap (λ d. length (bytes_of d)) (cond-false (selects w i h) (kept_from w (i + 1) c) (h ∷ kept_from w (i + 1) c) s))
]

pub selection_fits : (v : Selection) (c : List ExtHeader) (h : ExtHeader) → v.kept_len + length (bytes_of (c ++ h ∷ [])) < 2 ^ 64 → (selection_after v c).kept_len + length h.bytes < 2 ^ 64
selection_fits v c h fits = omega (arith, kept_less v.which 0 c, more_len c h)
