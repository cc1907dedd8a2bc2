-- Fragments among those that were accepted.
use Rattle.ip_reassembly.proofs.Common.{◌≡◌, ℕ, ◌≤◌, ◌<◌, Bool, true, false, not, ◌&&◌, ◌||◌, List, [], ◌∷◌, refl, sym, ap, ◌∙◌, subst, inl, inr, arith, ltb, ltb-true, ltb-false, lt-ltb, cases_lt, and_parts, and_from, and_cases, or_parts, or_from, or_left, or_right, or_cases, false_from_ne_true, both_ways, not-true, not-false, not_from_false, list_any, Fragment, end_of, is_same, overlaps, has_two_ends, reach_of, is_ended, IsSound, AreConsistent}
use Rattle.ip_reassembly.proofs.FragmentLemmas.{same_is, is_same_self, overlaps_at}

-- One of some fragments passes a test that one of them passes.
pub record Passes (p : Fragment → Bool) (fs : List Fragment) : Type 0 where
  pub one : Fragment
  pub among : list_any (is_same one) fs ≡ true
  pub passes : p one ≡ true

pub passing_one : (p : Fragment → Bool) (fs : List Fragment) → list_any p fs ≡ true → Passes p fs
passing_one p [] h = absurd (both_ways false refl h)
passing_one p (f ∷ fs) h = elim (or_cases (p f) (list_any p fs) h) [
  | inl here ↦ record { one = f; among = or_left (is_same f f) (list_any (is_same f) fs) (is_same_self f); passes = here }
  | inr rest ↦ let there = passing_one p fs rest in
      record { one = there.one; among = or_right (is_same there.one f) (list_any (is_same there.one) fs) there.among; passes = there.passes }
]

pub any_from_member : (p : Fragment → Bool) (fs : List Fragment) (f : Fragment) → list_any (is_same f) fs ≡ true → p f ≡ true → list_any p fs ≡ true
any_from_member p [] f among h = absurd (both_ways false refl among)
any_from_member p (g ∷ gs) f among h = elim (or_cases (is_same f g) (list_any (is_same f) gs) among) [
  | inl same ↦ or_left (p g) (list_any p gs) (subst (λ (k : Fragment). p k ≡ true) (same_is f g same) h)
  | inr rest ↦ or_right (p g) (list_any p gs) (any_from_member p gs f rest h)
]

-- A byte that is in two fragments is an overlap.
pub member_overlaps : (gs : List Fragment) (f g : Fragment) (i : ℕ) → list_any (is_same f) gs ≡ true → (f.offset ≤ i) × (i < end_of f) → (g.offset ≤ i) × (i < end_of g) → list_any (overlaps g) gs ≡ true
member_overlaps gs f g i among a b = any_from_member (overlaps g) gs f among (overlaps_at g f i b.0 b.1 a.0 a.1)

pub member_sound : (limit : ℕ) (fs : List Fragment) (f : Fragment) → AreConsistent limit fs → list_any (is_same f) fs ≡ true → IsSound limit f
member_sound limit [] f c among = absurd (both_ways false refl among)
member_sound limit (g ∷ gs) f c among = elim (or_cases (is_same f g) (list_any (is_same f) gs) among) [
  | inl same ↦ subst (λ (k : Fragment). IsSound limit k) (sym (same_is f g same)) c.0
  | inr rest ↦ member_sound limit gs f c.3 rest
]

-- Where f is a last fragment that has no two ends with others, these end at its end or before.
pub ends_before : (fs : List Fragment) (f : Fragment) → list_any (has_two_ends f) fs ≡ false → f.more ≡ false → reach_of fs ≤ end_of f
ends_before [] f none last = omega arith
ends_before (g ∷ gs) f none last =
    let parts = or_parts (has_two_ends f g) (list_any (has_two_ends f) gs) none in
    let firsts = or_parts (not f.more && ltb (end_of f) (end_of g)) (not g.more && ltb (end_of g) (end_of f)) parts.0 in
    let here : end_of g ≤ end_of f = elim (and_cases (not f.more) (ltb (end_of f) (end_of g)) firsts.0) [
      | inl not_last ↦ absurd (both_ways f.more last (not-false f.more not_last))
      | inr low ↦ ltb-false (end_of f) (end_of g) low
    ] in
    omega (arith, here, ends_before gs f parts.1 last)

-- Where others have a last fragment, f ends at its end or before.
pub ends_within : (fs : List Fragment) (f : Fragment) → list_any (has_two_ends f) fs ≡ false → is_ended fs ≡ true → end_of f ≤ reach_of fs
ends_within [] f none ended = absurd (both_ways false refl ended)
ends_within (g ∷ gs) f none ended =
    let parts = or_parts (has_two_ends f g) (list_any (has_two_ends f) gs) none in
    let firsts = or_parts (not f.more && ltb (end_of f) (end_of g)) (not g.more && ltb (end_of g) (end_of f)) parts.0 in
    elim (or_cases (not g.more) (is_ended gs) ended) [
      | inr rest ↦ omega (arith, ends_within gs f parts.1 rest)
      | inl last ↦ elim (and_cases (not g.more) (ltb (end_of g) (end_of f)) firsts.1) [
        | inl not_last ↦ absurd (both_ways (not g.more) not_last last)
        | inr low ↦ omega (arith, ltb-false (end_of g) (end_of f) low)
      ]
    ]

pub member_within : (fs : List Fragment) (f : Fragment) → list_any (is_same f) fs ≡ true → end_of f ≤ reach_of fs
member_within [] f among = absurd (both_ways false refl among)
member_within (g ∷ gs) f among = elim (or_cases (is_same f g) (list_any (is_same f) gs) among) [
  | inl same ↦ let e : end_of f ≡ end_of g = ap end_of (same_is f g same) in omega (arith, e)
  | inr rest ↦ omega (arith, member_within gs f rest)
]

pub member_ended : (fs : List Fragment) (f : Fragment) → list_any (is_same f) fs ≡ true → f.more ≡ false → is_ended fs ≡ true
member_ended [] f among last = absurd (both_ways false refl among)
member_ended (g ∷ gs) f among last = elim (or_cases (is_same f g) (list_any (is_same f) gs) among) [
  | inl same ↦ or_left (not g.more) (is_ended gs) (not_from_false g.more (sym (ap (λ (k : Fragment). k.more) (same_is f g same)) ∙ last))
  | inr rest ↦ or_right (not g.more) (is_ended gs) (member_ended gs f rest last)
]

-- A last fragment ends at the largest end.
pub member_last : (limit : ℕ) (fs : List Fragment) (f : Fragment) → AreConsistent limit fs → list_any (is_same f) fs ≡ true → f.more ≡ false → reach_of fs ≡ end_of f
member_last limit [] f c among last = absurd (both_ways false refl among)
member_last limit (g ∷ gs) f c among last = elim (or_cases (is_same f g) (list_any (is_same f) gs) among) [
  | inl same ↦
      let e : end_of f ≡ end_of g = ap end_of (same_is f g same) in
      let g_last : g.more ≡ false = sym (ap (λ (k : Fragment). k.more) (same_is f g same)) ∙ last in
      omega (arith, e, ends_before gs g c.2 g_last)
  | inr rest ↦ omega (arith, member_last limit gs f c.3 rest last, ends_within gs g c.2 (member_ended gs f rest last))
]

-- Two ends are found by the largest end.
ended_earlier : (fs : List Fragment) (f : Fragment) → is_ended fs ≡ true → reach_of fs < end_of f → list_any (has_two_ends f) fs ≡ true
ended_earlier [] f ended after = absurd (both_ways false refl ended)
ended_earlier (g ∷ gs) f ended after = elim (or_cases (not g.more) (is_ended gs) ended) [
  | inl last ↦ or_left (has_two_ends f g) (list_any (has_two_ends f) gs)
      (or_right (not f.more && ltb (end_of f) (end_of g)) (not g.more && ltb (end_of g) (end_of f))
      (and_from (not g.more) (ltb (end_of g) (end_of f)) last (lt-ltb (end_of g) (end_of f) (omega (arith, after)))))
  | inr rest ↦ or_right (has_two_ends f g) (list_any (has_two_ends f) gs) (ended_earlier gs f rest (omega (arith, after)))
]

ended_later : (fs : List Fragment) (f : Fragment) → not f.more ≡ true → end_of f < reach_of fs → list_any (has_two_ends f) fs ≡ true
ended_later [] f last before = absurd (let h : ⊥ = omega (arith, before) in h)
ended_later (g ∷ gs) f last before = elim (cases_lt (end_of f) (end_of g)) [
  | inl here ↦ or_left (has_two_ends f g) (list_any (has_two_ends f) gs)
      (or_left (not f.more && ltb (end_of f) (end_of g)) (not g.more && ltb (end_of g) (end_of f))
      (and_from (not f.more) (ltb (end_of f) (end_of g)) last (lt-ltb (end_of f) (end_of g) here)))
  | inr elsewhere ↦ or_right (has_two_ends f g) (list_any (has_two_ends f) gs) (ended_later gs f last (omega (arith, before, elsewhere)))
]

-- the test of the code
abbrev pub ends_elsewhere : List Fragment → Fragment → Bool
ends_elsewhere fs f = (is_ended fs && ltb (reach_of fs) (end_of f)) || (not f.more && ltb (end_of f) (reach_of fs))

pub two_ends_from : (fs : List Fragment) (f : Fragment) → ends_elsewhere fs f ≡ true → list_any (has_two_ends f) fs ≡ true
two_ends_from fs f h = elim (or_cases (is_ended fs && ltb (reach_of fs) (end_of f)) (not f.more && ltb (end_of f) (reach_of fs)) h) [
  | inl earlier ↦ let parts = and_parts (is_ended fs) (ltb (reach_of fs) (end_of f)) earlier in ended_earlier fs f parts.0 (ltb-true (reach_of fs) (end_of f) parts.1)
  | inr later ↦ let parts = and_parts (not f.more) (ltb (end_of f) (reach_of fs)) later in ended_later fs f parts.0 (ltb-true (end_of f) (reach_of fs) parts.1)
]

pub one_end_from : (limit : ℕ) (fs : List Fragment) (f : Fragment) → AreConsistent limit fs → ends_elsewhere fs f ≡ false → list_any (has_two_ends f) fs ≡ false
one_end_from limit fs f c h = false_from_ne_true (list_any (has_two_ends f) fs) (λ e.
    let parts = or_parts (is_ended fs && ltb (reach_of fs) (end_of f)) (not f.more && ltb (end_of f) (reach_of fs)) h in
    let found = passing_one (has_two_ends f) fs e in
    let g = found.one in
    elim (or_cases (not f.more && ltb (end_of f) (end_of g)) (not g.more && ltb (end_of g) (end_of f)) found.passes) [
      | inl f_last ↦
          let a = and_parts (not f.more) (ltb (end_of f) (end_of g)) f_last in
          both_ways (not f.more && ltb (end_of f) (reach_of fs)) parts.1
          (and_from (not f.more) (ltb (end_of f) (reach_of fs)) a.0 (lt-ltb (end_of f) (reach_of fs) (omega (arith, ltb-true (end_of f) (end_of g) a.1, member_within fs g found.among))))
      | inr g_last ↦
          let a = and_parts (not g.more) (ltb (end_of g) (end_of f)) g_last in
          both_ways (is_ended fs && ltb (reach_of fs) (end_of f)) parts.0
          (and_from (is_ended fs) (ltb (reach_of fs) (end_of f)) (member_ended fs g found.among (not-true g.more a.0))
          (lt-ltb (reach_of fs) (end_of f) (omega (arith, ltb-true (end_of g) (end_of f) a.1, member_last limit fs g c found.among (not-true g.more a.0)))))
    ])

-- A fragment that is there has no two ends with others.
pub member_one_end : (limit : ℕ) (fs : List Fragment) (f : Fragment) → AreConsistent limit fs → list_any (is_same f) fs ≡ true → list_any (has_two_ends f) fs ≡ false
member_one_end limit fs f c among = one_end_from limit fs f c
    (or_from (is_ended fs && ltb (reach_of fs) (end_of f)) (not f.more && ltb (end_of f) (reach_of fs))
    (false_from_ne_true (is_ended fs && ltb (reach_of fs) (end_of f)) (λ e. let a = and_parts (is_ended fs) (ltb (reach_of fs) (end_of f)) e in omega (arith, ltb-true (reach_of fs) (end_of f) a.1, member_within fs f among)))
    (false_from_ne_true (not f.more && ltb (end_of f) (reach_of fs)) (λ e. let a = and_parts (not f.more) (ltb (end_of f) (reach_of fs)) e in omega (arith, ltb-true (end_of f) (reach_of fs) a.1, member_last limit fs f c among (not-true f.more a.0)))))
