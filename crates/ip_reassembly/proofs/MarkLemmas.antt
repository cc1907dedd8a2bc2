-- The marks of units of 8 bytes.
use Rattle.ip_reassembly.proofs.Common.{◌≡◌, ℕ, zero, suc, reach_of, ◌+◌, ◌-◌, ◌*◌, ◌/◌, ◌%◌, ◌≤◌, ◌<◌, max, min, Bool, true, false, List, [], ◌∷◌, length, get_or, refl, sym, ap, ◌∙◌, subst, inl, inr, arith, cond-true, cond-false, eqb, eq-eqb, ne_eqb, cases_eq, cases_lt, cases_Bool, or_parts, or_from, or_left, or_right, or_cases, false_from_ne_true, both_ways, list_any, Fragment, end_of, is_in, is_same, overlaps, first_mark, mark_in, mark_at, AreConsistent}
use Rattle.std.specs.Prelude.{All, slice_range}
use Rattle.std.specs.List.{fold}
use Rattle.std.proofs.lemmas.List.{get_or_default}
use Rattle.std.proofs.lemmas.List.Edits.{get_or-between, length-between}
use Rattle.ip_reassembly.proofs.FragmentLemmas.{same_is, in_bounds, is_in_bounds, overlaps_at, overlap_bounds, is_same_self}
use Rattle.ip_reassembly.proofs.MemberLemmas.{member_overlaps, member_sound}

-- The mark of a unit in a fragment is that of a first or of a later unit.
pub first_mark_in : (f : Fragment) (i : ℕ) → 8 * i ≡ f.offset → mark_in f i ≡ first_mark f.more
first_mark_in f i e = cond-true (eqb (8 * i) f.offset) (first_mark f.more) 3 (eq-eqb (8 * i) f.offset e)

pub later_mark_in : (f : Fragment) (i : ℕ) → (8 * i ≡ f.offset → ⊥) → mark_in f i ≡ 3
later_mark_in f i n = cond-false (eqb (8 * i) f.offset) (first_mark f.more) 3 (ne_eqb (8 * i) f.offset n)

pub first_mark_bounds : (more : Bool) → (0 < first_mark more) × (first_mark more < 3)
first_mark_bounds true = (omega arith, omega arith)
first_mark_bounds false = (omega arith, omega arith)

pub first_mark_injective : (a b : Bool) → first_mark a ≡ first_mark b → a ≡ b
first_mark_injective true true e = refl
first_mark_injective true false e = absurd (let h : ⊥ = omega (arith, e) in h)
first_mark_injective false true e = absurd (let h : ⊥ = omega (arith, e) in h)
first_mark_injective false false e = refl

pub mark_in_positive : (f : Fragment) (i : ℕ) → 0 < mark_in f i
mark_in_positive f i = elim (cases_eq (8 * i) f.offset) [
  | inl e ↦ let m : mark_in f i ≡ first_mark f.more = first_mark_in f i e in omega (arith, m, (first_mark_bounds f.more).0)
  | inr n ↦ let m : mark_in f i ≡ 3 = later_mark_in f i n in omega (arith, m)
]

-- A unit whose first byte is in a fragment has its mark, and every other unit has that of the other fragments.
pub mark_at_in : (f : Fragment) (fs : List Fragment) (i : ℕ) → is_in f (8 * i) ≡ true → mark_at (f ∷ fs) i ≡ mark_in f i
mark_at_in f fs i h = cond-true (is_in f (8 * i)) (mark_in f i) (mark_at fs i) h

pub mark_at_out : (f : Fragment) (fs : List Fragment) (i : ℕ) → is_in f (8 * i) ≡ false → mark_at (f ∷ fs) i ≡ mark_at fs i
mark_at_out f fs i h = cond-false (is_in f (8 * i)) (mark_in f i) (mark_at fs i) h

-- Units without marks are in no fragment.
pub none_overlaps : (limit : ℕ) (fs : List Fragment) (f : Fragment) → AreConsistent limit fs → f.offset % 8 ≡ 0 → ((i : ℕ) → f.offset ≤ 8 * i → 8 * i < end_of f → mark_at fs i ≡ 0) → list_any (overlaps f) fs ≡ false
none_overlaps limit [] f c o free = refl
none_overlaps limit (g ∷ gs) f c o free =
    or_from (overlaps f g) (list_any (overlaps f) gs)
    (false_from_ne_true (overlaps f g) (λ e.
    let b : max f.offset g.offset < min (end_of f) (end_of g) = overlap_bounds f g e in
    let i = max f.offset g.offset / 8 in
    let at : 8 * i ≡ max f.offset g.offset = omega (arith, o, c.0.offset) in
    let inside : is_in g (8 * i) ≡ true = is_in_bounds g (8 * i) (omega (arith, at)) (omega (arith, at, b)) in
    let unmarked : mark_at (g ∷ gs) i ≡ 0 = free i (omega (arith, at)) (omega (arith, at, b)) in
    let marked : mark_at (g ∷ gs) i ≡ mark_in g i = mark_at_in g gs i inside in
    omega (arith, unmarked, marked, mark_in_positive g i)))
    (none_overlaps limit gs f c.3 o (λ i low high.
    let unmarked : mark_at (g ∷ gs) i ≡ 0 = free i low high in
    elim (cases_Bool (is_in g (8 * i))) as (λ _. mark_at gs i ≡ 0) [
      | inl inside ↦ absurd (let marked : mark_at (g ∷ gs) i ≡ mark_in g i = mark_at_in g gs i inside in let h : ⊥ = omega (arith, unmarked, marked, mark_in_positive g i) in h)
      | inr outside ↦ sym (mark_at_out g gs i outside) ∙ unmarked
    ]))

-- Units of a fragment that overlaps no other have no marks.
pub unmarked : (fs : List Fragment) (f : Fragment) (i : ℕ) → list_any (overlaps f) fs ≡ false → f.offset ≤ 8 * i → 8 * i < end_of f → mark_at fs i ≡ 0
unmarked [] f i n low high = refl
unmarked (g ∷ gs) f i n low high =
    let parts = or_parts (overlaps f g) (list_any (overlaps f) gs) n in
    elim (cases_Bool (is_in g (8 * i))) as (λ _. mark_at (g ∷ gs) i ≡ 0) [
      | inl inside ↦ absurd (both_ways (overlaps f g) parts.0 (overlaps_at f g (8 * i) low high (in_bounds g (8 * i) inside).0 (in_bounds g (8 * i) inside).1))
      | inr outside ↦ mark_at_out g gs i outside ∙ unmarked gs f i parts.1 low high
    ]

-- Where a later unit is marked, the fragment has the unit before it, too.
later_overlaps : (limit : ℕ) (gs : List Fragment) (f : Fragment) (i : ℕ) → AreConsistent limit gs → mark_at gs (i + 1) ≡ 3 → f.offset ≤ 8 * i → 8 * i < end_of f → list_any (overlaps f) gs ≡ true
later_overlaps limit [] f i c m low high = absurd (let h : ⊥ = omega (arith, m) in h)
later_overlaps limit (g ∷ gs) f i c m low high = elim (cases_Bool (is_in g (8 * (i + 1)))) [
  | inl inside ↦ or_left (overlaps f g) (list_any (overlaps f) gs)
      (let within = in_bounds g (8 * (i + 1)) inside in
      let marked : mark_in g (i + 1) ≡ 3 = sym (mark_at_in g gs (i + 1) inside) ∙ m in
      let not_first : 8 * (i + 1) ≡ g.offset → ⊥ = (λ e. let first : mark_in g (i + 1) ≡ first_mark g.more = first_mark_in g (i + 1) e in omega (arith, first, marked, (first_mark_bounds g.more).1)) in
      elim (cases_eq (8 * (i + 1)) g.offset) [
        | inl e ↦ absurd (not_first e)
        | inr n ↦ overlaps_at f g (8 * i) low high (omega (arith, within.0, c.0.offset, n)) (omega (arith, within.1))
      ])
  | inr outside ↦ or_right (overlaps f g) (list_any (overlaps f) gs) (later_overlaps limit gs f i c.3 (sym (mark_at_out g gs (i + 1) outside) ∙ m) low high)
]

-- f is among the fragments, up to its bytes and the length of its last unit.
pub record HasShape (fs : List Fragment) (f : Fragment) : Type 0 where
  pub other : Fragment
  pub among : list_any (is_same other) fs ≡ true
  pub offset : other.offset ≡ f.offset
  pub more : other.more ≡ f.more
  pub units : (end_of other + 7) / 8 ≡ (end_of f + 7) / 8

-- The marks of f are there, and its last unit is the last one of a fragment.
pub record IsMarked (fs : List Fragment) (f : Fragment) : Type 0 where
  pub marks : (i : ℕ) → f.offset ≤ 8 * i → 8 * i < end_of f → mark_at fs i ≡ mark_in f i
  pub ends : mark_at fs ((end_of f + 7) / 8) ≡ 3 → ⊥

-- A fragment that starts where f does has its flag, and its units.
starts_with_shape : (limit : ℕ) (g : Fragment) (gs : List Fragment) (f : Fragment) (a : ℕ) → 8 * a ≡ f.offset → AreConsistent limit (g ∷ gs) → 0 < length f.bytes → IsMarked (g ∷ gs) f → is_in g (8 * a) ≡ true → HasShape (g ∷ gs) f
starts_with_shape limit g gs f a at c positive m inside =
    let within = in_bounds g (8 * a) inside in
    let marked : mark_in g a ≡ mark_in f a = sym (mark_at_in g gs a inside) ∙ m.marks a (omega (arith, at)) (omega (arith, at, positive)) in
    let first : mark_in f a ≡ first_mark f.more = first_mark_in f a at in
    let starts : 8 * a ≡ g.offset = elim (cases_eq (8 * a) g.offset) [
      | inl e ↦ e
      | inr n ↦ absurd (let later : mark_in g a ≡ 3 = later_mark_in g a n in let h : ⊥ = omega (arith, later, marked, first, (first_mark_bounds f.more).1) in h)
    ] in
    let flags : g.more ≡ f.more = first_mark_injective g.more f.more (sym (first_mark_in g a starts) ∙ (marked ∙ first)) in
    let not_shorter : (end_of f + 7) / 8 ≤ (end_of g + 7) / 8 = elim (cases_lt ((end_of g + 7) / 8) ((end_of f + 7) / 8)) [
      | inr le ↦ le
      | inl lt ↦ absurd (
          let i = (end_of g + 7) / 8 - 1 in
          let next : i + 1 ≡ (end_of g + 7) / 8 = omega (arith, within.1) in
          let later : mark_in f (i + 1) ≡ 3 = later_mark_in f (i + 1) (λ e. omega (arith, e, at, next, within.1)) in
          let outside : is_in g (8 * (i + 1)) ≡ false = false_from_ne_true (is_in g (8 * (i + 1))) (λ e. let b = in_bounds g (8 * (i + 1)) e in omega (arith, b.1, next)) in
          let tail : mark_at gs (i + 1) ≡ 3 = sym (mark_at_out g gs (i + 1) outside) ∙ (m.marks (i + 1) (omega (arith, at, next, within.1)) (omega (arith, lt, next)) ∙ later) in
          both_ways (list_any (overlaps g) gs) c.1 (later_overlaps limit gs g i c.3 tail (omega (arith, next, starts, within.1)) (omega (arith, next))))
    ] in
    let not_longer : (end_of g + 7) / 8 ≤ (end_of f + 7) / 8 = elim (cases_lt ((end_of f + 7) / 8) ((end_of g + 7) / 8)) [
      | inr le ↦ le
      | inl lt ↦ absurd (
          let i = (end_of f + 7) / 8 in
          let later : mark_in g i ≡ 3 = later_mark_in g i (λ e. omega (arith, e, at, starts, positive)) in
          let within_g : is_in g (8 * i) ≡ true = is_in_bounds g (8 * i) (omega (arith, at, starts, positive)) (omega (arith, lt)) in
          m.ends (mark_at_in g gs i within_g ∙ later))
    ] in
    record {
      other = g;
      among = or_left (is_same g g) (list_any (is_same g) gs) (is_same_self g);
      offset = sym starts ∙ at;
      more = flags;
      units = omega (arith, not_shorter, not_longer);
    }

-- Where no fragment starts, the others have the marks.
marked_in_others : (limit : ℕ) (g : Fragment) (gs : List Fragment) (f : Fragment) (a : ℕ) → 8 * a ≡ f.offset → AreConsistent limit (g ∷ gs) → 0 < length f.bytes → IsMarked (g ∷ gs) f → is_in g (8 * a) ≡ false → IsMarked gs f
marked_in_others limit g gs f a at c positive m outside =
    record {
      marks = λ i low high. elim (cases_Bool (is_in g (8 * i))) as (λ _. mark_at gs i ≡ mark_in f i) [
        | inr out ↦ sym (mark_at_out g gs i out) ∙ m.marks i low high
        | inl inside ↦ absurd (
            let within = in_bounds g (8 * i) inside in
            let after : 8 * a < g.offset = elim (cases_lt (8 * a) g.offset) [ inl lt ↦ lt | inr le ↦ absurd (both_ways (is_in g (8 * a)) outside (is_in_bounds g (8 * a) le (omega (arith, at, low, within.1)))) ] in
            let k = g.offset / 8 in
            let start : 8 * k ≡ g.offset = omega (arith, c.0.offset) in
            let within_g : is_in g (8 * k) ≡ true = is_in_bounds g (8 * k) (omega (arith, start)) (omega (arith, start, within.0, within.1)) in
            let marked : mark_in g k ≡ mark_in f k = sym (mark_at_in g gs k within_g) ∙ m.marks k (omega (arith, start, after, at)) (omega (arith, start, within.0, high)) in
            let first : mark_in g k ≡ first_mark g.more = first_mark_in g k start in
            let later : mark_in f k ≡ 3 = later_mark_in f k (λ e. omega (arith, e, start, after, at)) in
            let h : ⊥ = omega (arith, marked, first, later, (first_mark_bounds g.more).1) in h)
      ];
      ends = λ e. elim (cases_Bool (is_in g (8 * ((end_of f + 7) / 8)))) [
        | inr out ↦ m.ends (mark_at_out g gs ((end_of f + 7) / 8) out ∙ e)
        | inl inside ↦
            let within = in_bounds g (8 * ((end_of f + 7) / 8)) inside in
            let none : mark_at gs ((end_of f + 7) / 8) ≡ 0 = unmarked gs g ((end_of f + 7) / 8) c.1 within.0 within.1 in
            omega (arith, none, e)
      ];
    }

-- Fragments that have the marks of f have one of its shape.
pub has_shape : (limit : ℕ) (fs : List Fragment) (f : Fragment) (a : ℕ) → 8 * a ≡ f.offset → AreConsistent limit fs → 0 < length f.bytes → IsMarked fs f → HasShape fs f
has_shape limit [] f a at c positive m = absurd (let none : 0 ≡ mark_in f a = m.marks a (omega (arith, at)) (omega (arith, at, positive)) in let h : ⊥ = omega (arith, none, mark_in_positive f a) in h)
has_shape limit (g ∷ gs) f a at c positive m = elim (cases_Bool (is_in g (8 * a))) [
  | inl inside ↦ starts_with_shape limit g gs f a at c positive m inside
  | inr outside ↦
      let rest = has_shape limit gs f a at c.3 positive (marked_in_others limit g gs f a at c positive m outside) in
      record {
        other = rest.other;
        among = or_right (is_same rest.other g) (list_any (is_same rest.other) gs) rest.among;
        offset = rest.offset;
        more = rest.more;
        units = rest.units;
      }
]

-- A fragment that is there has its marks.
pub member_marks : (limit : ℕ) (fs : List Fragment) (f : Fragment) (i : ℕ) → AreConsistent limit fs → list_any (is_same f) fs ≡ true → f.offset ≤ 8 * i → 8 * i < end_of f → mark_at fs i ≡ mark_in f i
member_marks limit [] f i c among low high = absurd (both_ways false refl among)
member_marks limit (g ∷ gs) f i c among low high = elim (or_cases (is_same f g) (list_any (is_same f) gs) among) [
  | inl same ↦ subst (λ (k : Fragment). mark_at (k ∷ gs) i ≡ mark_in f i) (same_is f g same) (mark_at_in f gs i (is_in_bounds f (8 * i) low high))
  | inr rest ↦ elim (cases_Bool (is_in g (8 * i))) as (λ _. mark_at (g ∷ gs) i ≡ mark_in f i) [
    | inr outside ↦ mark_at_out g gs i outside ∙ member_marks limit gs f i c.3 rest low high
    | inl both ↦ absurd (both_ways (list_any (overlaps g) gs) c.1 (member_overlaps gs f g (8 * i) rest (low, high) (in_bounds g (8 * i) both)))
  ]
]

pub member_mark_ends : (limit : ℕ) (fs : List Fragment) (f : Fragment) → AreConsistent limit fs → list_any (is_same f) fs ≡ true → 0 < length f.bytes → mark_at fs ((end_of f + 7) / 8) ≡ 3 → ⊥
member_mark_ends limit [] f c among positive e = both_ways false refl among
member_mark_ends limit (g ∷ gs) f c among positive e =
    let sound = member_sound limit (g ∷ gs) f c among in
    let i = (end_of f + 7) / 8 - 1 in
    let next : (end_of f + 7) / 8 ≡ i + 1 = omega (arith, positive) in
    let marked : mark_at (g ∷ gs) (i + 1) ≡ 3 = subst (λ (k : ℕ). mark_at (g ∷ gs) k ≡ 3) next e in
    let low : f.offset ≤ 8 * i = omega (arith, next, positive, sound.offset) in
    let high : 8 * i < end_of f = omega (arith, next) in
    elim (cases_Bool (is_in g (8 * (i + 1)))) [
      | inr outside ↦ elim (or_cases (is_same f g) (list_any (is_same f) gs) among) [
        | inl same ↦ both_ways (list_any (overlaps g) gs) c.1
            (later_overlaps limit gs g i c.3 (sym (mark_at_out g gs (i + 1) outside) ∙ marked)
            (subst (λ (k : Fragment). k.offset ≤ 8 * i) (same_is f g same) low) (subst (λ (k : Fragment). 8 * i < end_of k) (same_is f g same) high))
        | inr rest ↦ member_mark_ends limit gs f c.3 rest positive (sym (mark_at_out g gs ((end_of f + 7) / 8) (subst (λ (k : ℕ). is_in g (8 * k) ≡ false) (sym next) outside)) ∙ e)
      ]
      | inl inside ↦
          let within = in_bounds g (8 * (i + 1)) inside in
          let later : mark_in g (i + 1) ≡ 3 = sym (mark_at_in g gs (i + 1) inside) ∙ marked in
          elim (cases_eq (8 * (i + 1)) g.offset) [
            | inl start ↦ let first : mark_in g (i + 1) ≡ first_mark g.more = first_mark_in g (i + 1) start in omega (arith, first, later, (first_mark_bounds g.more).1)
            | inr not_start ↦ elim (or_cases (is_same f g) (list_any (is_same f) gs) among) [
              | inl same ↦ let ends : end_of f ≡ end_of g = ap end_of (same_is f g same) in omega (arith, ends, within.1, next)
              | inr rest ↦ both_ways (list_any (overlaps g) gs) c.1 (member_overlaps gs f g (8 * i) rest (low, high) (omega (arith, within.0, not_start, c.0.offset), omega (arith, within.1)))
            ]
          ]
    ]

-- The marks of a part are those of its units.
pub all_marked : (marks : List ℕ) (first end mark : ℕ) → end ≤ length marks → All (λ m. m ≡ mark) (slice_range marks first end) → (i : ℕ) → first ≤ i → i < end → get_or marks i 0 ≡ mark
all_marked marks first end mark within all i low high =
    let at : first + (i - first) ≡ i = omega (arith, low) in
    ap (λ (k : ℕ). get_or marks k 0) (sym at)
    ∙ (sym (get_or-between marks first end (i - first) 0 (omega (arith, high, at)))
    ∙ all (i - first) 0 (omega (arith, length-between {X = ℕ} marks first end, high, low, within)))

pub marked_all : (marks : List ℕ) (first end mark : ℕ) → end ≤ length marks → ((i : ℕ) → first ≤ i → i < end → get_or marks i 0 ≡ mark) → All (λ m. m ≡ mark) (slice_range marks first end)
marked_all marks first end mark within each k d less =
    let below : first + k < end = omega (arith, less, length-between {X = ℕ} marks first end, within) in
    get_or-between marks first end k d below
    ∙ (get_or_default marks (first + k) d 0 (omega (arith, below, within)) ∙ each (first + k) (omega arith) below)

none_at : (x : ℕ) (xs : List ℕ) → x ≡ 0 → All (λ m. m ≡ 0) xs → All (λ m. m ≡ 0) (x ∷ xs)
none_at x xs here rest zero d less = here
none_at x xs here rest (suc k) d less = rest k d (omega (arith, less))

-- The largest of some marks is 0 exactly if each of them is.
pub largest_none : (xs : List ℕ) (a : ℕ) → fold max a xs ≡ 0 → (a ≡ 0) × All (λ m. m ≡ 0) xs
largest_none [] a e = (e, λ k d less. absurd (let h : ⊥ = omega (arith, less) in h))
largest_none (x ∷ xs) a e =
    let rest = largest_none xs (max a x) e in
    (omega (arith, rest.0), none_at x xs (omega (arith, rest.0)) rest.1)

pub none_largest : (xs : List ℕ) (a : ℕ) → a ≡ 0 → All (λ m. m ≡ 0) xs → fold max a xs ≡ 0
none_largest [] a e all = e
none_largest (x ∷ xs) a e all = none_largest xs (max a x) (let here : x ≡ 0 = all 0 0 (omega arith) in omega (arith, e, here)) (λ k d less. all (suc k) d (omega (arith, less)))

-- Units after the largest end have no marks.
pub unmarked_after : (fs : List Fragment) (i : ℕ) → reach_of fs ≤ 8 * i → mark_at fs i ≡ 0
unmarked_after [] i past = refl
unmarked_after (f ∷ fs) i past = mark_at_out f fs i (false_from_ne_true (is_in f (8 * i)) (λ e. let b = in_bounds f (8 * i) e in omega (arith, b.1, past))) ∙ unmarked_after fs i (omega (arith, past))
