-- Runs of fragments that arrived in order.
use Rattle.ip_reassembly.proofs.Common.{◌≡◌, ℕ, suc, ◌+◌, ◌-◌, ◌*◌, ◌/◌, ◌%◌, ◌≤◌, ◌<◌, Bool, false, cond, leb, ltb, eqb, ◌&&◌, List, sym, ap, ◌∙◌, inl, inr, arith, cases_lt, cases_eq, cond-true, cond-false, and_left, and_right, and_from, le-leb, lt-leb, lt-ltb, le-ltb, eq-eqb, ne_eqb, mark_of, run_end, run_mark, mark_by, IsLonger}
use Rattle.std.proofs.Math.Nat.{mul-add-mod_self_left, mod-eq_of_lt, mod-add-div, mod-lt, mul-suc}
use Rattle.ip_reassembly.specs.declared.run.Run.{Run}

-- The mark of a unit in a run, and after it.
pub by_run : (r : Run) (marks : List ℕ) (i : ℕ) → i < run_end r → mark_by r marks i ≡ run_mark r i
by_run r marks i less = cond-true (ltb i (run_end r)) (run_mark r i) (mark_of marks i) (lt-ltb i (run_end r) less)

pub by_bytes : (r : Run) (marks : List ℕ) (i : ℕ) → run_end r ≤ i → mark_by r marks i ≡ mark_of marks i
by_bytes r marks i past = cond-false (ltb i (run_end r)) (run_mark r i) (mark_of marks i) (le-ltb i (run_end r) past)

-- A unit of a run has a mark.
pub run_marked : (r : Run) (i : ℕ) → 0 < run_mark r i
run_marked r i = elim (cases_eq (i % r.units) 0) [
  | inl e ↦ let m : run_mark r i ≡ 1 = cond-true (eqb (i % r.units) 0) 1 3 (eq-eqb (i % r.units) 0 e) in omega (arith, m)
  | inr n ↦ let m : run_mark r i ≡ 3 = cond-false (eqb (i % r.units) 0) 1 3 (ne_eqb (i % r.units) 0 n) in omega (arith, m)
]

-- Free units are after the run.
pub after_run : (r : Run) (marks : List ℕ) (i : ℕ) → mark_by r marks i ≡ 0 → run_end r ≤ i
after_run r marks i free = elim (cases_lt i (run_end r)) [
  | inr past ↦ past
  | inl below ↦ absurd (let h : ⊥ = omega (arith, free, by_run r marks i below, run_marked r i) in h)
]

-- A run's end after one more fragment.
pub longer_end : (r q : Run) (first end : ℕ) → first ≤ end → IsLonger r q first end → run_end q ≡ end
longer_end r q first end order l = elim l.count [
  | inl new ↦
      let none : r.units * r.count ≡ r.units * 0 = ap (λ (n : ℕ). r.units * n) new.0 in
      let one : q.units * q.count ≡ q.units * 1 = ap (λ (n : ℕ). q.units * n) new.1 in
      omega (arith, none, one, l.start, l.units, order)
  | inr next ↦
      let more : q.units * q.count ≡ q.units * r.count + q.units = ap (λ (n : ℕ). q.units * n) (next.1 ∙ (let e : r.count + 1 ≡ suc r.count = omega arith in e)) ∙ mul-suc q.units r.count in
      let same : q.units * r.count ≡ r.units * r.count = ap (λ (n : ℕ). n * r.count) (sym next.0) in
      omega (arith, more, same, l.start, l.units, order)
]

-- The fragment starts at a multiple of its units.
starts : (r q : Run) (first end : ℕ) → IsLonger r q first end → (c : ℕ) × (first ≡ q.units * c)
starts r q first end l = elim l.count [
  | inl new ↦ (0, l.start ∙ (ap (λ (n : ℕ). r.units * n) new.0 ∙ (let e : r.units * 0 ≡ q.units * 0 = omega arith in e)))
  | inr next ↦ (r.count, l.start ∙ ap (λ (n : ℕ). n * r.count) next.0)
]

-- The marks of its units.
own_mark : (u c first i : ℕ) → first ≡ u * c → first ≤ i → i < first + u → ◌≡◌ {A = ℕ} (cond (eqb (i % u) 0) 1 3) (cond (eqb i first) 1 3)
own_mark u c first i e low high =
    let at : i % u ≡ i - first =
    ap (λ (n : ℕ). n % u) (let k : i ≡ u * c + (i - first) = omega (arith, e, low) in k)
    ∙ (mul-add-mod_self_left u c (i - first) ∙ mod-eq_of_lt (let l : i - first < u = omega (arith, low, high) in l)) in
    elim (cases_eq i first) [
      | inl same ↦ cond-true (eqb (i % u) 0) 1 3 (eq-eqb (i % u) 0 (omega (arith, at, same))) ∙ sym (cond-true (eqb i first) 1 3 (eq-eqb i first same))
      | inr other ↦ cond-false (eqb (i % u) 0) 1 3 (ne_eqb (i % u) 0 (λ z. other (omega (arith, z, at, low)))) ∙ sym (cond-false (eqb i first) 1 3 (ne_eqb i first other))
    ]

-- The marks by a run with one more fragment.
pub longer_marks : (r q : Run) (marks : List ℕ) (first end i : ℕ) → first ≤ end → IsLonger r q first end → mark_by q marks i ≡ cond (leb first i && ltb i end) (cond (eqb i first) 1 3) (mark_by r marks i)
longer_marks r q marks first end i order l =
    let ends : run_end q ≡ end = longer_end r q first end order l in
    let t : Bool = leb first i && ltb i end in
    let own : ℕ = cond (eqb i first) 1 3 in
    elim (cases_lt i first) [
      | inl below ↦
          let units : r.units ≡ q.units = elim l.count [
            | inl new ↦ absurd (let none : r.units * r.count ≡ r.units * 0 = ap (λ (n : ℕ). r.units * n) new.0 in let h : ⊥ = omega (arith, none, l.start, below) in h)
            | inr next ↦ next.0
          ] in
          by_run q marks i (omega (arith, below, order, ends))
          ∙ (ap (λ (n : ℕ). cond (eqb (i % n) 0) 1 3) (sym units)
          ∙ (sym (by_run r marks i (omega (arith, below, l.start)))
          ∙ sym (cond-false t own (mark_by r marks i) (and_left (leb first i) (ltb i end) (lt-leb first i below)))))
      | inr from ↦ elim (cases_lt i end) [
        | inl inside ↦
            let start = starts r q first end l in
            by_run q marks i (omega (arith, inside, ends))
            ∙ (own_mark q.units start.0 first i start.1 from (omega (arith, inside, l.units))
            ∙ sym (cond-true t own (mark_by r marks i) (and_from (leb first i) (ltb i end) (le-leb first i from) (lt-ltb i end inside))))
        | inr past ↦
            by_bytes q marks i (omega (arith, past, ends))
            ∙ (sym (by_bytes r marks i (omega (arith, past, order, l.start)))
            ∙ sym (cond-false t own (mark_by r marks i) (and_right (leb first i) (ltb i end) (le-ltb i end past))))
      ]
    ]

-- A unit of the longer run that was free has no mark in the bytes, nor has one of the run before.
pub longer_unused : (r q : Run) (marks : List ℕ) (first end i : ℕ) → first ≤ end → IsLonger r q first end → ((j : ℕ) → first ≤ j → j < end → mark_by r marks j ≡ 0) → ((j : ℕ) → j < run_end r → mark_of marks j ≡ 0) → i < run_end q → mark_of marks i ≡ 0
longer_unused r q marks first end i order l free unused less = elim (cases_lt i (run_end r)) [
  | inl below ↦ unused i below
  | inr past ↦ sym (by_bytes r marks i past) ∙ free i (omega (arith, past, l.start)) (omega (arith, less, longer_end r q first end order l))
]

-- A unit of the run is none of the free ones.
outside : (r : Run) (marks : List ℕ) (first end i : ℕ) → ((j : ℕ) → first ≤ j → j < end → mark_by r marks j ≡ 0) → i < run_end r → (leb first i && ltb i end) ≡ false
outside r marks first end i free below = elim (cases_lt i first) [
  | inl low ↦ and_left (leb first i) (ltb i end) (lt-leb first i low)
  | inr from ↦ elim (cases_lt i end) [
    | inr high ↦ and_right (leb first i) (ltb i end) (le-ltb i end high)
    | inl inside ↦ absurd (let h : ⊥ = omega (arith, after_run r marks i (free i from inside), below) in h)
  ]
]

-- The marks in the bytes are those after the run.
pub marked_after : (r : Run) (marks new : List ℕ) (first end a i : ℕ) → ((j : ℕ) → first ≤ j → j < end → mark_by r marks j ≡ 0) → mark_of new i ≡ cond (leb first i && ltb i end) (cond (eqb i first) a 3) (mark_of marks i) → mark_by r new i ≡ cond (leb first i && ltb i end) (cond (eqb i first) a 3) (mark_by r marks i)
marked_after r marks new first end a i free is =
    let t : Bool = leb first i && ltb i end in
    elim (cases_lt i (run_end r)) [
      | inr past ↦ by_bytes r new i past ∙ (is ∙ ap (cond t (cond (eqb i first) a 3)) (sym (by_bytes r marks i past)))
      | inl below ↦ by_run r new i below ∙ (sym (by_run r marks i below) ∙ sym (cond-false t (cond (eqb i first) a 3) (mark_by r marks i) (outside r marks first end i free below)))
    ]

pub still_unused : (r : Run) (marks new : List ℕ) (first end a i : ℕ) → ((j : ℕ) → first ≤ j → j < end → mark_by r marks j ≡ 0) → ((j : ℕ) → j < run_end r → mark_of marks j ≡ 0) → mark_of new i ≡ cond (leb first i && ltb i end) (cond (eqb i first) a 3) (mark_of marks i) → i < run_end r → mark_of new i ≡ 0
still_unused r marks new first end a i free unused is below = is ∙ (cond-false (leb first i && ltb i end) (cond (eqb i first) a 3) (mark_of marks i) (outside r marks first end i free below) ∙ unused i below)

-- The place of a unit in its fragment, by that of a unit before it.
place_after : (u first i : ℕ) → first ≤ i → first % u + (i - first) < u → i % u ≡ first % u + (i - first)
place_after u first i from fits =
    ap (λ (n : ℕ). n % u) (let k : i ≡ u * (first / u) + (first % u + (i - first)) = omega (arith, mod-add-div first u, from) in k)
    ∙ (mul-add-mod_self_left u (first / u) (first % u + (i - first)) ∙ mod-eq_of_lt fits)

-- No fragment of a run starts at these units.
pub later_in_run : (r : Run) (first end i : ℕ) → 0 < first % r.units → first % r.units + (end - first) ≤ r.units → first ≤ i → i < end → run_mark r i ≡ 3
later_in_run r first end i pos fits from below =
    let at : i % r.units ≡ first % r.units + (i - first) = place_after r.units first i from (omega (arith, fits, from, below)) in
    cond-false (eqb (i % r.units) 0) 1 3 (ne_eqb (i % r.units) 0 (λ z. omega (arith, z, at, pos)))

-- A unit at which a fragment starts is no later one.
pub no_start : (r : Run) (i : ℕ) → run_mark r i ≡ 3 → i % r.units ≡ 0 → ⊥
no_start r i later start = let m : run_mark r i ≡ 1 = cond-true (eqb (i % r.units) 0) 1 3 (eq-eqb (i % r.units) 0 start) in omega (arith, later, m)

next_start : (u first : ℕ) → 0 < u → (first + (u - first % u)) % u ≡ 0
next_start u first pos =
    ap (λ (n : ℕ). n % u) (let k : first + (u - first % u) ≡ u * suc (first / u) + 0 = omega (arith, mod-add-div first u, mod-lt first pos, mul-suc u (first / u)) in k)
    ∙ (mul-add-mod_self_left u (suc (first / u)) 0 ∙ mod-eq_of_lt pos)

-- Later units end before the next fragment starts.
pub later_fit : (r : Run) (first end : ℕ) → 0 < r.units → ((i : ℕ) → first ≤ i → i < end → run_mark r i ≡ 3) → first % r.units + (end - first) ≤ r.units
later_fit r first end pos later = elim (cases_lt r.units (first % r.units + (end - first))) [
  | inr fits ↦ fits
  | inl more ↦
      let next : ℕ = first + (r.units - first % r.units) in
      absurd (no_start r next (later next (omega arith) (omega (arith, more, mod-lt first pos))) (next_start r.units first pos))
]

-- A run with units has some in each fragment.
pub some_units : (r : Run) (i : ℕ) → i < run_end r → 0 < r.units
some_units r i less = elim (cases_eq r.units 0) [
  | inl none ↦ absurd (let e : r.units * r.count ≡ 0 * r.count = ap (λ (n : ℕ). n * r.count) none in let h : ⊥ = omega (arith, e, less) in h)
  | inr some ↦ omega (arith, some)
]
