-- Marks of two bits, four in a byte.
use Rattle.ip_reassembly.proofs.Common.{◌≡◌, ℕ, zero, suc, ◌+◌, ◌-◌, ◌*◌, ◌/◌, ◌%◌, ◌≤◌, ◌<◌, min, Bool, true, false, cond, leb, ltb, eqb, ◌&&◌, List, set, length, get_or, refl, sym, ap, ◌∙◌, subst, inl, inr, arith, cases_lt, cases_eq, cond-true, cond-false, and_left, and_right, and_from, le-leb, lt-leb, lt-ltb, le-ltb, eq-eqb, ne_eqb, first_mark, byte_mark, mark_of}
use Rattle.std.specs.Int.{bit_at, bit_not, w8}
use mir.Val.{bool_byte}
use Rattle.std.specs.Int.Bits.{bit_and}
use Rattle.std.specs.Int.RustNames.{bit_or}
use Rattle.std.specs.Prelude.{◌^◌}
use Rattle.std.proofs.Math.Pow.{pow_mono}
use Rattle.std.proofs.Math.Nat.{pow-suc, div-div-eq-div-mul, zero-div}
use Rattle.std.proofs.lemmas.List.{get_or-set_same, get_or-set_other}
use Rattle.std.proofs.lemmas.Nat.Bits.{bit_at_and, bit_at_or, bit_at-lt, bit_at-zero, bit_at_mask_inside, bit_at_mask_below, bit_at_mask_above, bit_at_clear_same, bit_at_clear_other, same_from_bits}

-- A mark by its two bits.
pub mark_bits : (b k : ℕ) → byte_mark b k ≡ bit_at b (2 * k) + 2 * bit_at b (2 * k + 1)
mark_bits b k =
    let double : 2 ^ (2 * k + 1) ≡ 2 ^ (2 * k) * 2 = ap (λ (n : ℕ). 2 ^ n) (let e : 2 * k + 1 ≡ suc (2 * k) = omega arith in e) ∙ pow-suc 2 (2 * k) in
    let half : b / 2 ^ (2 * k + 1) ≡ b / 2 ^ (2 * k) / 2 = ap (λ (n : ℕ). b / n) double ∙ sym (div-div-eq-div-mul b (2 ^ (2 * k)) 2) in
    omega (arith, half)

-- Bytes of 0 have no marks, and bytes of 255 have four of later units.
pub no_mark : (k : ℕ) → byte_mark 0 k ≡ 0
no_mark k = ap (λ (n : ℕ). n % 4) (zero-div (2 ^ (2 * k)))

pub later_byte : (k : ℕ) → k < 4 → byte_mark 255 k ≡ 3
later_byte zero l = refl
later_byte (suc zero) l = refl
later_byte (suc (suc zero)) l = refl
later_byte (suc (suc (suc zero))) l = refl
later_byte (suc (suc (suc (suc k)))) l = absurd (let h : ⊥ = omega (arith, l) in h)

-- the byte with the marks of later units from one unit to another
abbrev pub later_in : ℕ → ℕ → ℕ
later_in lo hi = 2 ^ (2 * hi) - 2 ^ (2 * lo)

-- Its bits are those of its units.
inside_low : (lo hi k : ℕ) → lo ≤ k → k < hi → bit_at (later_in lo hi) (2 * k) ≡ 1
inside_low lo hi k low high = bit_at_mask_inside (2 * lo) (2 * hi) (2 * k) (omega (arith, low)) (omega (arith, high))

inside_high : (lo hi k : ℕ) → lo ≤ k → k < hi → bit_at (later_in lo hi) (2 * k + 1) ≡ 1
inside_high lo hi k low high = bit_at_mask_inside (2 * lo) (2 * hi) (2 * k + 1) (omega (arith, low)) (omega (arith, high))

-- To set these bits marks the units, and no others.
or_inside : (b lo hi k : ℕ) → lo ≤ k → k < hi → byte_mark (bit_or b (later_in lo hi)) k ≡ 3
or_inside b lo hi k low high =
    let m = later_in lo hi in
    omega (arith, mark_bits (bit_or b m) k, bit_at_or b m (2 * k), bit_at_or b m (2 * k + 1), inside_low lo hi k low high, inside_high lo hi k low high, bit_at-lt b (2 * k), bit_at-lt b (2 * k + 1))

or_below : (b lo hi k : ℕ) → k < lo → byte_mark (bit_or b (later_in lo hi)) k ≡ byte_mark b k
or_below b lo hi k low =
    let m = later_in lo hi in
    omega (arith, mark_bits (bit_or b m) k, mark_bits b k, bit_at_or b m (2 * k), bit_at_or b m (2 * k + 1), bit_at_mask_below (2 * lo) (2 * hi) (2 * k) (omega (arith, low)), bit_at_mask_below (2 * lo) (2 * hi) (2 * k + 1) (omega (arith, low)))

or_above : (b lo hi k : ℕ) → hi ≤ k → byte_mark (bit_or b (later_in lo hi)) k ≡ byte_mark b k
or_above b lo hi k high =
    let m = later_in lo hi in
    omega (arith, mark_bits (bit_or b m) k, mark_bits b k, bit_at_or b m (2 * k), bit_at_or b m (2 * k + 1), bit_at_mask_above (2 * lo) (2 * hi) (2 * k) (omega (arith, high)), bit_at_mask_above (2 * lo) (2 * hi) (2 * k + 1) (omega (arith, high)))

-- After the bits of some units of one byte are set, they have the marks of later units, and all other units theirs.
pub marked_in : (marks : List ℕ) (index lo hi m i : ℕ) → index < length marks → hi ≤ 4 → m ≡ later_in lo hi → mark_of (set marks index (bit_or (get_or marks index 0) m)) i ≡ cond (leb (4 * index + lo) i && ltb i (4 * index + hi)) 3 (mark_of marks i)
marked_in marks index lo hi m i within four e =
    let b = get_or marks index 0 in
    let new = set marks index (bit_or b m) in
    let t : Bool = leb (4 * index + lo) i && ltb i (4 * index + hi) in
    elim (cases_eq (i / 4) index) as (λ _. mark_of new i ≡ cond t 3 (mark_of marks i)) [
      | inr other ↦ ap (λ (n : ℕ). byte_mark n (i % 4)) (get_or-set_other marks index (i / 4) (bit_or b m) 0 other)
          ∙ sym (cond-false t 3 (mark_of marks i) (elim (cases_lt i (4 * index + lo)) [
            | inl low ↦ and_left (leb (4 * index + lo) i) (ltb i (4 * index + hi)) (lt-leb (4 * index + lo) i low)
            | inr high ↦ and_right (leb (4 * index + lo) i) (ltb i (4 * index + hi)) (le-ltb i (4 * index + hi) (omega (arith, other, high, four)))
          ]))
      | inl same ↦
          let at : get_or new (i / 4) 0 ≡ bit_or b (later_in lo hi) = ap (λ (n : ℕ). get_or new n 0) same ∙ (get_or-set_same marks index (bit_or b m) 0 within ∙ ap (bit_or b) e) in
          let old : byte_mark b (i % 4) ≡ mark_of marks i = ap (λ (n : ℕ). byte_mark (get_or marks n 0) (i % 4)) (sym same) in
          ap (λ (n : ℕ). byte_mark n (i % 4)) at ∙ elim (cases_lt (i % 4) lo) [
            | inl low ↦ or_below b lo hi (i % 4) low ∙ (old ∙ sym (cond-false t 3 (mark_of marks i) (and_left (leb (4 * index + lo) i) (ltb i (4 * index + hi)) (lt-leb (4 * index + lo) i (omega (arith, low, same))))))
            | inr from ↦ elim (cases_lt (i % 4) hi) [
              | inl inside ↦ or_inside b lo hi (i % 4) from inside ∙ sym (cond-true t 3 (mark_of marks i) (and_from (leb (4 * index + lo) i) (ltb i (4 * index + hi)) (le-leb (4 * index + lo) i (omega (arith, from, same))) (lt-ltb i (4 * index + hi) (omega (arith, inside, same)))))
              | inr high ↦ or_above b lo hi (i % 4) high ∙ (old ∙ sym (cond-false t 3 (mark_of marks i) (and_right (leb (4 * index + lo) i) (ltb i (4 * index + hi)) (le-ltb i (4 * index + hi) (omega (arith, high, same))))))
            ]
          ]
    ]

-- After bytes are filled with these marks, their units have them, and all other units theirs.
pub filled : (marks new : List ℕ) (first end i : ℕ) → get_or new (i / 4) 0 ≡ cond (leb first (i / 4) && ltb (i / 4) end) 255 (get_or marks (i / 4) 0) → mark_of new i ≡ cond (leb (4 * first) i && ltb i (4 * end)) 3 (mark_of marks i)
filled marks new first end i e =
    let t : Bool = leb (4 * first) i && ltb i (4 * end) in
    let u : Bool = leb first (i / 4) && ltb (i / 4) end in
    elim (cases_lt i (4 * first)) [
      | inl low ↦ ap (λ (n : ℕ). byte_mark n (i % 4)) (e ∙ cond-false u 255 (get_or marks (i / 4) 0) (and_left (leb first (i / 4)) (ltb (i / 4) end) (lt-leb first (i / 4) (omega (arith, low)))))
          ∙ sym (cond-false t 3 (mark_of marks i) (and_left (leb (4 * first) i) (ltb i (4 * end)) (lt-leb (4 * first) i low)))
      | inr from ↦ elim (cases_lt i (4 * end)) [
        | inl inside ↦ ap (λ (n : ℕ). byte_mark n (i % 4)) (e ∙ cond-true u 255 (get_or marks (i / 4) 0) (and_from (leb first (i / 4)) (ltb (i / 4) end) (le-leb first (i / 4) (omega (arith, from))) (lt-ltb (i / 4) end (omega (arith, inside)))))
            ∙ (later_byte (i % 4) (omega arith) ∙ sym (cond-true t 3 (mark_of marks i) (and_from (leb (4 * first) i) (ltb i (4 * end)) (le-leb (4 * first) i from) (lt-ltb i (4 * end) inside))))
        | inr high ↦ ap (λ (n : ℕ). byte_mark n (i % 4)) (e ∙ cond-false u 255 (get_or marks (i / 4) 0) (and_right (leb first (i / 4)) (ltb (i / 4) end) (le-ltb (i / 4) end (omega (arith, high)))))
            ∙ sym (cond-false t 3 (mark_of marks i) (and_right (leb (4 * first) i) (ltb i (4 * end)) (le-ltb i (4 * end) high)))
      ]
    ]

-- Without one of its bits, the mark of a later unit is that of a first one.
cleared_here : (b k bit : ℕ) → k < 4 → bit < 2 → byte_mark b k ≡ 3 → byte_mark (bit_and b (bit_not w8 (1 * 2 ^ (2 * k + bit) % 256))) k ≡ 2 - bit
cleared_here b k bit four two later =
    let n = bit_and b (bit_not w8 (1 * 2 ^ (2 * k + bit) % 256)) in
    let gone : bit_at n (2 * k + bit) ≡ 0 = bit_at_clear_same w8 b (2 * k + bit) (let l : 2 * k + bit < 8 = omega (arith, four, two) in l) in
    elim (cases_eq bit 0) [
      | inl low ↦
          let gone_low : bit_at n (2 * k) ≡ 0 = subst (λ (i : ℕ). bit_at n i ≡ 0) (let e : 2 * k + bit ≡ 2 * k = omega (arith, low) in e) gone in
          let kept : bit_at n (2 * k + 1) ≡ bit_at b (2 * k + 1) = bit_at_clear_other w8 b (2 * k + bit) (let l : 2 * k + bit < 8 = omega (arith, four, two) in l) (2 * k + 1) (let l : 2 * k + 1 < 8 = omega (arith, four) in l) (λ e. omega (arith, e, low)) in
          omega (arith, mark_bits n k, mark_bits b k, gone_low, kept, later, low, bit_at-lt b (2 * k), bit_at-lt b (2 * k + 1))
      | inr not_low ↦
          let high : bit ≡ 1 = omega (arith, not_low, two) in
          let gone_high : bit_at n (2 * k + 1) ≡ 0 = subst (λ (i : ℕ). bit_at n i ≡ 0) (let e : 2 * k + bit ≡ 2 * k + 1 = omega (arith, high) in e) gone in
          let kept : bit_at n (2 * k) ≡ bit_at b (2 * k) = bit_at_clear_other w8 b (2 * k + bit) (let l : 2 * k + bit < 8 = omega (arith, four, two) in l) (2 * k) (let l : 2 * k < 8 = omega (arith, four) in l) (λ e. omega (arith, e, high)) in
          omega (arith, mark_bits n k, mark_bits b k, gone_high, kept, later, high, bit_at-lt b (2 * k), bit_at-lt b (2 * k + 1))
    ]

cleared_other : (b k bit j : ℕ) → k < 4 → bit < 2 → j < 4 → (j ≡ k → ⊥) → byte_mark (bit_and b (bit_not w8 (1 * 2 ^ (2 * k + bit) % 256))) j ≡ byte_mark b j
cleared_other b k bit j four two within other =
    let n = bit_and b (bit_not w8 (1 * 2 ^ (2 * k + bit) % 256)) in
    let l : 2 * k + bit < 8 = omega (arith, four, two) in
    let low : bit_at n (2 * j) ≡ bit_at b (2 * j) = bit_at_clear_other w8 b (2 * k + bit) l (2 * j) (let w : 2 * j < 8 = omega (arith, within) in w) (λ e. other (omega (arith, e, two))) in
    let high : bit_at n (2 * j + 1) ≡ bit_at b (2 * j + 1) = bit_at_clear_other w8 b (2 * k + bit) l (2 * j + 1) (let w : 2 * j + 1 < 8 = omega (arith, within) in w) (λ e. other (omega (arith, e, two))) in
    omega (arith, mark_bits n j, mark_bits b j, low, high)

pub marked_first : (marks : List ℕ) (unit bit m i : ℕ) → unit / 4 < length marks → bit < 2 → m ≡ 2 - bit → mark_of marks unit ≡ 3 → mark_of (set marks (unit / 4) (bit_and (get_or marks (unit / 4) 0) (bit_not w8 (1 * 2 ^ (2 * (unit % 4) + bit) % 256)))) i ≡ cond (eqb i unit) m (mark_of marks i)
marked_first marks unit bit m i within two is later =
    let b = get_or marks (unit / 4) 0 in
    let n = bit_and b (bit_not w8 (1 * 2 ^ (2 * (unit % 4) + bit) % 256)) in
    let new = set marks (unit / 4) n in
    elim (cases_eq i unit) [
      | inl same ↦ subst (λ (j : ℕ). mark_of new j ≡ cond (eqb i unit) m (mark_of marks i)) (sym same)
          (ap (λ (x : ℕ). byte_mark x (unit % 4)) (get_or-set_same marks (unit / 4) n 0 within)
          ∙ (cleared_here b (unit % 4) bit (omega arith) two later ∙ (sym is ∙ sym (cond-true (eqb i unit) m (mark_of marks i) (eq-eqb i unit same)))))
      | inr other ↦ elim (cases_eq (i / 4) (unit / 4)) as (λ _. mark_of new i ≡ mark_of marks i) [
        | inr elsewhere ↦ ap (λ (x : ℕ). byte_mark x (i % 4)) (get_or-set_other marks (unit / 4) (i / 4) n 0 elsewhere)
        | inl here ↦ ap (λ (j : ℕ). byte_mark (get_or new j 0) (i % 4)) here
            ∙ (ap (λ (x : ℕ). byte_mark x (i % 4)) (get_or-set_same marks (unit / 4) n 0 within)
            ∙ (cleared_other b (unit % 4) bit (i % 4) (omega arith) two (omega arith) (λ e. other (omega (arith, e, here)))
            ∙ ap (λ (j : ℕ). byte_mark (get_or marks j 0) (i % 4)) (sym here)))
      ] ∙ sym (cond-false (eqb i unit) m (mark_of marks i) (ne_eqb i unit other))
    ]

-- Which bit a first mark lacks.
pub missing_bit : (more : Bool) → (bool_byte more < 2) × (first_mark more ≡ 2 - bool_byte more)
missing_bit true = (omega arith, refl)
missing_bit false = (omega arith, refl)

-- The bits of units that are in one byte.
small : (n : ℕ) → n ≤ 4 → 1 * 2 ^ (2 * n) % 65536 ≡ 2 ^ (2 * n)
small zero l = refl
small (suc zero) l = refl
small (suc (suc zero)) l = refl
small (suc (suc (suc zero))) l = refl
small (suc (suc (suc (suc zero)))) l = refl
small (suc (suc (suc (suc (suc n))))) l = absurd (let h : ⊥ = omega (arith, l) in h)

pub ordered_bits : (lo hi : ℕ) → lo ≤ hi → hi ≤ 4 → 1 * 2 ^ (2 * lo) % 65536 ≤ 1 * 2 ^ (2 * hi) % 65536
ordered_bits lo hi order four =
    let powers : 2 ^ (2 * lo) ≤ 2 ^ (2 * hi) = pow_mono (let l : 2 * lo ≤ 2 * hi = omega (arith, order) in l) in
    omega (arith, small lo (omega (arith, order, four)), small hi four, powers)

-- Units that are marked, by where they are.
marked_inside : (a b i x : ℕ) → a ≤ i → i < b → cond (leb a i && ltb i b) 3 x ≡ 3
marked_inside a b i x low high = cond-true (leb a i && ltb i b) 3 x (and_from (leb a i) (ltb i b) (le-leb a i low) (lt-ltb i b high))

marked_below : (a b i x : ℕ) → i < a → cond (leb a i && ltb i b) 3 x ≡ x
marked_below a b i x low = cond-false (leb a i && ltb i b) 3 x (and_left (leb a i) (ltb i b) (lt-leb a i low))

marked_above : (a b i x : ℕ) → b ≤ i → cond (leb a i && ltb i b) 3 x ≡ x
marked_above a b i x high = cond-false (leb a i && ltb i b) 3 x (and_right (leb a i) (ltb i b) (le-ltb i b high))

-- Units that are marked in three parts.
pub three_parts : (a b c d i w x y z : ℕ) → a ≤ b → b ≤ c → c ≤ d → z ≡ cond (leb c i && ltb i d) 3 y → y ≡ cond (leb b i && ltb i c) 3 x → x ≡ cond (leb a i && ltb i b) 3 w → z ≡ cond (leb a i && ltb i d) 3 w
three_parts a b c d i w x y z ab bc cd last middle first = elim (cases_lt i b) [
  | inl low ↦ last ∙ (marked_below c d i y (omega (arith, low, bc)) ∙ (middle ∙ (marked_below b c i x low ∙ (first ∙ elim (cases_lt i a) [
    | inl before ↦ marked_below a b i w before ∙ sym (marked_below a d i w before)
    | inr from ↦ marked_inside a b i w from low ∙ sym (marked_inside a d i w from (omega (arith, low, bc, cd)))
  ]))))
  | inr from ↦ elim (cases_lt i c) [
    | inl inside ↦ last ∙ (marked_below c d i y inside ∙ (middle ∙ (marked_inside b c i x from inside ∙ sym (marked_inside a d i w (omega (arith, from, ab)) (omega (arith, inside, cd))))))
    | inr high ↦ last ∙ elim (cases_lt i d) [
      | inl inside ↦ marked_inside c d i y high inside ∙ sym (marked_inside a d i w (omega (arith, from, ab)) inside)
      | inr after ↦ marked_above c d i y after ∙ (middle ∙ (marked_above b c i x high ∙ (first ∙ (marked_above a b i w from ∙ sym (marked_above a d i w after)))))
    ]
  ]
]

-- Units of one byte have no mark exactly if none of their bits is set.
and_none : (b lo hi k : ℕ) → bit_and b (later_in lo hi) ≡ 0 → lo ≤ k → k < hi → byte_mark b k ≡ 0
and_none b lo hi k e low high =
    let m = later_in lo hi in
    let even : min (bit_at b (2 * k)) (bit_at m (2 * k)) ≡ 0 = sym (bit_at_and b m (2 * k)) ∙ (ap (λ (n : ℕ). bit_at n (2 * k)) e ∙ bit_at-zero (2 * k)) in
    let odd : min (bit_at b (2 * k + 1)) (bit_at m (2 * k + 1)) ≡ 0 = sym (bit_at_and b m (2 * k + 1)) ∙ (ap (λ (n : ℕ). bit_at n (2 * k + 1)) e ∙ bit_at-zero (2 * k + 1)) in
    omega (arith, mark_bits b k, even, odd, inside_low lo hi k low high, inside_high lo hi k low high)

-- A bit of a byte without marks in these units, or outside of them.
none_bit : (b lo hi i : ℕ) → ((k : ℕ) → lo ≤ k → k < hi → byte_mark b k ≡ 0) → min (bit_at b i) (bit_at (later_in lo hi) i) ≡ 0
none_bit b lo hi i none = elim (cases_lt i (2 * lo)) [
  | inl low ↦ let e : bit_at (later_in lo hi) i ≡ 0 = bit_at_mask_below (2 * lo) (2 * hi) i low in omega (arith, e)
  | inr from ↦ elim (cases_lt i (2 * hi)) [
    | inr high ↦ let e : bit_at (later_in lo hi) i ≡ 0 = bit_at_mask_above (2 * lo) (2 * hi) i high in omega (arith, e)
    | inl inside ↦
        let k = i / 2 in
        let mark : byte_mark b k ≡ 0 = none k (omega (arith, from)) (omega (arith, inside)) in
        let zero_bit : bit_at b i ≡ 0 = elim (cases_eq (i % 2) 0) [
          | inl even ↦ ap (bit_at b) (let e : i ≡ 2 * k = omega (arith, even) in e) ∙ (let e : bit_at b (2 * k) ≡ 0 = omega (arith, mark, mark_bits b k) in e)
          | inr odd ↦ ap (bit_at b) (let e : i ≡ 2 * k + 1 = omega (arith, odd) in e) ∙ (let e : bit_at b (2 * k + 1) ≡ 0 = omega (arith, mark, mark_bits b k) in e)
        ] in
        omega (arith, zero_bit)
  ]
]

none_and : (b lo hi : ℕ) → ((k : ℕ) → lo ≤ k → k < hi → byte_mark b k ≡ 0) → bit_and b (later_in lo hi) ≡ 0
none_and b lo hi none = same_from_bits (bit_and b (later_in lo hi)) 0 (λ i. bit_at_and b (later_in lo hi) i ∙ (none_bit b lo hi i none ∙ sym (bit_at-zero i)))

pub free_in : (marks : List ℕ) (index lo hi m : ℕ) → hi ≤ 4 → m ≡ later_in lo hi → bit_and (get_or marks index 0) m ≡ 0 → (i : ℕ) → 4 * index + lo ≤ i → i < 4 * index + hi → mark_of marks i ≡ 0
free_in marks index lo hi m four e none i low high =
    let at : i / 4 ≡ index = omega (arith, low, high, four) in
    ap (λ (n : ℕ). byte_mark (get_or marks n 0) (i % 4)) at
    ∙ and_none (get_or marks index 0) lo hi (i % 4) (ap (bit_and (get_or marks index 0)) (sym e) ∙ none) (omega (arith, low, at)) (omega (arith, high, at))

pub in_free : (marks : List ℕ) (index lo hi m : ℕ) → hi ≤ 4 → m ≡ later_in lo hi → ((i : ℕ) → 4 * index + lo ≤ i → i < 4 * index + hi → mark_of marks i ≡ 0) → bit_and (get_or marks index 0) m ≡ 0
in_free marks index lo hi m four e none =
    ap (bit_and (get_or marks index 0)) e
    ∙ none_and (get_or marks index 0) lo hi (λ k low high.
    let at : (4 * index + k) / 4 ≡ index = omega (arith, high, four) in
    let which : (4 * index + k) % 4 ≡ k = omega (arith, high, four) in
    sym (ap (λ (n : ℕ). byte_mark (get_or marks n 0) ((4 * index + k) % 4)) at ∙ ap (byte_mark (get_or marks index 0)) which)
    ∙ none (4 * index + k) (omega (arith, low)) (omega (arith, high)))

-- Four units have no mark exactly if their byte is 0.
unit_at : (marks : List ℕ) (j k : ℕ) → k < 4 → byte_mark (get_or marks j 0) k ≡ mark_of marks (4 * j + k)
unit_at marks j k four =
    let at : (4 * j + k) / 4 ≡ j = omega (arith, four) in
    let which : (4 * j + k) % 4 ≡ k = omega (arith, four) in
    sym (ap (λ (n : ℕ). byte_mark (get_or marks n 0) ((4 * j + k) % 4)) at ∙ ap (byte_mark (get_or marks j 0)) which)

pub free_bytes : (marks : List ℕ) (first end : ℕ) → ((j : ℕ) → first ≤ j → j < end → get_or marks j 0 ≡ 0) → (i : ℕ) → 4 * first ≤ i → i < 4 * end → mark_of marks i ≡ 0
free_bytes marks first end none i low high = ap (λ (n : ℕ). byte_mark n (i % 4)) (none (i / 4) (omega (arith, low)) (omega (arith, high))) ∙ no_mark (i % 4)

pub bytes_free : (marks : List ℕ) (first end j : ℕ) → get_or marks j 0 < 256 → ((i : ℕ) → 4 * first ≤ i → i < 4 * end → mark_of marks i ≡ 0) → first ≤ j → j < end → get_or marks j 0 ≡ 0
bytes_free marks first end j byte none low high =
    let b = get_or marks j 0 in
    let zeroth : b % 4 ≡ 0 = (let e : b % 4 ≡ byte_mark b 0 = omega (arith) in e) ∙ (unit_at marks j 0 (omega arith) ∙ none (4 * j + 0) (omega (arith, low)) (omega (arith, high))) in
    let first_one : b / 4 % 4 ≡ 0 = unit_at marks j 1 (omega arith) ∙ none (4 * j + 1) (omega (arith, low)) (omega (arith, high)) in
    let second : b / 16 % 4 ≡ 0 = unit_at marks j 2 (omega arith) ∙ none (4 * j + 2) (omega (arith, low)) (omega (arith, high)) in
    let third : b / 64 % 4 ≡ 0 = unit_at marks j 3 (omega arith) ∙ none (4 * j + 3) (omega (arith, low)) (omega (arith, high)) in
    omega (arith, byte, zeroth, first_one, second, third)

-- Four units are later ones exactly if their byte is 255.
pub later_bytes : (marks : List ℕ) (first end : ℕ) → ((j : ℕ) → first ≤ j → j < end → get_or marks j 0 ≡ 255) → (i : ℕ) → 4 * first ≤ i → i < 4 * end → mark_of marks i ≡ 3
later_bytes marks first end all i low high = ap (λ (n : ℕ). byte_mark n (i % 4)) (all (i / 4) (omega (arith, low)) (omega (arith, high))) ∙ later_byte (i % 4) (omega arith)

pub bytes_later : (marks : List ℕ) (first end j : ℕ) → get_or marks j 0 < 256 → ((i : ℕ) → 4 * first ≤ i → i < 4 * end → mark_of marks i ≡ 3) → first ≤ j → j < end → get_or marks j 0 ≡ 255
bytes_later marks first end j byte later low high =
    let b = get_or marks j 0 in
    let zeroth : b % 4 ≡ 3 = (let e : b % 4 ≡ byte_mark b 0 = omega (arith) in e) ∙ (unit_at marks j 0 (omega arith) ∙ later (4 * j + 0) (omega (arith, low)) (omega (arith, high))) in
    let first_one : b / 4 % 4 ≡ 3 = unit_at marks j 1 (omega arith) ∙ later (4 * j + 1) (omega (arith, low)) (omega (arith, high)) in
    let second : b / 16 % 4 ≡ 3 = unit_at marks j 2 (omega arith) ∙ later (4 * j + 2) (omega (arith, low)) (omega (arith, high)) in
    let third : b / 64 % 4 ≡ 3 = unit_at marks j 3 (omega arith) ∙ later (4 * j + 3) (omega (arith, low)) (omega (arith, high)) in
    omega (arith, byte, zeroth, first_one, second, third)
