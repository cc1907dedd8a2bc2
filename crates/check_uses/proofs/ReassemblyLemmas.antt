-- A payload split into two fragments.
use Rattle.std.proofs.Common.{◌≡◌, ℕ, ◌+◌, ◌*◌, ◌<◌, ◌≤◌, true, false, ◌&&◌, cond, eqb, List, [], ◌∷◌, ◌++◌, length, Option, Some, None, Ok, Result, refl, sym, ap, ◌∙◌, subst, arith}
use Rattle.std.specs.Prelude.{IfOk}
use Rattle.std.specs.Bool.{beq}
use Rattle.std.specs.Cmp.{booleans_Decides}
use Rattle.std.specs.List.{list_any}
use Rattle.std.specs.Str.{bytes_eq}
use Rattle.std.proofs.lemmas.Bool.{and_from, or_left, or_right, eq-eqb, cond-true}
use Rattle.std.proofs.lemmas.List.{take_at, drop_at, length-append}
use Rattle.std.proofs.lemmas.Slice.Eq.{bytes_eq-Decides}
use Rattle.ip_reassembly.specs.Fragment.{Fragment, fragment_at, is_same}
use Rattle.ip_reassembly.specs.Split.{IsSplit, are_among}

-- the two fragments
abbrev pub two_fragments : ℕ → ℕ → List ℕ → List ℕ → List Fragment
two_fragments start offset first last = fragment_at start true first ∷ fragment_at offset false last ∷ []

pub is_split_in_two : (start offset : ℕ) (first last : List ℕ) → start ≡ 0 → 0 < length first → length first ≡ 8 * offset → IsSplit (first ++ last) (two_fragments start offset first last)
is_split_in_two start offset first last at_start some units =
    let n = length first in (
      n,
      some,
      omega (arith, length-append first last),
      omega (arith, units),
      ap (λ (i : ℕ). let f : Fragment = record { offset = i; more = true; bytes = first } in f) (let e : 8 * start ≡ 0 = omega (arith, at_start) in e)
          ∙ ap (λ (b : List ℕ). let f : Fragment = record { offset = 0; more = true; bytes = b } in f) (sym (take_at first last n refl)),
      ap (λ (i : ℕ). let f : Fragment = record { offset = i; more = false; bytes = last } in f) (let e : 8 * offset ≡ 0 + n = omega (arith, units) in e)
          ∙ ap (λ (b : List ℕ). let f : Fragment = record { offset = 0 + n; more = false; bytes = b } in f) (sym (drop_at first last n refl)),
    )

-- A fragment is equal to itself.
same_as_itself : (f : Fragment) → is_same f f ≡ true
same_as_itself f = and_from (eqb f.offset f.offset && beq f.more f.more) (bytes_eq f.bytes f.bytes)
    (and_from (eqb f.offset f.offset) (beq f.more f.more) (eq-eqb f.offset f.offset refl) ((booleans_Decides f.more f.more).1 refl))
    ((bytes_eq-Decides f.bytes f.bytes).1 refl)

pub both_among : (f g : Fragment) → are_among (f ∷ g ∷ []) (f ∷ g ∷ []) ≡ true
both_among f g = and_from (list_any (is_same f) (f ∷ g ∷ [])) (list_any (is_same g) (f ∷ g ∷ []) && true)
    (or_left (is_same f f) (list_any (is_same f) (g ∷ [])) (same_as_itself f))
    (and_from (list_any (is_same g) (f ∷ g ∷ [])) true
    (or_right (is_same g f) (list_any (is_same g) (g ∷ [])) (or_left (is_same g g) false (same_as_itself g))) refl)

-- The value of an offset that was made.
pub made_offset : {E : Type 0} (made : Result ℕ E) (offset value : ℕ) → made ≡ Ok offset → IfOk made (λ o. o ≡ value) → offset ≡ value
made_offset {E} made offset value e h = subst (λ (r : Result ℕ E). IfOk r (λ o. o ≡ value)) e h

-- A payload that is whole if both fragments are there is the payload.
pub whole_from_both : (start offset limit : ℕ) (first last : List ℕ) (shown : Option (List ℕ)) → start ≡ 0 → 0 < length first → length first ≡ 8 * offset → length first + length last ≤ limit
    → (IsSplit (first ++ last) (two_fragments start offset first last) → length (first ++ last) ≤ limit → are_among (two_fragments start offset first last) (two_fragments start offset first last) ≡ true
    → shown ≡ cond (are_among (two_fragments start offset first last) (two_fragments start offset first last)) (Some (first ++ last)) None)
    → shown ≡ Some (first ++ last)
whole_from_both start offset limit first last shown at_start some units fits pieces =
    let all = both_among (fragment_at start true first) (fragment_at offset false last) in
    pieces (is_split_in_two start offset first last at_start some units) (omega (arith, length-append first last, fits)) all
    ∙ cond-true (are_among (two_fragments start offset first last) (two_fragments start offset first last)) (Some (first ++ last)) None all
