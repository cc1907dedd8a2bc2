-- Neighbours in arrays that agree.
use Rattle.std.proofs.Common.{◌≡◌, ℕ, ◌<◌, List, length, get_or, subst, sym, ◌∙◌}
use Rattle.std.specs.Prelude.{slice_get, Some}
use Rattle.std.proofs.lemmas.Option.{same_Some, slice_get-get_or, slice_get_within}
use Rattle.ip_lists.specs.Lists.{AreInverse, AreNeighbours, HasNeighbours}

pub before : (next previous : List ℕ) (p : ℕ) → AreInverse next previous → p < length next → AreNeighbours next previous (get_or previous p 0) p
before next previous p linked within =
    let there : slice_get previous p ≡ Some (get_or previous p 0) = slice_get-get_or previous p 0 (let P : ℕ → Type 0 = λ n. p < n in subst P (sym linked.as_many) within) in
    (linked.forth (get_or previous p 0) p there, there)

pub after : (next previous : List ℕ) (p : ℕ) → AreInverse next previous → p < length next → AreNeighbours next previous p (get_or next p 0)
after next previous p linked within =
    let there : slice_get next p ≡ Some (get_or next p 0) = slice_get-get_or next p 0 within in
    (there, linked.back p (get_or next p 0) there)

pub neighbours : (next previous : List ℕ) (p : ℕ) → AreInverse next previous → p < length next → HasNeighbours next previous p
neighbours next previous p linked within = (get_or previous p 0, get_or next p 0, before next previous p linked within, after next previous p linked within)

-- Each place is a link.
pub link_to : (next previous : List ℕ) (p : ℕ) → AreInverse next previous → p < length next → (a : ℕ) × (get_or next a 0 ≡ p)
link_to next previous p linked within =
    let a : ℕ = get_or previous p 0 in
    let there : slice_get next a ≡ Some p = (before next previous p linked within).0 in
    (a, same_Some _ _ (sym (slice_get-get_or next a 0 (slice_get_within next a p there)) ∙ there))
