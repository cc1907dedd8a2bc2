-- Paths through one array.
use Rattle.std.proofs.Common.{◌≡◌, ◌≢◌, ℕ, ◌<◌, List, [], ◌∷◌, ◌++◌, length, get_or, refl, sym, ap, ◌∙◌, subst, suc, zero, arith}
use Rattle.std.specs.Prelude.{Contains, Option, Some, None, slice_get, ◌↔◌}
use Rattle.std.proofs.lemmas.Option.{same_Some, slice_get_within}
use Rattle.ip_lists.specs.Lists.{IsPath}
use Rattle.ip_lists.proofs.Lacking.{Lacks, lacks_head, lacks_tail, lacks_cons}

-- Only one place comes after another.
pub same_next : (next : List ℕ) (from x y : ℕ) → slice_get next from ≡ Some x → slice_get next from ≡ Some y → x ≡ y
same_next next from x y a b = same_Some x y (sym a ∙ b)

-- The end is none of the places before it.
pub lacks_end : (next : List ℕ) (from end : ℕ) (xs : List ℕ) → IsPath next from xs end → Lacks xs end
lacks_end next from end [] path = λ c. absurd (omega arith)
lacks_end next from end (x ∷ xs) path = lacks_cons x end xs path.1 (lacks_end next x end xs path.2)

-- Only one path leads from one place to another.
pub same_path : (next : List ℕ) (from end : ℕ) (xs ys : List ℕ) → IsPath next from xs end → IsPath next from ys end → xs ≡ ys
same_path next from end [] [] a b = refl
same_path next from end [] (y ∷ ys) a b = absurd (b.1 (same_next next from y end b.0 a))
same_path next from end (x ∷ xs) [] a b = absurd (a.1 (same_next next from x end a.0 b))
same_path next from end (x ∷ xs) (y ∷ ys) a b =
    let same : y ≡ x = same_next next from y x b.0 a.0 in
    let rest : xs ≡ ys = same_path next x end xs ys a.2 (let P : ℕ → Type 0 = λ z. IsPath next z ys end in subst P same b.2) in
    cc

-- A path through a place goes on from there.
pub path_from : (next : List ℕ) (from end x : ℕ) (xs ys : List ℕ) → IsPath next from (xs ++ x ∷ ys) end → IsPath next x ys end
path_from next from end x [] ys path = path.2
path_from next from end x (z ∷ xs) ys path = path_from next z end x xs ys path.2

pub start_within : (next : List ℕ) (from end : ℕ) (xs : List ℕ) → IsPath next from xs end → from < length next
start_within next from end [] path = slice_get_within next from end path
start_within next from end (x ∷ xs) path = slice_get_within next from x path.0

-- The rest of a path after one of its places.
pub record Rest (next : List ℕ) (xs : List ℕ) (x end : ℕ) : Type 0 where
  pub places : List ℕ
  pub path : IsPath next x places end
  pub shorter : length places < length xs
  pub among : (y : ℕ) → Lacks xs y → Lacks places y

rest_at : (next : List ℕ) (from end x : ℕ) (xs : List ℕ) → IsPath next from xs end → (k : ℕ) → k < length xs → get_or xs k x ≡ x → Rest next xs x end
rest_at next from end x [] path k within is = absurd (omega arith)
rest_at next from end x (z ∷ xs) path zero within is = record {
  places = xs;
  path = let P : ℕ → Type 0 = λ y. IsPath next y xs end in subst P is path.2;
  shorter = omega arith;
  among = λ y. lacks_tail z y xs;
}
rest_at next from end x (z ∷ xs) path (suc k) within is =
    let rest = rest_at next z end x xs path.2 k (omega arith) is in
    record {
      places = rest.places;
      path = rest.path;
      shorter = (let less : length rest.places < length xs = rest.shorter in omega arith);
      among = λ y none. rest.among y (lacks_tail z y xs none);
    }

pub rest_of : (next : List ℕ) (from end x : ℕ) (xs : List ℕ) → IsPath next from xs end → Contains xs x → Rest next xs x end
rest_of next from end x xs path c = rest_at next from end x xs path c.0 c.1 c.2

-- A path doesn't come back to the place that it is from.
pub lacks_start : (next : List ℕ) (from end : ℕ) (xs : List ℕ) → IsPath next from xs end → Lacks xs from
lacks_start next from end xs path = λ c.
    let rest = rest_of next from end from xs path c in
    let same : rest.places ≡ xs = same_path next from end rest.places xs rest.path path in
    let less : length rest.places < length xs = rest.shorter in
    let equal : length rest.places ≡ length xs = ap length same in
    absurd (omega arith)

-- A place that comes after itself is on no path to another one.
never_ends : (next : List ℕ) (p end : ℕ) (xs : List ℕ) → slice_get next p ≡ Some p → p ≢ end → IsPath next p xs end → ⊥
never_ends next p end [] alone other path = other (same_next next p p end alone path)
never_ends next p end (x ∷ xs) alone other path =
    let same : x ≡ p = same_next next p x p path.0 alone in
    never_ends next p end xs alone other (let P : ℕ → Type 0 = λ y. IsPath next y xs end in subst P same path.2)

pub lacks_alone : (next : List ℕ) (from p end : ℕ) (xs : List ℕ) → slice_get next p ≡ Some p → p ≢ end → IsPath next from xs end → Lacks xs p
lacks_alone next from p end xs alone other path = λ c.
    let rest = rest_of next from end p xs path c in never_ends next p end rest.places alone other rest.path

-- A path stays where each step stays, but for those from `p` and to `q`.
pub path_stays : (old new : List ℕ) (p q : ℕ) → ((s t : ℕ) → s ≢ p → t ≢ q → slice_get old s ≡ Some t → slice_get new s ≡ Some t)
    → (from end : ℕ) (xs : List ℕ) → from ≢ p → end ≢ q → Lacks xs p → Lacks xs q → IsPath old from xs end → IsPath new from xs end
path_stays old new p q keep from end [] start stop no_p no_q path = keep from end start stop path
path_stays old new p q keep from end (x ∷ xs) start stop no_p no_q path = (
  keep from x start (lacks_head x q xs no_q) path.0,
  path.1,
  path_stays old new p q keep x end xs (lacks_head x p xs no_p) stop (lacks_tail x p xs no_p) (lacks_tail x q xs no_q) path.2,
)

-- The first place of a path.
pub first_by : (next : List ℕ) (from end : ℕ) (r : Option ℕ) → ((p : ℕ) → (r ≡ Some p) ↔ ((slice_get next from ≡ Some p) × (p ≢ end) × (p < length next)))
    → (xs : List ℕ) → IsPath next from xs end → r ≡ slice_get xs 0
first_by next from end None link [] path = refl
first_by next from end (Some p) link [] path = let there = (link p).0 refl in absurd (there.1 (same_next next from p end there.0 path))
first_by next from end r link (x ∷ xs) path = (link x).1 (path.0, path.1, start_within next x end xs path.2)
