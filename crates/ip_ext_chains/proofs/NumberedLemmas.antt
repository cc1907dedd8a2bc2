-- How many headers fit one struct with a place for each.
use Rattle.ip_spec.proofs.Common.{rules, ◌≡◌, ℕ, ◌≤◌, List, [], ◌∷◌, ◌++◌, length, take, map, sym, ◌∙◌, Some, None, is_some, ◌↔◌, AllByRecursion, map-append, append-nil, take_all, KeepsBeginning, IsExtensionNumber, ExtHeader, Fits, FitsPlaces, Place, number_in, header_in, next_place}
use Rattle.ip_spec.proofs.PlaceLemmas.{bare, placed, own_next, fits_more, fits_where_next, next_alike, place_number}
use Rattle.ip_spec.proofs.FitsLemmas.{fits-map}
use Rattle.ip_spec.proofs.WalkLemmas.{none_if}
use Rattle.ip_ext_chains.specs.InPlaces.{AreInPlaces}
use Rattle.ip_ext_chains.specs.Slots.{at, IsVacant, IsPut}
use Rattle.ip_ext_chains.specs.declared.places.Places.{Places}

all_more : {X : Type 0} (P : X → Type 0) (xs : List X) (x : X) → AllByRecursion P (xs ++ x ∷ []) ↔ (AllByRecursion P xs × P x)
all_more P [] x = ((λ a. (tt, a.0)), λ a. (a.1, tt))
all_more P (y ∷ xs) x =
    let more = all_more P xs x in
    ((λ a. let b = more.0 a.1 in ((a.0, b.0), b.1)), λ a. (a.0.0, more.1 (a.0.1, a.1)))

place_extension : (m : ℕ) (p : Place) → m ≡ number_in p → IsExtensionNumber m
place_extension m p e = search rules

module _ {X : Type 0} (number : X → ℕ) where
  -- headers with these numbers and no bytes
  abbrev bares : List X → List ExtHeader
  bares xs = map (λ x. bare (number x)) xs

  fits_bare : (xs : List X) → FitsPlaces (bares xs) ↔ Fits number xs
  fits_bare xs = fits-map (λ x. bare (number x)) (λ h. h.number) xs

  -- the headers fit, and exactly their places are occupied
  pub record AreMarked {T : Type 0} (xs : List X) (v : Places T) : Type 0 where
    pub fit : AreInPlaces number xs
    pub marks : (p : Place) → is_some (at p v) ≡ is_some (header_in p (bares xs))

  pub marked_none : {T : Type 0} (v : Places T) → IsVacant v → AreMarked [] v
  marked_none v vacant = search (rules, vacant)

  module _ {T : Type 0} (xs : List X) (v : Places T) (k : AreMarked xs v) (x : X) (m : ℕ) (own_number : m ≡ number x) where
    same : next_place (λ p. at p v) m ≡ next_place (λ p. header_in p (bares xs)) (number x)
    same = rw own_number (next_alike (λ p. at p v) (λ p. header_in p (bares xs)) (number x) k.marks)

    more : bares (xs ++ x ∷ []) ≡ bares xs ++ bare (number x) ∷ []
    more = map-append (λ y. bare (number y)) xs (x ∷ [])

    -- one more header takes the next place
    pub marked_more : (w : Places T) (p : Place) (y : T) → next_place (λ q. at q v) m ≡ Some p → IsPut p y v w → AreMarked (xs ++ x ∷ []) w
    marked_more w p y next put =
        let own = own_next (λ q. header_in q (bares xs)) (number x) p (sym same ∙ next) in
        let is = place_extension (number x) p (place_number (number x) p _ own.0) in
        let fits = fits_more (bares xs) (bare (number x)) p ((fits_bare xs).1 k.fit.fit) own.0 own.1 in
        let there = placed (bares xs) (bare (number x)) p own.0 (none_if _ own.1) in
        record {
          fit = record { extensions = (all_more (λ y. IsExtensionNumber (number y)) xs x).1 (k.fit.extensions, is); fit = (fits_bare (xs ++ x ∷ [])).0 (rw more fits) };
          marks = λ q. rw (put q, more, there q) (search (rules, k.marks q));
        }

    -- if there is none, it doesn't fit
    pub marked_all : next_place (λ q. at q v) m ≡ None → AreInPlaces number (xs ++ x ∷ []) → ⊥
    marked_all none fit =
        let is = ((all_more (λ y. IsExtensionNumber (number y)) xs x).0 fit.extensions).1 in
        let some = (fits_where_next (bares xs) (bare (number x)) ((fits_bare xs).1 k.fit.fit) is).0 (rw more at ((fits_bare (xs ++ x ∷ [])).1 fit.fit)) in
        cc (some, same, none)

pub kept_whole : {X : Type 0} (Q : List X → Type 0) (xs : List X) (k : ℕ) → length xs ≤ k → Q (take k xs) → KeepsBeginning Q xs (take (length xs) xs)
kept_whole Q xs k all q = search (rules, take_all, append-nil)
