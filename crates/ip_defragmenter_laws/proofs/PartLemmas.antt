-- The fragments of one packet that was sent, added to one memory.
use Rattle.std.proofs.Common.{◌≡◌, ℕ, ◌+◌, ◌≤◌, List, [], ◌∷◌, Bool, true, false, length, refl, sym, ap, ◌∙◌, arith, inl, inr, Option, Some, None, Result, Ok, cond, not, ◌&&◌, eqb, ltb}
use Rattle.std.specs.Prelude.{is_some, IfSome}
use Rattle.std.specs.List.{All, list_any}
use Rattle.std.proofs.lemmas.Bool.{cases_Bool, and_parts, eqb-true, false≢true, le-ltb, cond-false, not_from_true}
use Rattle.std.proofs.lemmas.List.Elements.{All-cons}
use Rattle.ip_reassembly.specs.Fragment.{Fragment}
use Rattle.ip_reassembly.specs.Payload.{payload_of}
use Rattle.ip_reassembly.specs.Split.{IsSplit, are_among}
use Rattle.ip_reassembly.specs.declared.progress.Progress.{Progress}
use Rattle.ip_reassembly.specs.declared.progress.Progress.TheVariants.{Whole, MoreWanted}
use Rattle.ip_defragmenter.specs.Ecn.{are_mixed, is_capable, is_congested, marked, point_of}
use Rattle.ip_defragmenter.specs.FragmentOf.{FragmentParts}
use Rattle.ip_defragmenter.specs.Memory.{AreJoinable, FirstParts, Stored, WasStored, first_after, first_of, is_complete, is_store_conflict, outcome_by, own_refusal, piece_of, pieces_of, points_of, stored_all, stored_by, stored_none, stored_outcome, stored_refusal, stored_with}
use Rattle.ip_defragmenter.specs.Whole.{are_headers, stated_by, whole_fault, whole_packet}
use Rattle.ip_defragmenter.specs.declared.err.StoreError.{StoreError}
use Rattle.ip_defragmenter.specs.declared.memory.PacketMemory.{PacketMemory}
use Rattle.ip_defragmenter.proofs.PiecesLemmas.{joined_outcome, joined_payload, joined_points}
use Rattle.ip_defragmenter_laws.specs.Written.{HasPacket}
use Rattle.ip_defragmenter_laws.proofs.MarkedLemmas.{marked_same}

-- With this first fragment the packet s is made whole.
pub record IsFirst (point : ℕ) (payload s : List ℕ) (f : FirstParts) : Type 0 where
  pub headers : are_headers f.headers f.link ≡ true
  pub fits : stated_by f.headers (length payload) ≤ 65535
  pub len : length f.headers + length payload ≡ length s
  pub point_is : point_of f.headers ≡ point
  pub long : 2 ≤ length f.headers
  pub whole : whole_packet f.headers f.link f.number payload ≡ s

-- A fragment of s with this piece.
pub record IsPart (point : ℕ) (payload s : List ℕ) (p : Fragment) (f : FragmentParts) : Type 0 where
  pub piece : piece_of f ≡ p
  pub sound : own_refusal f ≡ None
  pub ecn : f.ecn ≡ point
  pub first : f.offset ≡ 0 → IsFirst point payload s (first_of f)

-- Each is one, of the pieces in order.
abbrev pub AreParts : ℕ → List ℕ → List ℕ → List Fragment → List FragmentParts → Type 0
AreParts point payload s [] [] = Unit {0}
AreParts point payload s [] (f ∷ fs) = ⊥
AreParts point payload s (p ∷ ps) [] = ⊥
AreParts point payload s (p ∷ ps) (f ∷ fs) = IsPart point payload s p f × AreParts point payload s ps fs

same_pieces : (point : ℕ) (payload s : List ℕ) (ps : List Fragment) (fs : List FragmentParts) → AreParts point payload s ps fs → pieces_of fs ≡ ps
same_pieces point payload s [] [] are = refl
same_pieces point payload s [] (f ∷ fs) are = absurd are
same_pieces point payload s (p ∷ ps) [] are = absurd are
same_pieces point payload s (p ∷ ps) (f ∷ fs) are =
    ap (λ (x : Fragment). x ∷ pieces_of fs) are.0.piece ∙ ap (λ (xs : List Fragment). p ∷ xs) (same_pieces point payload s ps fs are.1)

all_sound : (point : ℕ) (payload s : List ℕ) (ps : List Fragment) (fs : List FragmentParts) → AreParts point payload s ps fs → All (λ f. own_refusal f ≡ None) fs
all_sound point payload s [] [] are = λ k d less. absurd (omega arith)
all_sound point payload s [] (f ∷ fs) are = absurd are
all_sound point payload s (p ∷ ps) [] are = absurd are
all_sound point payload s (p ∷ ps) (f ∷ fs) are =
    let P : FragmentParts → Type 0 = λ g. own_refusal g ≡ None in
    All-cons P f fs are.0.sound (all_sound point payload s ps fs are.1)

all_fit : (point : ℕ) (payload s : List ℕ) (ps : List Fragment) (fs : List FragmentParts) → AreParts point payload s ps fs → All (λ f. f.offset ≡ 0 → stated_by f.headers (length payload) ≤ 65535) fs
all_fit point payload s [] [] are = λ k d less. absurd (omega arith)
all_fit point payload s [] (f ∷ fs) are = absurd are
all_fit point payload s (p ∷ ps) [] are = absurd are
all_fit point payload s (p ∷ ps) (f ∷ fs) are =
    let P : FragmentParts → Type 0 = λ g. g.offset ≡ 0 → stated_by g.headers (length payload) ≤ 65535 in
    All-cons P f fs (λ at. (are.0.first at).fits) (all_fit point payload s ps fs are.1)

-- A test of a code point is false of all of them if it is of one.
none_pass : (test : ℕ → Bool) (point : ℕ) (payload s : List ℕ) (ps : List Fragment) (fs : List FragmentParts) → test point ≡ false → AreParts point payload s ps fs → list_any test (points_of fs) ≡ false
none_pass test point payload s [] [] fails are = refl
none_pass test point payload s [] (f ∷ fs) fails are = absurd are
none_pass test point payload s (p ∷ ps) [] fails are = absurd are
none_pass test point payload s (p ∷ ps) (f ∷ fs) fails are =
    let first : test f.ecn ≡ false = ap test are.0.ecn ∙ fails in
    let rest : list_any test (points_of fs) ≡ false = none_pass test point payload s ps fs fails are.1 in
    rw (first, rest) refl

and_false : (a b : Bool) → b ≡ false → (a && b) ≡ false
and_false true b is = is
and_false false b is = refl

first_false : (a b : Bool) → a ≡ false → (a && b) ≡ false
first_false true b is = absurd (false≢true (sym is))
first_false false b is = refl

alike : (point : ℕ) (payload s : List ℕ) (ps : List Fragment) (fs : List FragmentParts) → AreParts point payload s ps fs → are_mixed (points_of fs) ≡ false
alike point payload s ps fs are = elim (cases_Bool (eqb point 0)) [
  | inl zero_point ↦ and_false (list_any (λ x. eqb x 0) (points_of fs)) (list_any is_capable (points_of fs)) (none_pass is_capable point payload s ps fs (not_from_true (eqb point 0) zero_point) are)
  | inr other ↦ first_false (list_any (λ x. eqb x 0) (points_of fs)) (list_any is_capable (points_of fs)) (none_pass (λ x. eqb x 0) point payload s ps fs other are)
]

pub joinable : (point : ℕ) (payload s : List ℕ) (ps : List Fragment) (fs : List FragmentParts) → AreParts point payload s ps fs → AreJoinable (length payload) fs
joinable point payload s ps fs are = record {
  sound = all_sound point payload s ps fs are;
  alike = alike point payload s ps fs are;
  fit = all_fit point payload s ps fs are;
}

-- If they are congested, their point says it.
congested : (point : ℕ) (payload s : List ℕ) (ps : List Fragment) (fs : List FragmentParts) → AreParts point payload s ps fs → is_congested (points_of fs) ≡ true → point ≡ 3
congested point payload s ps fs are is = elim (cases_Bool (eqb point 3)) [
  | inl three ↦ eqb-true point 3 three
  | inr other ↦ absurd (false≢true (sym (none_pass (λ x. eqb x 3) point payload s ps fs other are) ∙ is))
]

-- What the memory has of the first fragment.
first_by : (b : Bool) (point : ℕ) (payload s : List ℕ) (o : Option FirstParts) (f : FragmentParts) → (b ≡ true → IsFirst point payload s (first_of f)) → IfSome o (IsFirst point payload s)
    → IfSome (cond b (Some (first_of f)) o) (IsFirst point payload s)
first_by true point payload s o f own old = own refl
first_by false point payload s o f own old = old

first_with : (point : ℕ) (payload s : List ℕ) (o : Option FirstParts) (f : FragmentParts) → (f.offset ≡ 0 → IsFirst point payload s (first_of f)) → IfSome o (IsFirst point payload s) → IfSome (first_after o f) (IsFirst point payload s)
first_with point payload s o f own old =
    first_by (eqb f.offset 0 && not (is_some o)) point payload s o f (λ is. own (eqb-true f.offset 0 (and_parts (eqb f.offset 0) (not (is_some o)) is).0)) old

first_refused : (b : Bool) (t : Stored) (Q : FirstParts → Type 0) → IfSome t.first Q → IfSome (cond b (record t { payload = record t.payload { abandoned = true } }) t).first Q
first_refused true t Q old = old
first_refused false t Q old = old

first_stored : (point : ℕ) (payload s : List ℕ) (t : Stored) (f : FragmentParts) (o : Option StoreError) → (f.offset ≡ 0 → IsFirst point payload s (first_of f)) → IfSome t.first (IsFirst point payload s)
    → IfSome (stored_by t f o).first (IsFirst point payload s)
first_stored point payload s t f None own old = first_with point payload s t.first f own old
first_stored point payload s t f (Some e) own old = first_refused (is_store_conflict e) t (IsFirst point payload s) old

first_all : (point : ℕ) (payload s : List ℕ) (ps : List Fragment) (fs : List FragmentParts) → AreParts point payload s ps fs → IfSome (stored_all (stored_none 65535) fs).first (IsFirst point payload s)
first_all point payload s [] [] are = tt
first_all point payload s [] (f ∷ fs) are = absurd are
first_all point payload s (p ∷ ps) [] are = absurd are
first_all point payload s (p ∷ ps) (f ∷ fs) are =
    let t : Stored = stored_all (stored_none 65535) fs in
    first_stored point payload s t f (stored_refusal t f) are.0.first (first_all point payload s ps fs are.1)

-- A whole packet has its first fragment.
complete : (b : Bool) → (let r : Result Progress StoreError = Ok (cond b Whole MoreWanted) in r) ≡ Ok Whole → b ≡ true
complete true is = refl
complete false is = absurd (cc)

whole_first : (t : Stored) (f : FragmentParts) (o : Option StoreError) → outcome_by t f o ≡ Ok Whole → is_some (stored_by t f o).first ≡ true
whole_first t f None is = (and_parts (is_some (payload_of (stored_with t f).payload.fragments)) (is_some (stored_with t f).first) (complete (is_complete (stored_with t f)) is)).1
whole_first t f (Some e) is = absurd (cc)

record HasFirst (Q : FirstParts → Type 0) (o : Option FirstParts) : Type 0 where
  first : FirstParts
  there : o ≡ Some first
  is : Q first

has_first : (point : ℕ) (payload s : List ℕ) (o : Option FirstParts) → is_some o ≡ true → IfSome o (IsFirst point payload s) → HasFirst (IsFirst point payload s) o
has_first point payload s None is all = absurd (false≢true is)
has_first point payload s (Some f) is all = record { first = f; there = refl; is = all }

-- The outcome for one more of them.
pub part_outcome : (point : ℕ) (payload s : List ℕ) (pieces : List Fragment) (p : Fragment) (ps : List Fragment) (f : FragmentParts) (fs : List FragmentParts) → IsSplit payload pieces → length payload ≤ 65535
    → are_among (p ∷ ps) pieces ≡ true → AreParts point payload s (p ∷ ps) (f ∷ fs)
    → stored_outcome (stored_all (stored_none 65535) fs) f ≡ Ok (cond (are_among pieces (p ∷ ps)) Whole MoreWanted)
part_outcome point payload s pieces p ps f fs split fits all are =
    let same : pieces_of (f ∷ fs) ≡ p ∷ ps = same_pieces point payload s (p ∷ ps) (f ∷ fs) are in
    joined_outcome payload pieces 65535 fs f split fits (ap (λ (xs : List Fragment). are_among xs pieces) same ∙ all) (joinable point payload s (p ∷ ps) (f ∷ fs) are)
    ∙ ap (λ (xs : List Fragment). (let r : Result Progress StoreError = Ok (cond (are_among pieces xs) Whole MoreWanted) in r)) same

-- Nothing prevents a write.
no_fault : (headers : List ℕ) (link n room : ℕ) → are_headers headers link ≡ true → stated_by headers n ≤ 65535 → length headers + n ≤ room → whole_fault headers link n room ≡ None
no_fault headers link n room are fits enough =
    cond-false (not (are_headers headers link)) _ _ (not_from_true (are_headers headers link) are)
    ∙ (cond-false (ltb 65535 (stated_by headers n)) _ _ (le-ltb 65535 (stated_by headers n) fits)
    ∙ cond-false (ltb room (length headers + n)) _ _ (le-ltb room (length headers + n) enough))

-- The memory then has the packet.
pub part_packet : (point : ℕ) (payload s : List ℕ) (pieces : List Fragment) (p : Fragment) (ps : List Fragment) (f : FragmentParts) (fs : List FragmentParts) (m : PacketMemory) → IsSplit payload pieces → length payload ≤ 65535
    → are_among (p ∷ ps) pieces ≡ true → are_among pieces (p ∷ ps) ≡ true → AreParts point payload s (p ∷ ps) (f ∷ fs) → WasStored m 65535 (f ∷ fs) → HasPacket m s
part_packet point payload s pieces p ps f fs m split fits all every are holds =
    let same : pieces_of (f ∷ fs) ≡ p ∷ ps = same_pieces point payload s (p ∷ ps) (f ∷ fs) are in
    let t : Stored = stored_all (stored_none 65535) fs in
    let among : are_among (pieces_of (f ∷ fs)) pieces ≡ true = ap (λ (xs : List Fragment). are_among xs pieces) same ∙ all in
    let onto : are_among pieces (pieces_of (f ∷ fs)) ≡ true = ap (λ (xs : List Fragment). are_among pieces xs) same ∙ every in
    let join = joinable point payload s (p ∷ ps) (f ∷ fs) are in
    let outcome : (let r : Result Progress StoreError = outcome_by t f (stored_refusal t f) in r) ≡ Ok Whole =
    part_outcome point payload s pieces p ps f fs split fits all are ∙ ap (λ (b : Bool). (let r : Result Progress StoreError = Ok (cond b Whole MoreWanted) in r)) every in
    let found = has_first point payload s (stored_all (stored_none 65535) (f ∷ fs)).first (whole_first t f (stored_refusal t f) outcome) (first_all point payload s (p ∷ ps) (f ∷ fs) are) in
    let points : (stored_all (stored_none 65535) (f ∷ fs)).points ≡ points_of (f ∷ fs) = joined_points payload pieces 65535 (f ∷ fs) split fits among join in
    let mark : marked (is_congested (stored_all (stored_none 65535) (f ∷ fs)).points) found.first.headers ≡ found.first.headers =
    ap (λ (xs : List ℕ). marked (is_congested xs) found.first.headers) points
    ∙ marked_same (is_congested (points_of (f ∷ fs))) found.first.headers found.is.long (λ is. found.is.point_is ∙ congested point payload s (p ∷ ps) (f ∷ fs) are is) in
    record {
      stored = stored_all (stored_none 65535) (f ∷ fs);
      payload = payload;
      first = found.first;
      holds = holds;
      payload_is = joined_payload payload pieces 65535 (f ∷ fs) split fits among join onto;
      first_is = found.there;
      packet = ap (λ (h : List ℕ). whole_packet h found.first.link found.first.number payload) mark ∙ found.is.whole;
      len = found.is.len;
      writable = λ room enough. no_fault found.first.headers found.first.link (length payload) room found.is.headers found.is.fits (omega (arith, found.is.len, enough));
    }
