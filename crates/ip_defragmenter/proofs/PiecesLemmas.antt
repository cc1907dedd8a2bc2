-- The fragments of one payload, in any order and repeated.
use Rattle.std.proofs.Common.{◌≡◌, ℕ, ◌*◌, ◌≤◌, Bool, true, false, cond, List, [], ◌∷◌, length, refl, sym, ap, ◌∙◌, subst, arith, ◌&&◌, ◌||◌, eqb, not}
use Rattle.std.specs.Prelude.{Option, Some, None, Result, Ok, is_some}
use Rattle.std.specs.List.{list_any}
use Rattle.std.specs.Option.{option_map, option_or}
use Rattle.std.proofs.lemmas.Bool.{cond-true, cond-false, eqb-true, le-ltb, and_parts, or_left, or_right}
use Rattle.std.proofs.lemmas.List.Elements.{All-head, All-tail}
use Rattle.ip_reassembly.specs.Fragment.{Fragment, end_of, is_same}
use Rattle.ip_reassembly.specs.Payload.{payload_of}
use Rattle.ip_reassembly.specs.Received.{Received, received_none, received_all, received_after, outcome_of, payload_in}
use Rattle.ip_reassembly.specs.Reassembly.{reach_of}
use Rattle.ip_reassembly.specs.Split.{IsSplit, SplitsFrom, are_among}
use Rattle.ip_reassembly.specs.declared.progress.Progress.{Progress}
use Rattle.ip_reassembly.specs.declared.progress.Progress.TheVariants.{Whole, MoreWanted}
use Rattle.ip_reassembly.proofs.FragmentLemmas.{is_same_self}
use Rattle.ip_reassembly.proofs.MemberLemmas.{passing_one, any_from_member}
use Rattle.ip_reassembly.proofs.SplitLemmas.{member_piece}
use Rattle.ip_reassembly.proofs.GivenLemmas.{among_from, received_given, pieces_received, payload_of_pieces, outcome_of_piece}
use Rattle.ip_defragmenter.specs.Ecn.{is_capable, are_mixed}
use Rattle.ip_defragmenter.specs.FragmentOf.{FragmentParts}
use Rattle.ip_defragmenter.specs.Memory.{Stored, FirstParts, AreJoinable, pieces_of, points_of, piece_of, first_of, first_after, exceeds, own_refusal, refusal_after, stored_refusal, stored_by, stored_none, stored_all, stored_outcome, outcome_by, stored_with}
use Rattle.ip_defragmenter.specs.Whole.{stated_by}
use Rattle.ip_defragmenter.specs.declared.err.StoreError.{StoreError}
use Rattle.ip_defragmenter.specs.declared.err.StoreError.TheVariants.{Payload}
use Rattle.ip_defragmenter.proofs.MemoryLemmas.{took, by_payload, reach_with}
use Rattle.ip_defragmenter.proofs.WholeLemmas.{stated_le}

-- With this first fragment, a packet with n bytes of payload isn't too long.
abbrev pub Fits : ℕ → Option FirstParts → Type 0
Fits n None = Unit {0}
Fits n (Some p) = stated_by p.headers n ≤ 65535

-- What has been stored after these fragments of a packet with n bytes of payload.
pub record IsJoined (limit n : ℕ) (given : List FragmentParts) (s : Stored) : Type 0 where
  pub payload : s.payload ≡ received_all (received_none limit true) (pieces_of given)
  pub points : s.points ≡ points_of given
  pub first : is_some s.first ≡ list_any (λ (f : FragmentParts). eqb f.offset 0) given
  pub fits : Fits n s.first

none_exceeds : (o : Option FirstParts) (n m : ℕ) → m ≤ n → Fits n o → exceeds o m ≡ false
none_exceeds None n m less fits = refl
none_exceeds (Some p) n m less fits = le-ltb 65535 (stated_by p.headers m) (stated_le p.headers m n less fits)

fits_by : (n : ℕ) (o : Option FirstParts) (f : FragmentParts) (b : Bool) → Fits n o → (f.offset ≡ 0 → stated_by f.headers n ≤ 65535) → (eqb f.offset 0 && not (is_some o)) ≡ b → Fits n (cond b (Some (first_of f)) o)
fits_by n o f true fits own is = own (eqb-true f.offset 0 (and_parts (eqb f.offset 0) (not (is_some o)) is).0)
fits_by n o f false fits own is = fits

some_by : (x : Bool) (p : FirstParts) (o : Option FirstParts) → is_some (cond (x && not (is_some o)) (Some p) o) ≡ (x || is_some o)
some_by true p None = refl
some_by true p (Some q) = refl
some_by false p o = refl

-- No fragment ends after all of them.
reach_within : (fs : List Fragment) (n : ℕ) → ((g : Fragment) → list_any (is_same g) fs ≡ true → end_of g ≤ n) → reach_of fs ≤ n
reach_within [] n each = omega arith
reach_within (f ∷ fs) n each =
    omega (arith, each f (or_left (is_same f f) (list_any (is_same f) fs) (is_same_self f)), reach_within fs n (λ g among. each g (or_right (is_same g f) (list_any (is_same g) fs) among)))

pub record IsAccepted (limit n : ℕ) (given : List FragmentParts) (s : Stored) (f : FragmentParts) : Type 0 where
  pub none : stored_refusal s f ≡ None
  pub joined : IsJoined limit n (f ∷ given) (stored_with s f)

pub one_joined : (payload : List ℕ) (pieces : List Fragment) (limit : ℕ) (given : List FragmentParts) (f : FragmentParts) (s : Stored) → IsSplit payload pieces → length payload ≤ limit → are_among (pieces_of (f ∷ given)) pieces ≡ true → AreJoinable (length payload) (f ∷ given) → IsJoined limit (length payload) given s
    → IsAccepted limit (length payload) given s f
one_joined payload pieces limit given f s split fits all joinable joined =
    let n : ℕ = length payload in
    let parts = and_parts (list_any (is_same (piece_of f)) pieces) (are_among (pieces_of given) pieces) all in
    let r : Received = received_all (received_none limit true) (pieces_of given) in
    let alive : s.payload.abandoned ≡ false = ap (λ (x : Received). x.abandoned) joined.payload ∙ (pieces_received payload pieces limit true (pieces_of given) split fits parts.1).abandoned in
    let alike : are_mixed (f.ecn ∷ s.points) ≡ false = ap (λ (ps : List ℕ). are_mixed (f.ecn ∷ ps)) joined.points ∙ joinable.alike in
    let room : Fits n (first_after s.first f) = fits_by n s.first f (eqb f.offset 0 && not (is_some s.first)) joined.fits (All-head (λ (g : FragmentParts). g.offset ≡ 0 → stated_by g.headers n ≤ 65535) f given joinable.fit) refl in
    let own_end : end_of (piece_of f) ≤ n = omega (arith, (member_piece 0 payload pieces (piece_of f) split parts.0).high) in
    let reach : reach_of r.fragments ≤ n = reach_within r.fragments n (λ g among. omega (arith, (member_piece 0 payload pieces g split (among_from (pieces_of given) pieces g parts.1 (received_given limit true (pieces_of given) g among))).high)) in
    let less : reach_with s f ≤ n = omega (arith, ap (λ (x : Received). reach_of x.fragments) joined.payload, reach, own_end) in
    let short : exceeds (first_after s.first f) (reach_with s f) ≡ false = none_exceeds (first_after s.first f) n (reach_with s f) less room in
    let outcome : (let o : Result Progress _ = Ok (cond (are_among pieces (pieces_of (f ∷ given))) Whole MoreWanted) in o) ≡ outcome_of s.payload (piece_of f) =
    sym (ap (λ (x : Received). outcome_of x (piece_of f)) joined.payload ∙ outcome_of_piece payload pieces limit true (pieces_of given) (piece_of f) split fits all) in
    let t = took s.payload (piece_of f) (cond (are_among pieces (pieces_of (f ∷ given))) Whole MoreWanted) alive outcome in
    record {
      none =
          ap (λ (o : Option StoreError). option_or o (refusal_after s f)) (All-head (λ (g : FragmentParts). own_refusal g ≡ None) f given joinable.sound)
          ∙ (by_payload s f alive alike short ∙ ap (option_map Payload) t.none);
      joined = record {
        payload = sym t.after ∙ ap (λ (x : Received). received_after x (piece_of f)) joined.payload;
        points = ap (λ (ps : List ℕ). f.ecn ∷ ps) joined.points;
        first = some_by (eqb f.offset 0) (first_of f) s.first ∙ ap (λ (b : Bool). eqb f.offset 0 || b) joined.first;
        fits = room;
      };
    }

-- Fewer of them can be joined, too.
unmixed_by : (a b c d : Bool) → ((a || b) && (c || d)) ≡ false → (b && d) ≡ false
unmixed_by a false c d is = refl
unmixed_by a true c false is = refl
unmixed_by a true c true is = grind (arith, is)

joinable_rest : (n : ℕ) (f : FragmentParts) (fs : List FragmentParts) → AreJoinable n (f ∷ fs) → AreJoinable n fs
joinable_rest n f fs h = record {
  sound = All-tail (λ (g : FragmentParts). own_refusal g ≡ None) f fs h.sound;
  alike = unmixed_by (eqb f.ecn 0) (list_any (λ p. eqb p 0) (points_of fs)) (is_capable f.ecn) (list_any is_capable (points_of fs)) h.alike;
  fit = All-tail (λ (g : FragmentParts). g.offset ≡ 0 → stated_by g.headers n ≤ 65535) f fs h.fit;
}

pub all_joined : (payload : List ℕ) (pieces : List Fragment) (limit : ℕ) (given : List FragmentParts) → IsSplit payload pieces → length payload ≤ limit → are_among (pieces_of given) pieces ≡ true → AreJoinable (length payload) given → IsJoined limit (length payload) given (stored_all (stored_none limit) given)
all_joined payload pieces limit [] split fits all joinable = record { payload = refl; points = refl; first = refl; fits = tt }
all_joined payload pieces limit (f ∷ given) split fits all joinable =
    let parts = and_parts (list_any (is_same (piece_of f)) pieces) (are_among (pieces_of given) pieces) all in
    let s : Stored = stored_all (stored_none limit) given in
    let step = one_joined payload pieces limit given f s split fits all joinable (all_joined payload pieces limit given split fits parts.1 (joinable_rest (length payload) f given joinable)) in
    subst (λ (o : Option StoreError). IsJoined limit (length payload) (f ∷ given) (stored_by s f o)) (sym step.none) step.joined

-- The first piece is at the start.
starts : (payload : List ℕ) (pieces : List Fragment) → SplitsFrom 0 payload pieces → list_any (λ (g : Fragment). eqb g.offset 0) pieces ≡ true
starts payload [] split = absurd split
starts payload (g ∷ []) split = ap (λ (x : Fragment). eqb x.offset 0 || false) split
starts payload (g ∷ h ∷ hs) (n, positive, within, units, e, split) = ap (λ (x : Fragment). eqb x.offset 0 || list_any (λ (y : Fragment). eqb y.offset 0) (h ∷ hs)) e

same_start : (f : FragmentParts) → eqb (8 * f.offset) 0 ≡ eqb f.offset 0
same_start f = grind arith

start_among : (fs : List FragmentParts) → list_any (λ (g : Fragment). eqb g.offset 0) (pieces_of fs) ≡ list_any (λ (f : FragmentParts). eqb f.offset 0) fs
start_among [] = refl
start_among (f ∷ fs) = ap (λ (b : Bool). b || list_any (λ (g : Fragment). eqb g.offset 0) (pieces_of fs)) (same_start f) ∙ ap (λ (b : Bool). eqb f.offset 0 || b) (start_among fs)

first_there : (payload : List ℕ) (pieces : List Fragment) (given : List FragmentParts) → IsSplit payload pieces → are_among pieces (pieces_of given) ≡ true → list_any (λ (f : FragmentParts). eqb f.offset 0) given ≡ true
first_there payload pieces given split all =
    let start = passing_one (λ (g : Fragment). eqb g.offset 0) pieces (starts payload pieces split) in
    sym (start_among given) ∙ any_from_member (λ (g : Fragment). eqb g.offset 0) (pieces_of given) start.one (among_from pieces (pieces_of given) start.one all start.among) start.passes

some_if : (payload : List ℕ) (b : Bool) → is_some (cond b (Some payload) None) ≡ b
some_if payload true = refl
some_if payload false = refl

progress_if : (b x : Bool) → (b ≡ true → x ≡ true) → cond (b && x) Whole MoreWanted ≡ cond b Whole MoreWanted
progress_if true x there = ap (λ (y : Bool). cond y Whole MoreWanted) (there refl)
progress_if false x there = refl

-- The outcome of a fragment of a payload.
pub joined_outcome : (payload : List ℕ) (pieces : List Fragment) (limit : ℕ) (given : List FragmentParts) (f : FragmentParts) → IsSplit payload pieces → length payload ≤ limit → are_among (pieces_of (f ∷ given)) pieces ≡ true → AreJoinable (length payload) (f ∷ given)
    → stored_outcome (stored_all (stored_none limit) given) f ≡ Ok (cond (are_among pieces (pieces_of (f ∷ given))) Whole MoreWanted)
joined_outcome payload pieces limit given f split fits all joinable =
    let parts = and_parts (list_any (is_same (piece_of f)) pieces) (are_among (pieces_of given) pieces) all in
    let s : Stored = stored_all (stored_none limit) given in
    let step = one_joined payload pieces limit given f s split fits all joinable (all_joined payload pieces limit given split fits parts.1 (joinable_rest (length payload) f given joinable)) in
    let every : Bool = are_among pieces (pieces_of (f ∷ given)) in
    let whole : is_some (payload_of (stored_with s f).payload.fragments) ≡ every =
    ap (λ (x : Received). is_some (payload_of x.fragments)) step.joined.payload
    ∙ (ap is_some (payload_of_pieces payload pieces limit true (pieces_of (f ∷ given)) split fits all) ∙ some_if payload every) in
    ap (outcome_by s f) step.none
    ∙ ap Ok (ap (λ (b : Bool). cond (b && is_some (stored_with s f).first) Whole MoreWanted) whole
    ∙ progress_if every (is_some (stored_with s f).first) (λ yes. step.joined.first ∙ first_there payload pieces (f ∷ given) split yes))

-- The payload that has been stored then.
pub joined_payload : (payload : List ℕ) (pieces : List Fragment) (limit : ℕ) (given : List FragmentParts) → IsSplit payload pieces → length payload ≤ limit → are_among (pieces_of given) pieces ≡ true → AreJoinable (length payload) given → are_among pieces (pieces_of given) ≡ true
    → payload_in (stored_all (stored_none limit) given).payload ≡ Some payload
joined_payload payload pieces limit given split fits all joinable every =
    let r : Received = received_all (received_none limit true) (pieces_of given) in
    ap payload_in (all_joined payload pieces limit given split fits all joinable).payload
    ∙ (cond-false r.abandoned None (payload_of r.fragments) (pieces_received payload pieces limit true (pieces_of given) split fits all).abandoned
    ∙ (payload_of_pieces payload pieces limit true (pieces_of given) split fits all ∙ cond-true (are_among pieces (pieces_of given)) (Some payload) None every))

pub joined_points : (payload : List ℕ) (pieces : List Fragment) (limit : ℕ) (given : List FragmentParts) → IsSplit payload pieces → length payload ≤ limit → are_among (pieces_of given) pieces ≡ true → AreJoinable (length payload) given → (stored_all (stored_none limit) given).points ≡ points_of given
joined_points payload pieces limit given split fits all joinable = (all_joined payload pieces limit given split fits all joinable).points
