-- What has been received after fragments of a payload that was split, and after any.
use Rattle.ip_reassembly.proofs.Common.{◌≡◌, ℕ, ◌+◌, ◌-◌, ◌≤◌, ◌<◌, Bool, true, false, not, List, [], ◌∷◌, length, get_or, Option, Some, None, is_some, ◌⊎◌, refl, sym, ap, ◌∙◌, subst, inl, inr, arith, cond, cond-true, cond-false, eqb, eq-eqb, cases_Bool, and_parts, and_from, or_cases, or_left, or_right, both_ways, not-true, false_from_ne_true, list_any, Fragment, is_in, is_same, overlaps, has_two_ends, byte_at, end_in, first_bytes, reach_of, is_ended, IsSound, AreConsistent}
use Rattle.std.proofs.lemmas.List.{take_all}
use Rattle.std.proofs.lemmas.Option.{same_Some, none-some, option_and_then_some}
use Rattle.ip_reassembly.specs.Fragment.{has_byte}
use Rattle.ip_reassembly.specs.Payload.{payload_of}
use Rattle.ip_reassembly.specs.Refusal.{refusal}
use Rattle.ip_reassembly.specs.Received.{Received, received_none, with_fragment, received_after, received_all, outcome_of}
use Rattle.std.specs.Prelude.{Ok, IfSome}
use Rattle.std.specs.Borrow.{Bor}
use Rattle.std.specs.Option.{option_copied}
use Rattle.ip_reassembly.specs.declared.progress.Progress.TheVariants.{Whole, MoreWanted}
use Rattle.ip_reassembly.specs.Split.{IsSplit, are_among}
use Rattle.ip_reassembly.specs.declared.err.AddError.{AddError}
use Rattle.ip_reassembly.proofs.FragmentLemmas.{same_is, is_same_self, in_bounds, is_in_bounds}
use Rattle.ip_reassembly.proofs.MemberLemmas.{Passes, passing_one, any_from_member, member_last, member_ended}
use Rattle.ip_reassembly.proofs.PayloadLemmas.{byte_at_in, byte_at_out, own_byte, member_byte, byte_elsewhere, first_bytes_each, first_bytes_are, payload_is, payload_without_end}
use Rattle.ip_reassembly.proofs.ReceivedLemmas.{refused_among, not_refused, outcome_abandoned, outcome_refused, outcome_accepted}
use Rattle.ip_reassembly.proofs.SplitLemmas.{member_piece, pieces_apart, pieces_end, split_has_last, split_has_byte}

-- Each of the fragments is among the others.
pub among_from : (fs gs : List Fragment) (g : Fragment) → are_among fs gs ≡ true → list_any (is_same g) fs ≡ true → list_any (is_same g) gs ≡ true
among_from [] gs g all among = absurd (both_ways false refl among)
among_from (f ∷ fs) gs g all among =
    let parts = and_parts (list_any (is_same f) gs) (are_among fs gs) all in
    elim (or_cases (is_same g f) (list_any (is_same g) fs) among) [
      | inl same ↦ subst (λ (k : Fragment). list_any (is_same k) gs ≡ true) (sym (same_is g f same)) parts.0
      | inr rest ↦ among_from fs gs g parts.1 rest
    ]

-- One of the fragments is missing among the others.
record Missing (fs gs : List Fragment) : Type 0 where
  one : Fragment
  among : list_any (is_same one) fs ≡ true
  missing : list_any (is_same one) gs ≡ false

missing_from : (fs gs : List Fragment) → are_among fs gs ≡ false → Missing fs gs
missing_from [] gs none = absurd (both_ways true none refl)
missing_from (f ∷ fs) gs none = elim (cases_Bool (list_any (is_same f) gs)) [
  | inr here ↦ record { one = f; among = or_left (is_same f f) (list_any (is_same f) fs) (is_same_self f); missing = here }
  | inl there ↦
      let rest = missing_from fs gs (false_from_ne_true (are_among fs gs) (λ all. both_ways (are_among (f ∷ fs) gs) none (and_from (list_any (is_same f) gs) (are_among fs gs) there all))) in
      record { one = rest.one; among = or_right (is_same rest.one f) (list_any (is_same rest.one) fs) rest.among; missing = rest.missing }
]

-- The fragments with one more are those and that one.
with_from : (fs : List Fragment) (f g : Fragment) → list_any (is_same g) (with_fragment fs f) ≡ true → (is_same g f ≡ true) ⊎ (list_any (is_same g) fs ≡ true)
with_from fs f g among = elim (cases_Bool (list_any (is_same f) fs)) [
  | inl same ↦ inr (subst (λ (hs : List Fragment). list_any (is_same g) hs ≡ true) (cond-true (list_any (is_same f) fs) fs (f ∷ fs) same) among)
  | inr other ↦ or_cases (is_same g f) (list_any (is_same g) fs) (subst (λ (hs : List Fragment). list_any (is_same g) hs ≡ true) (cond-false (list_any (is_same f) fs) fs (f ∷ fs) other) among)
]

with_has : (fs : List Fragment) (f g : Fragment) → (is_same g f ≡ true) ⊎ (list_any (is_same g) fs ≡ true) → list_any (is_same g) (with_fragment fs f) ≡ true
with_has fs f g either = elim (cases_Bool (list_any (is_same f) fs)) [
  | inl same ↦ subst (λ (hs : List Fragment). list_any (is_same g) hs ≡ true) (sym (cond-true (list_any (is_same f) fs) fs (f ∷ fs) same))
      (elim either [ inl e ↦ subst (λ (k : Fragment). list_any (is_same k) fs ≡ true) (sym (same_is g f e)) same | inr rest ↦ rest ])
  | inr other ↦ subst (λ (hs : List Fragment). list_any (is_same g) hs ≡ true) (sym (cond-false (list_any (is_same f) fs) fs (f ∷ fs) other))
      (elim either [ inl e ↦ or_left (is_same g f) (list_any (is_same g) fs) e | inr rest ↦ or_right (is_same g f) (list_any (is_same g) fs) rest ])
]

-- What has been received are fragments that were added.
received_step : (s : Received) (f g : Fragment) → list_any (is_same g) (received_after s f).fragments ≡ true → (is_same g f ≡ true) ⊎ (list_any (is_same g) s.fragments ≡ true)
received_step s f g among = elim (cases_Bool s.abandoned) [
  | inl gone ↦ inr (subst (λ (t : Received). list_any (is_same g) t.fragments ≡ true) (outcome_abandoned s f gone).1 among)
  | inr here ↦ by_refusal (refusal s.limit s.fragments f) refl here
] where
  by_refusal : (o : Option AddError) → refusal s.limit s.fragments f ≡ o → s.abandoned ≡ false → (is_same g f ≡ true) ⊎ (list_any (is_same g) s.fragments ≡ true)
  by_refusal None e here = with_from s.fragments f g (subst (λ (t : Received). list_any (is_same g) t.fragments ≡ true) (outcome_accepted s f here e).1 among)
  by_refusal (Some error) e here = inr (subst (λ (t : Received). list_any (is_same g) t.fragments ≡ true) (outcome_refused s f error here e).1 among)

pub received_given : (limit : ℕ) (abandons : Bool) (given : List Fragment) (g : Fragment) → list_any (is_same g) (received_all (received_none limit abandons) given).fragments ≡ true → list_any (is_same g) given ≡ true
received_given limit abandons [] g among = among
received_given limit abandons (f ∷ fs) g among = elim (received_step (received_all (received_none limit abandons) fs) f g among) [
  | inl same ↦ or_left (is_same g f) (list_any (is_same g) fs) same
  | inr rest ↦ or_right (is_same g f) (list_any (is_same g) fs) (received_given limit abandons fs g rest)
]

-- Each byte of a payload is one that some fragment has at its offset.
byte_from : (fs : List Fragment) (i byte : ℕ) → byte_at fs i ≡ Some byte → Passes (has_byte i byte) fs
byte_from [] i byte e = absurd (none-some byte e)
byte_from (f ∷ fs) i byte e = elim (cases_Bool (is_in f i)) [
  | inl inside ↦ record {
    one = f;
    among = or_left (is_same f f) (list_any (is_same f) fs) (is_same_self f);
    passes = and_from (is_in f i) (eqb (get_or f.bytes (i - f.offset) 0) byte) inside
        (eq-eqb (get_or f.bytes (i - f.offset) 0) byte (same_Some (get_or f.bytes (i - f.offset) 0) byte (sym (own_byte f i inside) ∙ (sym (byte_at_in f fs i inside) ∙ e))));
  }
  | inr outside ↦
      let rest = byte_from fs i byte (sym (byte_at_out f fs i outside) ∙ e) in
      record { one = rest.one; among = or_right (is_same rest.one f) (list_any (is_same rest.one) fs) rest.among; passes = rest.passes }
]

payload_bytes : (fs : List Fragment) (payload : List ℕ) (i : ℕ) → payload_of fs ≡ Some payload → i < length payload → byte_at fs i ≡ Some (get_or payload i 0)
unfolding payload_of
payload_bytes fs payload i whole less = option_and_then_some (first_bytes fs) (end_in fs) payload whole (λ n e bytes.
    let each = first_bytes_each fs n payload bytes in each.1 i (omega (arith, less, each.0)))

pub from_fragments : (limit : ℕ) (abandons : Bool) (given : List Fragment) (payload : List ℕ) (i : ℕ) → payload_of (received_all (received_none limit abandons) given).fragments ≡ Some payload → i < length payload → list_any (has_byte i (get_or payload i 0)) given ≡ true
from_fragments limit abandons given payload i whole less =
    let s = received_all (received_none limit abandons) given in
    let found = byte_from s.fragments i (get_or payload i 0) (payload_bytes s.fragments payload i whole less) in
    any_from_member (has_byte i (get_or payload i 0)) given found.one (received_given limit abandons given found.one found.among) found.passes

-- What has been received after fragments of a payload that was split: each of them, and no conflict.
pub record HasPieces (limit : ℕ) (given : List Fragment) (s : Received) : Type 0 where
  pub limit_is : s.limit ≡ limit
  pub abandoned : s.abandoned ≡ false
  pub consistent : AreConsistent s.limit s.fragments
  pub onto : (g : Fragment) → list_any (is_same g) given ≡ true → list_any (is_same g) s.fragments ≡ true

-- A fragment of the payload is accepted.
piece_accepted : (payload : List ℕ) (pieces : List Fragment) (s : Received) (f : Fragment) → IsSplit payload pieces → length payload ≤ s.limit → list_any (is_same f) pieces ≡ true → ((g : Fragment) → list_any (is_same g) s.fragments ≡ true → list_any (is_same g) pieces ≡ true) → AreConsistent s.limit s.fragments → (refusal s.limit s.fragments f ≡ None) × AreConsistent s.limit (with_fragment s.fragments f)
piece_accepted payload pieces s f split fits in_f pieces_only c =
    let piece = member_piece 0 payload pieces f split in_f in
    let sound : IsSound s.limit f = record { offset = piece.units refl; aligned = piece.aligned; within = omega (arith, piece.high, fits) } in
    elim (cases_Bool (list_any (is_same f) s.fragments)) [
      | inl same ↦ (
        refused_among s.limit s.fragments f sound.aligned sound.within same,
        subst (AreConsistent s.limit) (sym (cond-true (list_any (is_same f) s.fragments) s.fragments (f ∷ s.fragments) same)) c,
      )
      | inr other ↦
          let apart : list_any (overlaps f) s.fragments ≡ false = false_from_ne_true (list_any (overlaps f) s.fragments) (λ e.
          let found = passing_one (overlaps f) s.fragments e in
          let equal : f ≡ found.one = pieces_apart 0 payload pieces f found.one split in_f (pieces_only found.one found.among) (inl found.passes) in
          both_ways (list_any (is_same f) s.fragments) other (subst (λ (k : Fragment). list_any (is_same k) s.fragments ≡ true) (sym equal) found.among)) in
          let one_end : list_any (has_two_ends f) s.fragments ≡ false = false_from_ne_true (list_any (has_two_ends f) s.fragments) (λ e.
          let found = passing_one (has_two_ends f) s.fragments e in
          both_ways (has_two_ends f found.one) (pieces_end 0 payload f found.one piece (member_piece 0 payload pieces found.one split (pieces_only found.one found.among))) found.passes) in (
            not_refused s f (record { sound = sound; apart = apart; one_end = one_end }),
            subst (AreConsistent s.limit) (sym (cond-false (list_any (is_same f) s.fragments) s.fragments (f ∷ s.fragments) other)) (sound, apart, one_end, c),
          )
    ]

pub pieces_received : (payload : List ℕ) (pieces : List Fragment) (limit : ℕ) (abandons : Bool) (given : List Fragment) → IsSplit payload pieces → length payload ≤ limit → are_among given pieces ≡ true → HasPieces limit given (received_all (received_none limit abandons) given)
pieces_received payload pieces limit abandons [] split fits all = record { limit_is = refl; abandoned = refl; consistent = tt; onto = λ g among. among }
pieces_received payload pieces limit abandons (f ∷ fs) split fits all =
    let parts = and_parts (list_any (is_same f) pieces) (are_among fs pieces) all in
    let s = received_all (received_none limit abandons) fs in
    let before : HasPieces limit fs s = pieces_received payload pieces limit abandons fs split fits parts.1 in
    let accepted = piece_accepted payload pieces s f split (subst (λ (n : ℕ). length payload ≤ n) (sym before.limit_is) fits) parts.0 (λ g among. among_from fs pieces g parts.1 (received_given limit abandons fs g among)) before.consistent in
    subst (HasPieces limit (f ∷ fs)) (sym (outcome_accepted s f before.abandoned accepted.0).1) (record {
      limit_is = before.limit_is;
      abandoned = before.abandoned;
      consistent = accepted.1;
      onto = λ g among. with_has s.fragments f g (elim (or_cases (is_same g f) (list_any (is_same g) fs) among) [ inl same ↦ inl same | inr rest ↦ inr (before.onto g rest) ]);
    })

-- All fragments make the payload whole.
all_pieces : (payload : List ℕ) (pieces : List Fragment) (limit : ℕ) (fs : List Fragment) → IsSplit payload pieces → AreConsistent limit fs → ((g : Fragment) → list_any (is_same g) pieces ≡ true → list_any (is_same g) fs ≡ true) → payload_of fs ≡ Some payload
all_pieces payload pieces limit fs split c all =
    let last = split_has_last 0 payload pieces split in
    let ended : is_ended fs ≡ true = member_ended fs last.one (all last.one last.among) last.last in
    let reach : reach_of fs ≡ length payload = member_last limit fs last.one c (all last.one last.among) last.last ∙ ((member_piece 0 payload pieces last.one split last.among).last last.last ∙ (let e : 0 + length payload ≡ length payload = omega arith in e)) in
    payload_is limit fs c ended
    ∙ (ap (first_bytes fs) reach
    ∙ (first_bytes_are fs payload (length payload) (omega arith) (λ i less.
    let there = split_has_byte 0 payload pieces i split (omega arith) (omega (arith, less)) in
    let bounds = in_bounds there.one i there.inside in
    member_byte limit fs there.one i c (all there.one there.among) there.inside
    ∙ ap Some ((member_piece 0 payload pieces there.one split there.among).bytes i bounds.0 bounds.1 ∙ ap (λ (k : ℕ). get_or payload k 0) (let e : i - 0 ≡ i = omega arith in e)))
    ∙ ap Some (take_all (length payload) payload (omega arith))))

-- Without one of them, it isn't whole.
some_pieces : (payload : List ℕ) (pieces : List Fragment) (limit : ℕ) (fs : List Fragment) (p : Fragment) → IsSplit payload pieces → AreConsistent limit fs → ((g : Fragment) → list_any (is_same g) fs ≡ true → list_any (is_same g) pieces ≡ true) → list_any (is_same p) pieces ≡ true → list_any (is_same p) fs ≡ false → payload_of fs ≡ None
some_pieces payload pieces limit fs p split c only in_p missing = elim (cases_Bool (is_ended fs)) [
  | inr none ↦ payload_without_end fs none
  | inl ended ↦
      let last = passing_one (λ f. not f.more) fs ended in
      let last_flag : last.one.more ≡ false = not-true last.one.more last.passes in
      let reach : reach_of fs ≡ 0 + length payload = member_last limit fs last.one c last.among last_flag ∙ (member_piece 0 payload pieces last.one split (only last.one last.among)).last last_flag in
      let piece = member_piece 0 payload pieces p split in_p in
      let different : (g : Fragment) → list_any (is_same g) fs ≡ true → p ≡ g → ⊥ = (λ g among e. both_ways (list_any (is_same p) fs) missing (subst (λ (k : Fragment). list_any (is_same k) fs ≡ true) (sym e) among)) in
      let follow : p.more ≡ true = elim (cases_Bool p.more) [
        | inl m ↦ m
        | inr l ↦ absurd (different last.one last.among (pieces_apart 0 payload pieces p last.one split in_p (only last.one last.among) (inr (l, last_flag))))
      ] in
      let apart : list_any (overlaps p) fs ≡ false = false_from_ne_true (list_any (overlaps p) fs) (λ e.
      let found = passing_one (overlaps p) fs e in
      different found.one found.among (pieces_apart 0 payload pieces p found.one split in_p (only found.one found.among) (inl found.passes))) in
      let some : 0 < length p.bytes = piece.some follow in
      let hole : byte_at fs p.offset ≡ None = byte_elsewhere fs p p.offset apart (is_in_bounds p p.offset (omega arith) (omega (arith, some))) in
      payload_is limit fs c ended ∙ with_hole fs (reach_of fs) p.offset (omega (arith, reach, piece.high, some)) hole (first_bytes fs (reach_of fs)) refl
] where
  with_hole : (fs : List Fragment) (n i : ℕ) → i < n → byte_at fs i ≡ None → (o : Option (List ℕ)) → first_bytes fs n ≡ o → first_bytes fs n ≡ None
  with_hole fs n i less hole None e = e
  with_hole fs n i less hole (Some t) e = absurd (none-some (get_or t i 0) (sym hole ∙ (first_bytes_each fs n t e).1 i less))

-- After fragments of a payload, in any order and repeated, it is whole exactly if each was among them.
pub payload_of_pieces : (payload : List ℕ) (pieces : List Fragment) (limit : ℕ) (abandons : Bool) (given : List Fragment) → IsSplit payload pieces → length payload ≤ limit → are_among given pieces ≡ true → payload_of (received_all (received_none limit abandons) given).fragments ≡ cond (are_among pieces given) (Some payload) None
payload_of_pieces payload pieces limit abandons given split fits all =
    let s = received_all (received_none limit abandons) given in
    let h : HasPieces limit given s = pieces_received payload pieces limit abandons given split fits all in
    elim (cases_Bool (are_among pieces given)) [
      | inl each ↦ all_pieces payload pieces s.limit s.fragments split h.consistent (λ g among. h.onto g (among_from pieces given g each among)) ∙ sym (cond-true (are_among pieces given) (Some payload) None each)
      | inr less ↦
          let hole = missing_from pieces given less in
          some_pieces payload pieces s.limit s.fragments hole.one split h.consistent (λ g among. among_from given pieces g all (received_given limit abandons given g among)) hole.among
          (false_from_ne_true (list_any (is_same hole.one) s.fragments) (λ e. both_ways (list_any (is_same hole.one) given) hole.missing (received_given limit abandons given hole.one e)))
          ∙ sym (cond-false (are_among pieces given) (Some payload) None less)
    ]

some_if : (payload : List ℕ) (b : Bool) → cond (is_some (cond b (Some payload) None)) Whole MoreWanted ≡ cond b Whole MoreWanted
some_if payload true = refl
some_if payload false = refl

-- The outcome of a fragment of a payload.
pub outcome_of_piece : (payload : List ℕ) (pieces : List Fragment) (limit : ℕ) (abandons : Bool) (given : List Fragment) (f : Fragment) → IsSplit payload pieces → length payload ≤ limit → are_among (f ∷ given) pieces ≡ true → outcome_of (received_all (received_none limit abandons) given) f ≡ Ok (cond (are_among pieces (f ∷ given)) Whole MoreWanted)
outcome_of_piece payload pieces limit abandons given f split fits all =
    let parts = and_parts (list_any (is_same f) pieces) (are_among given pieces) all in
    let s = received_all (received_none limit abandons) given in
    let before : HasPieces limit given s = pieces_received payload pieces limit abandons given split fits parts.1 in
    let accepted = piece_accepted payload pieces s f split (subst (λ (n : ℕ). length payload ≤ n) (sym before.limit_is) fits) parts.0 (λ g among. among_from given pieces g parts.1 (received_given limit abandons given g among)) before.consistent in
    let outcome = outcome_accepted s f before.abandoned accepted.0 in
    let after : payload_of (with_fragment s.fragments f) ≡ cond (are_among pieces (f ∷ given)) (Some payload) None = ap (λ (t : Received). payload_of t.fragments) (sym outcome.1) ∙ payload_of_pieces payload pieces limit abandons (f ∷ given) split fits all in
    outcome.0 ∙ ap Ok (ap (λ (o : Option (List ℕ)). cond (is_some o) Whole MoreWanted) after ∙ some_if payload (are_among pieces (f ∷ given)))

-- The payload after fragments of one payload, and after any.
pub shown_pieces : (shown : Option (List ℕ)) (payload : List ℕ) (pieces : List Fragment) (limit : ℕ) (abandons : Bool) (given : List Fragment) → IsSplit payload pieces → length payload ≤ limit → are_among given pieces ≡ true → (let s = received_all (received_none limit abandons) given in shown ≡ cond s.abandoned None (payload_of s.fragments)) → shown ≡ cond (are_among pieces given) (Some payload) None
shown_pieces shown payload pieces limit abandons given split fits all e =
    let s = received_all (received_none limit abandons) given in
    e ∙ (cond-false s.abandoned None (payload_of s.fragments) (pieces_received payload pieces limit abandons given split fits all).abandoned
    ∙ payload_of_pieces payload pieces limit abandons given split fits all)

pub shown_bytes : (shown : Option (Bor (List ℕ))) (limit : ℕ) (abandons : Bool) (given : List Fragment) → (let s = received_all (received_none limit abandons) given in option_copied shown ≡ cond s.abandoned None (payload_of s.fragments)) → IfSome shown (λ payload. (i : ℕ) → i < length payload.now → list_any (has_byte i (get_or payload.now i 0)) given ≡ true)
shown_bytes None limit abandons given e = tt
shown_bytes (Some x) limit abandons given e =
    let s = received_all (received_none limit abandons) given in
    elim (cases_Bool s.abandoned) [
      | inl gone ↦ absurd (none-some x.now (sym (e ∙ cond-true s.abandoned None (payload_of s.fragments) gone)))
      | inr here ↦ λ i less. from_fragments limit abandons given x.now i (sym (e ∙ cond-false s.abandoned None (payload_of s.fragments) here)) less
    ]
