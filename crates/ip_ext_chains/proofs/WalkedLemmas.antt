-- The headers that a walk over a struct of six places has reached and written.
use Rattle.ip_spec.proofs.Common.{rules, common_steps, refl, ◌≡◌, ℕ, ◌+◌, ◌<◌, List, ◌∷◌, ◌++◌, ap, arith, append_assoc, true, [], Option, Some, None, IfSome, IfNone, append-nil, AppendsOne, ExtHeader, bytes_of, Place, number_in, HeaderFields, IsEncoded, IsEncodable, fields_len, placed_len, IsLongestOf, PlacedFields, IsReachable, answer_at, IsWalkAnswer, IsEncodingOf}
use Rattle.ip_spec.proofs.StepLemmas.{bytes_of-more}
use Rattle.ip_spec.proofs.EncodedLemmas.{encoding_is}
use Rattle.ip_spec.proofs.WalkLemmas.{WalkAnswer}
use Rattle.ip_spec.proofs.WalkStepLemmas.{FillsIn, walk_begins, walks_on, walk_stops, walk_answers, same_held, free_in_chain}
use Rattle.ip_spec.proofs.LinkLemmas.{next_said}
use Rattle.ip_spec.proofs.SumLemmas.{sum_placed, sum_left}
use Rattle.ip_ext_chains.specs.Slots.{at, IsVacant}
use Rattle.ip_ext_chains.specs.Ipv6Extensions.{placed_fields}
use Rattle.ip_ext_chains.specs.HeaderRef.{fields_of_ref}
use Rattle.ip_ext_chains.specs.ExtsWalk.{left_in, IsAt, IsStep, IsStop, Walked, HasWritten, IsWalkWritten}
use Rattle.ip_ext_chains.specs.declared.header_ref.HeaderRef.{HeaderRef}
use Rattle.ip_ext_chains.specs.declared.walk.Walk.{Walk}

abbrev pub walked_none : (v : PlacedFields) (f : ℕ) (w : Walk) → placed_fields w.headers.now ≡ v → w.number.0 ≡ f → w.first ≡ true → IsVacant w.reached → Walked v f w
walked_none v f w value number first vacant = search (rules, walk_begins v f (λ p. at p w.reached) vacant)

-- the number of remaining headers, and their length in bytes
abbrev pub headers_left : Walk → ℕ
headers_left w = sum_placed (λ x. 1) (left_in w)

module _ (old new : Walk) (x : HeaderFields) (s : IsStep old new x) where
  pub step_fills : FillsIn s.place (λ p. at p old.reached) (λ p. at p new.reached)
  step_fills q = search (rules, s.put q)

  step_sum : (g : HeaderFields → ℕ) → sum_placed g (left_in new) + g x ≡ sum_placed g (left_in old)
  step_sum g = rw s.headers (sum_left g (placed_fields old.headers.now) (λ p. at p old.reached) (λ p. at p new.reached) old.number.0 old.first s.place x s.own s.there step_fills)

  pub step_less : headers_left new < headers_left old
  step_less = search (rules, step_sum)

  -- the length that a step takes from what is left
  pub step_len : placed_len (left_in new) + fields_len x ≡ placed_len (left_in old)
  step_len = step_sum fields_len

  module _ (v : PlacedFields) (f : ℕ) (e : IsEncodable v) (k : Walked v f old) where
    abbrev encoded : (h : ExtHeader) × IsEncoded (number_in s.place) x h
    encoded = e.encoded s.place x (cc)

    abbrev pub walked_more : Walked v f new
    walked_more =
        let h = encoded in
        let goes = walks_on v f k.reached (λ p. at p old.reached) old.number.0 old.first k.walking s.place x h.0 s.own (cc) h.1 (λ p. at p new.reached) new.number.0 new.first step_fills in
        record { reached = k.reached ++ h.0 ∷ []; walking = search (rules, next_said); value = cc }

-- a place was checked: its header was reached, or the walk is unchanged
pub walked_in : (v : PlacedFields) (f : ℕ) → IsEncodable v → (old new : Walk) (r : Option HeaderRef) → IfSome r (λ h. IsStep old new (fields_of_ref h)) → IfNone r (new ≡ old)
    → Walked v f old → Walked v f new
walked_in v f e old new r some none k = grind (arith, common_steps, walked_more)

-- if none follows, the walk has the result of what is left
module _ (v : PlacedFields) (f : ℕ) (old new : Walk) (k : Walked v f old) (s : IsStop old new) where
  pub walked_answer : (a : WalkAnswer) → a ≡ answer_at new.number.0 (left_in new) → IsWalkAnswer v f a
  walked_answer a e = search (rules, walk_answers v f k.reached (λ p. at p old.reached) old.number.0 old.first k.walking, s.left, s.none)

  pub walked_reach : IsLongestOf (IsReachable v f) k.reached
  walked_reach = search (rules, walk_stops v f k.reached (λ p. at p old.reached) old.number.0 old.first k.walking, s.none)

-- what a walk has written, another one in the same position has
pub written_at : (v : PlacedFields) (f : ℕ) (old new : Walk) → IsAt old new.headers.now new.reached new.number new.first → (before now : List ℕ) → HasWritten v f old before now → HasWritten v f new before now
written_at v f old new here before now k =
    record {
      walked = record {
        reached = k.walked.reached;
        walking = rw (← here.reached_are, ← here.number_is, ← here.first_is) k.walked.walking;
        value = cc (k.walked.value, here.headers_are);
      };
      appended = k.appended;
    }

-- The next header was reached, and its bytes were appended.
pub written_more : (v : PlacedFields) (f : ℕ) → IsEncodable v → (old new : Walk) (x : HeaderFields) → IsStep old new x → (before now more : List ℕ) → HasWritten v f old before now
    → AppendsOne (IsEncodingOf x) now more → HasWritten v f new before more
written_more v f e old new x s before now more k a =
    let h = encoded old new x s v f e k.walked in
    let c = k.walked.reached in
    record {
      walked = walked_more old new x s v f e k.walked;
      appended = cc (k.appended, append_assoc before (bytes_of c) a.0, encoding_is _ x h.0 a.0 h.1 a.1, bytes_of-more c h.0);
    }

-- a place was checked: its header was reached and its bytes appended, or everything is unchanged
pub written_in : (v : PlacedFields) (f : ℕ) → IsEncodable v → (old new : Walk) (before now more : List ℕ) (r : Option HeaderRef)
    → IfSome r (λ h. IsStep old new (fields_of_ref h)) → IfSome r (λ h. AppendsOne (IsEncodingOf (fields_of_ref h)) now more) → IfNone r (new ≡ old) → IfNone r (more ≡ now)
    → HasWritten v f old before now → HasWritten v f new before more
written_in v f e old new before now more (Some h) some appended none same k = search (rules, written_more)
written_in v f e old new before now more None some appended none same k = rw none (record { walked = k.walked; appended = cc })

-- no header follows: all that are reached were written
pub written_walk : (v : PlacedFields) (f : ℕ) (old new : Walk) (before now : List ℕ) → HasWritten v f old before now → IsStop old new
    → (a : WalkAnswer) → a ≡ answer_at new.number.0 (left_in new) → IsWalkWritten v f before now a
written_walk v f old new before now k s a e = search (rules, walked_reach, walked_answer)

-- if no header is left, none follows
pub stop_where_none : (w : Walk) → ((p : Place) → left_in w p ≡ None) → IsStop w w
stop_where_none w e =
    record {
      none = λ p own. search (rules, free_in_chain (placed_fields w.headers.now) (λ q. at q w.reached) w.number.0 w.first p own, e p);
      left = λ p. refl;
      number = refl;
    }

-- a new walk has everything left
pub left_len : (v : PlacedFields) (w : Walk) → placed_fields w.headers.now ≡ v → IsVacant w.reached → placed_len (left_in w) ≡ placed_len v
left_len v w value vacant = ap placed_len (same_held (left_in w) v (λ p. cc (vacant p)))

pub written_none : (v : PlacedFields) (f : ℕ) (w : Walk) → placed_fields w.headers.now ≡ v → w.number.0 ≡ f → w.first ≡ true → IsVacant w.reached
    → (before now : List ℕ) → now ≡ before → HasWritten v f w before now
written_none v f w value number first vacant before now same =
    record { walked = walked_none v f w value number first vacant; appended = cc (append-nil before) }
