-- What a memory has stored after a fragment.
use Rattle.std.proofs.Common.{◌≡◌, ℕ, Bool, true, false, ◌∷◌, refl, sym, ap, ◌∙◌, cond, arith, max, ◌&&◌, not, eqb, ltb, length, inl, inr}
use Rattle.std.specs.Prelude.{Option, Some, None, Result, Ok, Err, is_some}
use Rattle.std.proofs.lemmas.Bool.{cond-true, cond-false, cases_Bool, and_parts}
use Rattle.std.proofs.lemmas.Option.{none-some, same_Some}
use Rattle.std.specs.Option.{option_map}
use Rattle.ip_reassembly.specs.Fragment.{Fragment, end_of, is_unaligned}
use Rattle.ip_reassembly.specs.Refusal.{refusal, is_conflict}
use Rattle.ip_reassembly.specs.Received.{Received, with_fragment, progress_of, outcome_of, received_after}
use Rattle.ip_reassembly.specs.declared.err.AddError.{AddError}
use Rattle.ip_reassembly.specs.declared.err.AddError.TheVariants.{Unaligned, TooLong, Abandoned}
use Rattle.ip_reassembly.specs.declared.progress.Progress.{Progress}
use Rattle.ip_reassembly.specs.declared.progress.Progress.TheVariants.{MoreWanted, Whole}
use Rattle.ip_reassembly.proofs.ReceivedLemmas.{outcome_refused, outcome_accepted}
use Rattle.ip_defragmenter.specs.Ecn.{are_mixed}
use Rattle.ip_defragmenter.specs.FragmentOf.{FragmentParts}
use Rattle.ip_defragmenter.specs.Memory.{Stored, FirstParts, AreHeaders, piece_of, first_of, first_after, exceeds, own_refusal, refusal_after, is_store_conflict}
use Rattle.ip_defragmenter.specs.Whole.{are_headers, stated_by}
use Rattle.ip_defragmenter.specs.declared.err.StoreError.{StoreError}
use Rattle.ip_defragmenter.specs.declared.err.StoreError.TheVariants.{Payload, Headers, HeadersTooLong, MixedEcn}
use Rattle.ip_reassembly.specs.Reassembly.{reach_of}

-- A payload took a fragment.
pub record Took (s : Received) (f : Fragment) (p : Progress) : Type 0 where
  pub none : refusal s.limit s.fragments f ≡ None
  pub progress : p ≡ progress_of (with_fragment s.fragments f)
  pub after : received_after s f ≡ record s { fragments = with_fragment s.fragments f }

took_by : (s : Received) (f : Fragment) (p : Progress) (o : Option AddError) → s.abandoned ≡ false → refusal s.limit s.fragments f ≡ o → Ok p ≡ outcome_of s f → Took s f p
took_by s f p None alive none is =
    let taken = outcome_accepted s f alive none in
    record { none = none; progress = (let e : (let r : Result Progress AddError = Ok p in r) ≡ Ok (progress_of (with_fragment s.fragments f)) = is ∙ taken.0 in cc); after = taken.1 }
took_by s f p (Some e) alive some is = absurd (let q : (let r : Result Progress AddError = Ok p in r) ≡ Err e = is ∙ (outcome_refused s f e alive some).0 in cc)

pub took : (s : Received) (f : Fragment) (p : Progress) → s.abandoned ≡ false → Ok p ≡ outcome_of s f → Took s f p
took s f p alive is = took_by s f p (refusal s.limit s.fragments f) alive refl is

-- A payload refused a fragment.
pub record Refused (s : Received) (f : Fragment) (e : AddError) : Type 0 where
  pub some : refusal s.limit s.fragments f ≡ Some e
  pub after : received_after s f ≡ record s { abandoned = s.abandons && is_conflict e }

refused_by : (s : Received) (f : Fragment) (e : AddError) (o : Option AddError) → s.abandoned ≡ false → refusal s.limit s.fragments f ≡ o → Err e ≡ outcome_of s f → Refused s f e
refused_by s f e None alive none is = absurd (let q : (let r : Result Progress AddError = Err e in r) ≡ Ok (progress_of (with_fragment s.fragments f)) = is ∙ (outcome_accepted s f alive none).0 in cc)
refused_by s f e (Some d) alive some is =
    let refused = outcome_refused s f d alive some in
    let same : e ≡ d = (let q : (let r : Result Progress AddError = Err e in r) ≡ Err d = is ∙ refused.0 in cc) in
    record { some = some ∙ ap Some (sym same); after = refused.1 ∙ ap (λ (x : AddError). record s { abandoned = s.abandons && is_conflict x }) (sym same) }

pub refused_for : (s : Received) (f : Fragment) (e : AddError) → s.abandoned ≡ false → Err e ≡ outcome_of s f → Refused s f e
refused_for s f e alive is = refused_by s f e (refusal s.limit s.fragments f) alive refl is

-- The tests of a fragment in their order.
pub when_abandoned : (s : Stored) (f : FragmentParts) → s.payload.abandoned ≡ true → refusal_after s f ≡ Some (Payload Abandoned)
unfolding refusal_after
when_abandoned s f there = cond-true s.payload.abandoned _ _ there

pub when_mixed : (s : Stored) (f : FragmentParts) → s.payload.abandoned ≡ false → are_mixed (f.ecn ∷ s.points) ≡ true → refusal_after s f ≡ Some MixedEcn
unfolding refusal_after
when_mixed s f alive mixed = cond-false s.payload.abandoned _ _ alive ∙ cond-true (are_mixed (f.ecn ∷ s.points)) _ _ mixed

-- how far the payload reaches with a fragment
abbrev pub reach_with : Stored → FragmentParts → ℕ
reach_with s f = max (reach_of s.payload.fragments) (end_of (piece_of f))

pub when_too_long : (s : Stored) (f : FragmentParts) → s.payload.abandoned ≡ false → are_mixed (f.ecn ∷ s.points) ≡ false → exceeds (first_after s.first f) (reach_with s f) ≡ true → refusal_after s f ≡ Some (Payload TooLong)
unfolding refusal_after
when_too_long s f alive alike long = cond-false s.payload.abandoned _ _ alive ∙ (cond-false (are_mixed (f.ecn ∷ s.points)) _ _ alike ∙ cond-true (exceeds (first_after s.first f) (reach_with s f)) _ _ long)

pub by_payload : (s : Stored) (f : FragmentParts) → s.payload.abandoned ≡ false → are_mixed (f.ecn ∷ s.points) ≡ false → exceeds (first_after s.first f) (reach_with s f) ≡ false → refusal_after s f ≡ option_map Payload (refusal s.payload.limit s.payload.fragments (piece_of f))
unfolding refusal_after
by_payload s f alive alike short = cond-false s.payload.abandoned _ _ alive ∙ (cond-false (are_mixed (f.ecn ∷ s.points)) _ _ alike ∙ cond-false (exceeds (first_after s.first f) (reach_with s f)) _ _ short)

-- The payload is whole, and the first fragment is there.
pub both_progress : (a b : Bool) → cond b (cond a Whole MoreWanted) MoreWanted ≡ cond (a && b) Whole MoreWanted
both_progress true true = refl
both_progress true false = refl
both_progress false true = refl
both_progress false false = refl

-- A fragment that isn't refused by itself has headers of a packet, if it is the first.
own_headers : (f : FragmentParts) → own_refusal f ≡ None → eqb f.offset 0 ≡ true → are_headers f.headers f.link ≡ true
unfolding own_refusal
own_headers f none first = elim (cases_Bool (are_headers f.headers f.link)) [
  | inl there ↦ there
  | inr lacking ↦ absurd (grind (arith, none, first, lacking))
]

headers_by : (o : Option FirstParts) (f : FragmentParts) (b : Bool) → AreHeaders o → own_refusal f ≡ None → (eqb f.offset 0 && not (is_some o)) ≡ b → AreHeaders (cond b (Some (first_of f)) o)
headers_by o f true there none is = own_headers f none (and_parts (eqb f.offset 0) (not (is_some o)) is).0
headers_by o f false there none is = there

pub headers_after : (o : Option FirstParts) (f : FragmentParts) → AreHeaders o → own_refusal f ≡ None → AreHeaders (first_after o f)
headers_after o f there none = headers_by o f (eqb f.offset 0 && not (is_some o)) there none refl

-- What has been stored after the payload refused a fragment.
abandoned_as : (s : Received) (b : Bool) → s.abandoned ≡ b → record s { abandoned = b } ≡ s
abandoned_as s b is = rw (← is) refl

pub refused_as : (s : Stored) (e : AddError) (b : Bool) → s.payload.abandons ≡ true → s.payload.abandoned ≡ false → is_conflict e ≡ b → record s { payload = record s.payload { abandoned = s.payload.abandons && is_conflict e } } ≡ cond b (record s { payload = record s.payload { abandoned = true } }) s
refused_as s e true kept alive is = ap (λ (x : Bool). record s { payload = record s.payload { abandoned = x } }) (rw (kept, is) refl)
refused_as s e false kept alive is = ap (λ (p : Received). record s { payload = p }) (ap (λ (x : Bool). record s.payload { abandoned = x }) (rw (kept, is) refl) ∙ abandoned_as s.payload false alive)

-- A fragment that is refused by itself abandons no packet.
harmless_by : (a b c d : Bool) (e : StoreError) → cond a (Some (Payload Unaligned)) (cond b (Some (Payload TooLong)) (cond c (Some Headers) (cond d (Some HeadersTooLong) None))) ≡ Some e → is_store_conflict e ≡ false
harmless_by true b c d e is = sym (ap is_store_conflict (same_Some (Payload Unaligned) e is))
harmless_by false true c d e is = sym (ap is_store_conflict (same_Some (Payload TooLong) e is))
harmless_by false false true d e is = sym (ap is_store_conflict (same_Some Headers e is))
harmless_by false false false true e is = sym (ap is_store_conflict (same_Some HeadersTooLong e is))
harmless_by false false false false e is = absurd (none-some e is)

pub own_harmless : (f : FragmentParts) (e : StoreError) → own_refusal f ≡ Some e → is_store_conflict e ≡ false
unfolding own_refusal
own_harmless f e is = harmless_by (is_unaligned (piece_of f)) (ltb 65535 (stated_by f.headers (end_of (piece_of f)))) (eqb f.offset 0 && not (are_headers f.headers f.link)) (eqb f.offset 0 && ltb 4096 (length f.headers)) e is
