-- A packet that is whole can be written.
use Rattle.std.proofs.Common.{◌≡◌, ℕ, ◌≤◌, Bool, true, false, cond, List, length, refl, sym, ◌∙◌, subst, arith, max, ◌&&◌, leb, ltb, inl, inr}
use Rattle.std.specs.Prelude.{Option, Some, None, Result, Ok, Err, is_some, ◌∷◌, ◌==◌}
use Rattle.std.specs.List.{list_any}
use Rattle.std.proofs.lemmas.Bool.{cond-false, cases_Bool, ltb-false, le-leb}
use Rattle.ip_base.specs.Ipv4Header.{version}
use Rattle.ip_reassembly.specs.Fragment.{Fragment, end_of, is_same}
use Rattle.ip_reassembly.specs.Payload.{payload_of}
use Rattle.ip_reassembly.specs.Received.{with_fragment}
use Rattle.ip_reassembly.specs.Reassembly.{AreConsistent, reach_of, is_ended}
use Rattle.ip_reassembly.proofs.PayloadLemmas.{first_bytes_each, payload_is, payload_without_end}
use Rattle.ip_defragmenter.specs.Ecn.{are_mixed}
use Rattle.ip_defragmenter.specs.FragmentOf.{FragmentParts}
use Rattle.ip_defragmenter.specs.Memory.{Stored, FirstParts, AreHeaders, HoldsStored, IsWritable, piece_of, first_after, exceeds, refusal_after, outcome_by, stored_by, stored_progress, is_complete, stored_with}
use Rattle.ip_defragmenter.specs.Whole.{stated_by}
use Rattle.ip_defragmenter.specs.declared.err.StoreError.{StoreError}
use Rattle.ip_defragmenter.specs.declared.err.StoreError.TheVariants.{Payload, MixedEcn}
use Rattle.ip_reassembly.specs.declared.err.AddError.TheVariants.{TooLong, Abandoned}
use Rattle.ip_reassembly.specs.declared.progress.Progress.{Progress}
use Rattle.ip_reassembly.specs.declared.progress.Progress.TheVariants.{Whole, MoreWanted}
use Rattle.ip_defragmenter.specs.declared.memory.PacketMemory.{PacketMemory}
use Rattle.ip_defragmenter.proofs.MemoryLemmas.{when_abandoned, when_mixed, when_too_long, reach_with}

-- A fragment was accepted by what had been stored.
record Passed (s : Stored) (f : FragmentParts) : Type 0 where
  alive : s.payload.abandoned ≡ false
  short : exceeds (first_after s.first f) (reach_with s f) ≡ false

refuted : (o : Option StoreError) (e : StoreError) → o ≡ Some e → o ≡ None → ⊥
refuted o e some none = let q : Some e ≡ None = sym some ∙ none in cc

passed : (s : Stored) (f : FragmentParts) → refusal_after s f ≡ None → Passed s f
passed s f none = elim (cases_Bool s.payload.abandoned) [
  | inl gone ↦ absurd (refuted (refusal_after s f) (Payload Abandoned) (when_abandoned s f gone) none)
  | inr alive ↦ elim (cases_Bool (are_mixed (f.ecn ∷ s.points))) [
    | inl mixed ↦ absurd (refuted (refusal_after s f) MixedEcn (when_mixed s f alive mixed) none)
    | inr alike ↦ elim (cases_Bool (exceeds (first_after s.first f) (reach_with s f))) [
      | inl long ↦ absurd (refuted (refusal_after s f) (Payload TooLong) (when_too_long s f alive alike long) none)
      | inr short ↦ record { alive = alive; short = short }
    ]
  ]
]

-- A whole payload reaches as far as its fragments.
payload_reach : (limit : ℕ) (fs : List Fragment) (payload : List ℕ) → AreConsistent limit fs → payload_of fs ≡ Some payload → length payload ≡ reach_of fs
payload_reach limit fs payload sound is = elim (cases_Bool (is_ended fs)) [
  | inl ended ↦ (first_bytes_each fs (reach_of fs) payload (sym (payload_is limit fs sound ended) ∙ is)).0
  | inr open_end ↦ absurd (let q : None ≡ Some payload = sym (payload_without_end fs open_end) ∙ is in cc)
]

reach_with_one : (fs : List Fragment) (g : Fragment) → reach_of (with_fragment fs g) ≤ max (reach_of fs) (end_of g)
reach_with_one fs g = elim (list_any (is_same g) fs) as (λ b. reach_of (cond b fs (g ∷ fs)) ≤ max (reach_of fs) (end_of g)) [
  | true ↦ omega arith
  | false ↦ omega arith
]

pub stated_le : (b : List ℕ) (n m : ℕ) → n ≤ m → stated_by b m ≤ 65535 → stated_by b n ≤ 65535
stated_le b n m less fits = elim (cases_Bool (version b == 4)) [
  | inl four ↦ grind (arith, four)
  | inr six ↦ grind (arith, six)
]

stated_within : (b : List ℕ) (n m : ℕ) → n ≤ m → ltb 65535 (stated_by b m) ≡ false → leb (stated_by b n) 65535 ≡ true
stated_within b n m less short = le-leb (stated_by b n) 65535 (stated_le b n m less (ltb-false 65535 (stated_by b m) short))

by_parts : (s : Stored) (f : FragmentParts) (m : PacketMemory) (o : Option FirstParts) (q : Option (List ℕ)) → HoldsStored m (stored_with s f) → Passed s f → first_after s.first f ≡ o → payload_of (stored_with s f).payload.fragments ≡ q → (is_some q && is_some o) ≡ true
    → (p : FirstParts) × ((payload : List ℕ) × IsWritable (stored_with s f) p payload)
by_parts s f m o None h passed first whole all = absurd (cc)
by_parts s f m None (Some payload) h passed first whole all = absurd (cc)
by_parts s f m (Some p) (Some payload) h passed first whole all = (
  p,
  (
    payload,
    record {
      whole = cond-false s.payload.abandoned None (payload_of (stored_with s f).payload.fragments) passed.alive ∙ whole;
      first = first;
      headers = subst AreHeaders first h.headers;
      fits = stated_within p.headers (length payload) (reach_with s f)
          (omega (arith, payload_reach (stored_with s f).payload.limit (stored_with s f).payload.fragments payload h.payload.consistent whole, reach_with_one s.payload.fragments (piece_of f)))
          (subst (λ (x : Option FirstParts). exceeds x (reach_with s f) ≡ false) first passed.short);
    },
  ),
)

writable : (s : Stored) (f : FragmentParts) (m : PacketMemory) → HoldsStored m (stored_with s f) → refusal_after s f ≡ None → (is_some (payload_of (stored_with s f).payload.fragments) && is_some (first_after s.first f)) ≡ true
    → (p : FirstParts) × ((payload : List ℕ) × IsWritable (stored_with s f) p payload)
writable s f m h none all = by_parts s f m (first_after s.first f) (payload_of (stored_with s f).payload.fragments) h (passed s f none) refl refl all

complete : (b : Bool) → Whole ≡ cond b Whole MoreWanted → b ≡ true
complete true is = refl
complete false is = absurd (cc)

pub writable_by : (s : Stored) (f : FragmentParts) (m : PacketMemory) (o : Option StoreError) → refusal_after s f ≡ o → (let r : Result Progress StoreError = Ok Whole in r) ≡ outcome_by s f o → HoldsStored m (stored_by s f o)
    → (p : FirstParts) × ((payload : List ℕ) × IsWritable (stored_by s f o) p payload)
writable_by s f m (Some e) refusal is h = absurd (let q : (let r : Result Progress StoreError = Ok Whole in r) ≡ Err e = is in cc)
writable_by s f m None none is h =
    writable s f m h none (complete (is_complete (stored_with s f)) (let q : (let r : Result Progress StoreError = Ok Whole in r) ≡ Ok (stored_progress (stored_with s f)) = is in cc))
