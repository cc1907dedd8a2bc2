-- Memories that have only fragments of the packets that have their slots.
use Rattle.std.proofs.Common.{◌≡◌, ◌≢◌, ℕ, ◌<◌, List, [], ◌∷◌, Bool, true, false, length, get_or, refl, sym, ap, ◌∙◌, subst, arith, inl, inr, suc, length-set, Option, Some, None, Result}
use Rattle.std.specs.Prelude.{Contains, slice_get, slice_set, if◌then◌else◌}
use Rattle.std.proofs.lemmas.Bool.{cases_eq}
use Rattle.std.proofs.lemmas.List.Elements.{All-cons}
use Rattle.std.proofs.lemmas.Option.{none-some, same_Some, slice_get-get_or}
use Rattle.ip_reassembly.specs.declared.progress.Progress.{Progress}
use Rattle.ip_defragmenter.specs.Added.{IsAddedAt, IsAddedBy, IsAddedUnless, freed, is_whole}
use Rattle.ip_defragmenter.specs.FragmentOf.{FragmentParts}
use Rattle.ip_defragmenter.specs.Key.{IsKey}
use Rattle.ip_defragmenter.specs.Memories.{IsStored, kept_in}
use Rattle.ip_defragmenter.specs.Memory.{Stored, HoldsStored, stored_none, stored_all, stored_after, stored_by, stored_refusal, is_store_conflict}
use Rattle.ip_defragmenter.specs.Slot.{pending_in, free_slot, slot_with}
use Rattle.ip_defragmenter.specs.Slots.{HoldsPackets, IsPlaced, has_key, slot_at}
use Rattle.ip_defragmenter.specs.Sound.{Arrival, HasOwn, IsSound}
use Rattle.ip_defragmenter.specs.declared.err.StoreError.{StoreError}
use Rattle.ip_defragmenter.specs.declared.memory.PacketMemory.{PacketMemory}
use Rattle.ip_defragmenter.specs.declared.outcome.Added.{Added}
use Rattle.ip_defragmenter.specs.declared.pending.Pending.{Pending}
use Rattle.ip_defragmenter.specs.declared.settings.Settings.{Settings}
use Rattle.ip_defragmenter.specs.declared.slot.Slot.{Slot}
use Rattle.ip_defragmenter.specs.declared.slots.Placement.{Placement}
use Rattle.ip_defragmenter.specs.declared.slots.SlotTable.{SlotTable}
use Rattle.ip_defragmenter.proofs.KeyLemmas.{own_key}
use Rattle.ip_defragmenter.proofs.SlotLemmas.{has_packet, here, there, beyond, free_pending}

-- The room of a memory stays.
limit_refused : (b : Bool) (s : Stored) → (if b then record s { payload = record s.payload { abandoned = true } } else s).payload.limit ≡ s.payload.limit
limit_refused true s = refl
limit_refused false s = refl

limit_by : (s : Stored) (f : FragmentParts) (o : Option StoreError) → (stored_by s f o).payload.limit ≡ s.payload.limit
limit_by s f None = refl
limit_by s f (Some e) = limit_refused (is_store_conflict e) s

limit_after : (s : Stored) (f : FragmentParts) → (stored_after s f).payload.limit ≡ s.payload.limit
limit_after s f = limit_by s f (stored_refusal s f)

limit_kept : (b : Bool) (s : Stored) → (kept_in b s).payload.limit ≡ s.payload.limit
limit_kept true s = refl
limit_kept false s = refl

-- What arrived before is still among what arrived.
more : (x y : Arrival) (xs : List Arrival) → Contains xs y → Contains (x ∷ xs) y
more x y xs c = (suc c.0, (let less : c.0 < length xs = c.1 in omega arith), c.2)

first : (x : Arrival) (xs : List Arrival) → Contains (x ∷ xs) x
first x xs = (0, omega arith, refl)

arrived_more : (x : Arrival) (xs : List Arrival) (m : PacketMemory) (p q : Pending) → p.context ≡ q.context → p.key ≡ q.key → HasOwn xs m p → HasOwn (x ∷ xs) m q
arrived_more x xs m p q context key own = record {
  given = own.given;
  stored = own.stored;
  own = λ k d less.
      let old = own.own k d less in
      let P : ℕ → Type 0 = λ c. Contains (x ∷ xs) (record { context = c; fragment = get_or own.given k d }) in
      (old.0 ∙ key, subst P context (more x _ xs old.1));
}

-- The slot at another place, and the one that was used.
slot_other : (b : Bool) (xs : List Slot) (i j : ℕ) (s : Slot) → j ≢ i → slot_at (freed b i (slice_set xs i s)) j ≡ slot_at xs j
slot_other true xs i j s apart = there (slice_set xs i s) i j free_slot apart ∙ there xs i j s apart
slot_other false xs i j s apart = there xs i j s apart

sound_slots : (t u : SlotTable) (memories memories2 : List PacketMemory) (x : Arrival) (arrived : List Arrival) → u.slots.now ≡ t.slots.now → memories2 ≡ memories
    → IsSound t memories arrived → IsSound u memories2 (x ∷ arrived)
sound_slots t u memories memories2 x arrived slots same sound = record {
  stored = λ i m at. sound.stored i m (ap (λ (ms : List PacketMemory). slice_get ms i) (sym same) ∙ at);
  own = λ i m p at pending. arrived_more x arrived m p p refl refl (sound.own i m p (ap (λ (ms : List PacketMemory). slice_get ms i) (sym same) ∙ at) (ap (λ (xs : List Slot). pending_in (slot_at xs i)) (sym slots) ∙ pending));
}

-- What the memory of the slot has then.
own_after : (b : Bool) (t : SlotTable) (memories : List PacketMemory) (arrived : List Arrival) (context i : ℕ) (f : FragmentParts) (m n : PacketMemory) (q : Pending) (r : Result Progress StoreError)
    → IsSound t memories arrived → slice_get memories i ≡ Some m → (b ≡ true → has_key context f.key (slot_at t.slots.now i) ≡ true)
    → IsStored m n b f r → q.context ≡ context → q.key ≡ f.key
    → HasOwn (record { context = context; fragment = f } ∷ arrived) n q
own_after true t memories arrived context i f m n q r sound at known is_stored q_context q_key =
    let x : Arrival = record { context = context; fragment = f } in
    let old = has_packet context f.key (slot_at t.slots.now i) (known refl) in
    let own : HasOwn (x ∷ arrived) m q = arrived_more x arrived m old.packet q (old.context_is ∙ sym q_context) (old.key_is ∙ sym q_key) (sound.own i m old.packet at old.there) in
    let P : ℕ → Type 0 = λ c. Contains (x ∷ arrived) (record { context = c; fragment = f }) in
    let R : FragmentParts → Type 0 = λ g. (g.key ≡ q.key) × Contains (x ∷ arrived) (record { context = q.context; fragment = g }) in
    record {
      given = f ∷ own.given;
      stored = is_stored.stored (stored_all (stored_none 65535) own.given) own.stored;
      own = All-cons R f own.given (sym q_key, subst P (sym q_context) (first x arrived)) own.own;
    }
own_after false t memories arrived context i f m n q r sound at known is_stored q_context q_key =
    let x : Arrival = record { context = context; fragment = f } in
    let old = sound.stored i m at in
    let P : ℕ → Type 0 = λ c. Contains (x ∷ arrived) (record { context = c; fragment = f }) in
    let Q : ℕ → Type 0 = λ limit. HoldsStored n (stored_after (stored_none limit) f) in
    let R : FragmentParts → Type 0 = λ g. (g.key ≡ q.key) × Contains (x ∷ arrived) (record { context = q.context; fragment = g }) in
    record {
      given = f ∷ [];
      stored = subst Q old.2 (is_stored.stored old.0 old.1);
      own = All-cons R f [] (sym q_key, subst P (sym q_context) (first x arrived)) (λ k d less. absurd (omega arith));
    }

own_freed : (b : Bool) (xs : List Slot) (i since context : ℕ) (f : FragmentParts) (q : Pending) → IsKey f.key → i < length (slice_set xs i (slot_with since context f.key)) → i < length xs
    → pending_in (slot_at (freed b i (slice_set xs i (slot_with since context f.key))) i) ≡ Some q → (q.context ≡ context) × (q.key ≡ f.key)
own_freed true xs i since context f q is_key within old_within pending =
    absurd (none-some _ (sym (ap pending_in (here (slice_set xs i (slot_with since context f.key)) i free_slot within)) ∙ pending))
own_freed false xs i since context f q is_key within old_within pending =
    let own = has_packet context f.key (slot_with since context f.key) (own_key since context f.key is_key) in
    let same : own.packet ≡ q = same_Some _ _ (sym own.there ∙ (sym (ap pending_in (here xs i (slot_with since context f.key) old_within)) ∙ pending)) in
    (ap (λ (p : Pending). p.context) (sym same) ∙ own.context_is, ap (λ (p : Pending). p.key) (sym same) ∙ own.key_is)

sound_at : (t u : SlotTable) (memories memories2 : List PacketMemory) (seed : List ℕ) (context : ℕ) (f : FragmentParts) (p : Placement) (a : Added) (r : Result Progress StoreError) (arrived : List Arrival)
    → length t.slots.now ≡ length memories → IsKey f.key → (p.is_known ≡ true → has_key context f.key (slot_at t.slots.now p.index) ≡ true) → p.index < length t.slots.now
    → IsAddedAt t memories seed context f p u memories2 a r → IsSound t memories arrived
    → IsSound u memories2 (record { context = context; fragment = f } ∷ arrived)
sound_at t u memories memories2 seed context f p a r arrived as_many is_key known within added sound =
    let x : Arrival = record { context = context; fragment = f } in
    let i : ℕ = p.index in
    let s : Slot = slot_with p.since context f.key in
    let inside : i < length memories = omega (arith, as_many, within) in
    let long : i < length (slice_set t.slots.now i s) = omega (arith, length-set t.slots.now i s, within) in
    let old : (n : PacketMemory) → slice_get memories i ≡ Some (get_or memories i n) = λ n. slice_get-get_or memories i n inside in
    let is_n : (n : PacketMemory) → slice_get memories2 i ≡ Some n → IsStored (get_or memories i n) n p.is_known f r = λ n at.
    (let own = added.own (get_or memories i n) (old n) in
    let P : PacketMemory → Type 0 = λ y. IsStored (get_or memories i n) y p.is_known f r in
    subst P (same_Some _ _ (sym own.1.0 ∙ at)) own.1.1) in
    record {
      stored = λ j n at. elim (cases_eq j i) [
        | inl same ↦
            let at_i : slice_get memories2 i ≡ Some n = ap (slice_get memories2) (sym same) ∙ at in
            let was = sound.stored i (get_or memories i n) (old n) in
            (stored_after (kept_in p.is_known was.0) f, (is_n n at_i).stored was.0 was.1, limit_after (kept_in p.is_known was.0) f ∙ (limit_kept p.is_known was.0 ∙ was.2))
        | inr other ↦ sound.stored j n (sym (added.others j other) ∙ at)
      ];
      own = λ j n q at pending. elim (cases_eq j i) [
        | inl same ↦
            let at_i : slice_get memories2 i ≡ Some n = ap (slice_get memories2) (sym same) ∙ at in
            let pending_i : pending_in (slot_at (freed (is_whole r) i (slice_set t.slots.now i s)) i) ≡ Some q =
            ap (λ (xs : List Slot). pending_in (slot_at xs i)) (sym added.slots) ∙ (ap (λ (k : ℕ). pending_in (slot_at u.slots.now k)) (sym same) ∙ pending) in
            let is_q = own_freed (is_whole r) t.slots.now i p.since context f q is_key long within pending_i in
            own_after p.is_known t memories arrived context i f (get_or memories i n) n q r sound (old n) known (is_n n at_i) is_q.0 is_q.1
        | inr other ↦
            let pending_j : pending_in (slot_at t.slots.now j) ≡ Some q =
            sym (ap (λ (xs : List Slot). pending_in (slot_at xs j)) added.slots ∙ ap pending_in (slot_other (is_whole r) t.slots.now i j s other)) ∙ pending in
            arrived_more x arrived n q q refl refl (sound.own j n q (sym (added.others j other) ∙ at) pending_j)
      ];
    }

sound_by : (o : Option Placement) (t u : SlotTable) (memories memories2 : List PacketMemory) (settings : Settings) (context time : ℕ) (f : FragmentParts) (a : Added) (arrived : List Arrival)
    → length t.slots.now ≡ length memories → IsKey f.key → IsPlaced t settings context f.key time o → IsAddedBy t memories settings.seed context f o u memories2 a
    → IsSound t memories arrived → IsSound u memories2 (record { context = context; fragment = f } ∷ arrived)
sound_by None t u memories memories2 settings context time f a arrived as_many is_key placed added sound = sound_slots t u memories memories2 _ arrived added.1.slots added.2 sound
sound_by (Some p) t u memories memories2 settings context time f a arrived as_many is_key placed added sound =
    sound_at t u memories memories2 settings.seed context f p a added.0 arrived as_many is_key (placed.known p refl) (placed.within p refl) added.1 sound

pub sound_added : (o : Option StoreError) (t u : SlotTable) (memories memories2 : List PacketMemory) (settings : Settings) (context time : ℕ) (f : FragmentParts) (a : Added) (arrived : List Arrival)
    → length t.slots.now ≡ length memories → IsKey f.key → IsAddedUnless o t memories settings context time f u memories2 a
    → IsSound t memories arrived → IsSound u memories2 (record { context = context; fragment = f } ∷ arrived)
sound_added (Some e) t u memories memories2 settings context time f a arrived as_many is_key added sound = sound_slots t u memories memories2 _ arrived added.1.slots added.2 sound
sound_added None t u memories memories2 settings context time f a arrived as_many is_key added sound =
    sound_by added.0 t u memories memories2 settings context time f a arrived as_many is_key added.1 added.2 sound

-- The packet of a slot was given up, or not.
freed_slot : (xs : List Slot) (i : ℕ) → slot_at (slice_set xs i free_slot) i ≡ free_slot
freed_slot xs i = elim (beyond (slice_set xs i free_slot) i) [
  | inr is ↦ is
  | inl less ↦ here xs i free_slot (omega (arith, length-set xs i free_slot, less))
]

pending_before : (b : Bool) (xs : List Slot) (i j : ℕ) (p : Pending) → pending_in (slot_at (if b then slice_set xs i free_slot else xs) j) ≡ Some p → pending_in (slot_at xs j) ≡ Some p
pending_before false xs i j p pending = pending
pending_before true xs i j p pending = elim (cases_eq j i) [
  | inl same ↦ absurd (none-some p (sym (ap (λ (k : ℕ). pending_in (slot_at (slice_set xs i free_slot) k)) same ∙ ap pending_in (freed_slot xs i)) ∙ pending))
  | inr other ↦ sym (ap pending_in (there xs i j free_slot other)) ∙ pending
]

pub sound_given_up : (b : Bool) (t u : SlotTable) (memories : List PacketMemory) (i : ℕ) (arrived : List Arrival) → u.slots.now ≡ (if b then slice_set t.slots.now i free_slot else t.slots.now)
    → IsSound t memories arrived → IsSound u memories arrived
sound_given_up b t u memories i arrived slots sound = record {
  stored = sound.stored;
  own = λ j m p at pending. sound.own j m p at (pending_before b t.slots.now i j p (sym (ap (λ (xs : List Slot). pending_in (slot_at xs j)) slots) ∙ pending));
}

-- Before any fragment arrived.
pub sound_begun : (t : SlotTable) (memories : List PacketMemory) (seed free : List ℕ) → HoldsPackets t seed free []
    → ((i : ℕ) (m : PacketMemory) → slice_get memories i ≡ Some m → HoldsStored m (stored_none 65535)) → IsSound t memories []
sound_begun t memories seed free holds empty = record {
  stored = λ i m at. (stored_none 65535, empty i m at, refl);
  own = λ i m p at pending. absurd (none-some _ (sym (free_pending t seed free i holds) ∙ pending));
}
