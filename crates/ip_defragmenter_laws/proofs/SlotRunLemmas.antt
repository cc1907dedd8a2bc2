-- One packet's slot over a run: as long as the packet isn't given up, its memory has all of its fragments.
use Rattle.std.proofs.Common.{◌≡◌, ◌≢◌, ℕ, ◌<◌, List, [], ◌∷◌, ◌++◌, Bool, true, false, length, refl, sym, ap, ◌∙◌, subst, arith, inl, inr, length-set, Option, Some, None, Result}
use Rattle.std.specs.Prelude.{Contains, is_some, slice_get, slice_set, if◌then◌else◌}
use Rattle.std.specs.List.{range_with_len}
use Rattle.std.specs.Option.{option_map, option_and_then}
use Rattle.std.proofs.lemmas.Bool.{cases_eq, false≢true, false_from_ne_true}
use Rattle.std.proofs.lemmas.Option.{none-some, same_Some, slice_get_cases}
use Rattle.ip_reassembly.specs.declared.progress.Progress.{Progress}
use Rattle.ip_lists.specs.Moves.{without}
use Rattle.ip_lists.proofs.Lacking.{lacks_none}
use Rattle.ip_lists.proofs.Filters.{has_head}
use Rattle.ip_defragmenter.specs.Added.{IsAdded, IsAddedAt, IsAddedBy, IsAddedUnless, freed, free_with, is_whole, outcome_in, used_without}
use Rattle.ip_defragmenter.specs.FragmentOf.{FragmentParts}
use Rattle.ip_defragmenter.specs.Key.{IsKey}
use Rattle.ip_defragmenter.specs.Memories.{IsStored}
use Rattle.ip_defragmenter.specs.Memory.{Stored, HoldsStored, WasStored, own_refusal, stored_none, stored_all, stored_after, stored_outcome}
use Rattle.ip_defragmenter.specs.Slot.{pending_in, is_free, free_slot, slot_with}
use Rattle.ip_defragmenter.specs.Slots.{HoldsPackets, IsPlaced, IsUnchanged, displaced_place, free_after, has_key, is_expired, loss_by, loss_of, lost_by, own_in, own_place, own_slot, place_anew, place_of, slot_at, used_after}
use Rattle.ip_defragmenter.specs.Sound.{Arrival, IsSound}
use Rattle.ip_defragmenter.specs.declared.err.StoreError.{StoreError}
use Rattle.ip_defragmenter.specs.declared.key.FragmentKey.{FragmentKey}
use Rattle.ip_defragmenter.specs.declared.memory.PacketMemory.{PacketMemory}
use Rattle.ip_defragmenter.specs.declared.outcome.Added.{Added}
use Rattle.ip_defragmenter.specs.declared.pending.Loss.{Loss}
use Rattle.ip_defragmenter.specs.declared.pending.LossReason.TheVariants.{TimedOut, Displaced}
use Rattle.ip_defragmenter.specs.declared.pending.Pending.{Pending}
use Rattle.ip_defragmenter.specs.declared.settings.Settings.{Settings}
use Rattle.ip_defragmenter.specs.declared.slot.Slot.{Slot}
use Rattle.ip_defragmenter.specs.declared.slots.Placement.{Placement}
use Rattle.ip_defragmenter.specs.declared.slots.SlotTable.{SlotTable}
use Rattle.ip_defragmenter_laws.specs.Pending.{HasFragments}
use Rattle.ip_defragmenter_laws.specs.Run.{GiveUp, IsCleared, IsFresh, IsGivenUp, IsKept, TableState}
use Rattle.ip_defragmenter.proofs.KeyLemmas.{own_key, own_context, only_key}
use Rattle.ip_defragmenter.proofs.SlotLemmas.{HasPacket, beyond, free_pending, has_packet, has_used, has_within, here, there, found_in, found_slot, in_use, own_place_of, place_of_new, used_one, unchanged}
use Rattle.ip_defragmenter.proofs.SoundLemmas.{sound_added, sound_begun, sound_given_up}

-- A table with slots is valid, and its memories have only fragments of the packets that have their slots.
pub record IsValid (seed : List ℕ) (t : SlotTable) (memories : List PacketMemory) : Type 0 where
  pub free : List ℕ
  pub used : List ℕ
  pub holds : HoldsPackets t seed free used
  pub arrived : List Arrival
  pub sound : IsSound t memories arrived
  pub some : 0 < length t.slots.now

-- It has all fragments of the packet, too.
pub record Keeps (seed : List ℕ) (context : ℕ) (k : FragmentKey) (given : List FragmentParts) (t : SlotTable) (memories : List PacketMemory) : Type 0 where
  pub valid : IsValid seed t memories
  pub is_in : HasFragments context k given t.slots.now memories

-- The other slots, and the one that was used.
pub apart : (b : Bool) (xs : List Slot) (i j : ℕ) (s : Slot) → j ≢ i → slot_at (freed b i (slice_set xs i s)) j ≡ slot_at xs j
apart true xs i j s other = there (slice_set xs i s) i j free_slot other ∙ there xs i j s other
apart false xs i j s other = there xs i j s other

pub as_long : (b : Bool) (xs : List Slot) (i : ℕ) (s : Slot) → length (freed b i (slice_set xs i s)) ≡ length xs
as_long true xs i s = length-set (slice_set xs i s) i free_slot ∙ length-set xs i s
as_long false xs i s = length-set xs i s

pub not_freed : (b : Bool) (xs : List Slot) (i : ℕ) (s : Slot) → b ≡ false → i < length xs → slot_at (freed b i (slice_set xs i s)) i ≡ s
not_freed true xs i s is within = absurd (false≢true (sym is))
not_freed false xs i s is within = here xs i s within

-- A slot has one packet.
one_packet : (c d : ℕ) (j k : FragmentKey) (s : Slot) → has_key c j s ≡ true → has_key d k s ≡ true → (c ≡ d) × (j ≡ k)
one_packet c d j k s first second =
    let a = has_packet c j s first in
    let b = has_packet d k s second in
    let same : a.packet ≡ b.packet = same_Some _ _ (sym a.there ∙ b.there) in
    (sym a.context_is ∙ (ap (λ (p : Pending). p.context) same ∙ b.context_is), sym a.key_is ∙ (ap (λ (p : Pending). p.key) same ∙ b.key_is))

-- The slot of another packet isn't this one's.
not_with : (context d since : ℕ) (k h : FragmentKey) → IsKey k → IsKey h → (d ≡ context → h ≡ k → ⊥) → has_key context k (slot_with since d h) ≡ false
not_with context d since k h is_k is_h other =
    false_from_ne_true (has_key context k (slot_with since d h)) (λ e. other (sym (own_context since context d k h e)) (sym (only_key since context d k h is_k is_h e)))

not_other : (b : Bool) (context d since : ℕ) (k h : FragmentKey) (xs : List Slot) (i : ℕ) → IsKey k → IsKey h → (d ≡ context → h ≡ k → ⊥) → i < length xs
    → has_key context k (slot_at (freed b i (slice_set xs i (slot_with since d h))) i) ≡ false
not_other true context d since k h xs i is_k is_h other within =
    ap (has_key context k) (here (slice_set xs i (slot_with since d h)) i free_slot (omega (arith, within, length-set xs i (slot_with since d h))))
not_other false context d since k h xs i is_k is_h other within =
    ap (has_key context k) (here xs i (slot_with since d h) within) ∙ not_with context d since k h is_k is_h other

-- A new packet is new where it is placed.
displaced_unknown : (timeout i time : ℕ) (o : Option Pending) (p : Placement) → option_map (λ (q : Pending). displaced_place timeout i q time) o ≡ Some p → p.is_known ≡ false
displaced_unknown timeout i time None p is = absurd (none-some _ is)
displaced_unknown timeout i time (Some q) p is = ap (λ (x : Placement). x.is_known) (sym (same_Some _ _ is))

anew_unknown : (timeout : ℕ) (slots : List Slot) (free used : List ℕ) (time : ℕ) (p : Placement) → place_anew timeout slots free used time ≡ Some p → p.is_known ≡ false
anew_unknown timeout slots (i ∷ free) used time p is = ap (λ (x : Placement). x.is_known) (sym (same_Some _ _ is))
anew_unknown timeout slots [] (i ∷ used) time p is = displaced_unknown timeout i time (pending_in (slot_at slots i)) p is
anew_unknown timeout slots [] [] time p is = absurd (none-some _ is)

-- It is placed if there is a slot.
some_displaced : (timeout i time : ℕ) (o : Option Pending) (q : Pending) → o ≡ Some q → (let n : Option Placement = None in n) ≡ option_map (λ (x : Pending). displaced_place timeout i x time) o → ⊥
some_displaced timeout i time None q there is = none-some _ there
some_displaced timeout i time (Some x) q there is = none-some _ is

anew_some : (timeout : ℕ) (t : SlotTable) (seed free used : List ℕ) (time : ℕ) → HoldsPackets t seed free used → 0 < length t.slots.now
    → (let n : Option Placement = None in n) ≡ place_anew timeout t.slots.now free used time → ⊥
anew_some timeout t seed (i ∷ free) used time holds some is = none-some _ is
anew_some timeout t seed [] (i ∷ used) time holds some is =
    let one = used_one t.slots.now i (holds.used_slots i (has_head i used)) in
    some_displaced timeout i time (pending_in (slot_at t.slots.now i)) one.packet one.there is
anew_some timeout t seed [] [] time holds some is =
    elim ((holds.table.each 0).1 (let e : t.table.places ≡ length t.slots.now = holds.as_many in omega arith)) [
      | inl none ↦ lacks_none 0 none
      | inr none ↦ lacks_none 0 none
    ]

-- No slot has the packet.
none_found : (o : Option ℕ) (slots : List Slot) (used : List ℕ) (context : ℕ) (k : FragmentKey) → ((i : ℕ) → has_key context k (slot_at slots i) ≡ false) → own_slot slots used context k ≡ o → o ≡ None
none_found None slots used context k none is = refl
none_found (Some i) slots used context k none is =
    absurd (false≢true (sym (none i) ∙ (found_in (λ (x : ℕ). has_key context k (slot_at slots x)) used i is).1))

-- The packet stays in its slot, unless it is lost.
stays_by : (v : Bool) (i time : ℕ) (q : Pending) (p : Placement) (context : ℕ) (k : FragmentKey) → q.context ≡ context → q.key ≡ k
    → (if v then record { index = i; since = time; is_known = false; lost = Some (lost_by TimedOut q) } else record { index = i; since = q.since; is_known = true; lost = None }) ≡ p
    → IsKept context k p.lost → (p.index ≡ i) × (p.is_known ≡ true)
stays_by true i time q p context k at_context at_key is kept = absurd (kept (lost_by TimedOut q) (ap (λ (x : Placement). x.lost) (sym is)) at_context at_key)
stays_by false i time q p context k at_context at_key is kept = (ap (λ (x : Placement). x.index) (sym is), ap (λ (x : Placement). x.is_known) (sym is))

stays_in : (o : Option Pending) (timeout i time : ℕ) (p : Placement) (context : ℕ) (k : FragmentKey) → HasPacket context k o
    → option_map (λ (q : Pending). own_place timeout i q time) o ≡ Some p → IsKept context k p.lost → (p.index ≡ i) × (p.is_known ≡ true)
stays_in None timeout i time p context k has is kept = absurd (none-some _ is)
stays_in (Some q) timeout i time p context k has is kept =
    let same : q ≡ has.packet = same_Some _ _ has.there in
    stays_by (is_expired timeout q.since time) i time q p context k (ap (λ (x : Pending). x.context) same ∙ has.context_is) (ap (λ (x : Pending). x.key) same ∙ has.key_is) (same_Some _ _ is) kept

some_own : (o : Option Pending) (timeout i time context : ℕ) (k : FragmentKey) → HasPacket context k o
    → (let n : Option Placement = None in n) ≡ option_map (λ (q : Pending). own_place timeout i q time) o → ⊥
some_own None timeout i time context k has is = none-some _ has.there
some_own (Some q) timeout i time context k has is = none-some _ is

-- Another packet is placed elsewhere, unless this one is lost.
index_by : (v : Bool) (a b p : Placement) (i : ℕ) → a.index ≡ i → b.index ≡ i → (if v then a else b) ≡ p → p.index ≡ i
index_by true a b p i at_a at_b is = ap (λ (x : Placement). x.index) (sym is) ∙ at_a
index_by false a b p i at_a at_b is = ap (λ (x : Placement). x.index) (sym is) ∙ at_b

index_in : (o : Option Pending) (timeout i time : ℕ) (p : Placement) → option_map (λ (q : Pending). own_place timeout i q time) o ≡ Some p → p.index ≡ i
index_in None timeout i time p is = absurd (none-some _ is)
index_in (Some q) timeout i time p is = index_by (is_expired timeout q.since time) _ _ p i refl refl (same_Some _ _ is)

displaced_lost : (o : Option Pending) (timeout i time : ℕ) (p : Placement) (context : ℕ) (k : FragmentKey) → HasPacket context k o
    → option_map (λ (q : Pending). displaced_place timeout i q time) o ≡ Some p → IsKept context k p.lost → ⊥
displaced_lost None timeout i time p context k has is kept = none-some _ is
displaced_lost (Some q) timeout i time p context k has is kept =
    let same : q ≡ has.packet = same_Some _ _ has.there in
    kept (lost_by (if is_expired timeout q.since time then TimedOut else Displaced) q) (ap (λ (x : Placement). x.lost) (sym (same_Some _ _ is)))
    (ap (λ (x : Pending). x.context) same ∙ has.context_is) (ap (λ (x : Pending). x.key) same ∙ has.key_is)

displaced_index : (o : Option Pending) (timeout i time : ℕ) (p : Placement) → option_map (λ (q : Pending). displaced_place timeout i q time) o ≡ Some p → p.index ≡ i
displaced_index None timeout i time p is = absurd (none-some _ is)
displaced_index (Some q) timeout i time p is = ap (λ (x : Placement). x.index) (sym (same_Some _ _ is))

anew_apart : (timeout : ℕ) (t : SlotTable) (seed free used : List ℕ) (time : ℕ) (p : Placement) (context : ℕ) (k : FragmentKey) (i : ℕ) → HoldsPackets t seed free used
    → has_key context k (slot_at t.slots.now i) ≡ true → place_anew timeout t.slots.now free used time ≡ Some p → IsKept context k p.lost → i ≢ p.index
anew_apart timeout t seed (j ∷ free) used time p context k i holds has is kept = λ same.
    let at : i ≡ j = same ∙ ap (λ (x : Placement). x.index) (sym (same_Some _ _ is)) in
    false≢true (sym (has_used context k (slot_at t.slots.now i) has) ∙ (ap (λ (x : ℕ). is_free (slot_at t.slots.now x)) at ∙ holds.free_slots j (has_head j free)))
anew_apart timeout t seed [] (j ∷ used) time p context k i holds has is kept = λ same.
    let at : i ≡ j = same ∙ displaced_index (pending_in (slot_at t.slots.now j)) timeout j time p is in
    displaced_lost (pending_in (slot_at t.slots.now j)) timeout j time p context k
    (has_packet context k (slot_at t.slots.now j) (ap (λ (x : ℕ). has_key context k (slot_at t.slots.now x)) (sym at) ∙ has)) is kept
anew_apart timeout t seed [] [] time p context k i holds has is kept = absurd (none-some _ is)

placed_apart : (o : Option ℕ) (timeout : ℕ) (t : SlotTable) (seed free used : List ℕ) (time : ℕ) (p : Placement) (context d : ℕ) (k h : FragmentKey) (i : ℕ) → own_slot t.slots.now used d h ≡ o
    → HoldsPackets t seed free used → has_key context k (slot_at t.slots.now i) ≡ true → place_of timeout t.slots.now free used d h time ≡ Some p
    → (d ≡ context → h ≡ k → ⊥) → IsKept context k p.lost → i ≢ p.index
placed_apart None timeout t seed free used time p context d k h i found holds has is other kept =
    anew_apart timeout t seed free used time p context k i holds has (sym (place_of_new timeout t.slots.now free used d h time found) ∙ is) kept
placed_apart (Some j) timeout t seed free used time p context d k h i found holds has is other kept = λ same.
    let at : i ≡ j = same ∙ index_in (pending_in (slot_at t.slots.now j)) timeout j time p (sym (own_place_of timeout t.slots.now free used d h time j found) ∙ is) in
    let own = found_in (λ (x : ℕ). has_key d h (slot_at t.slots.now x)) used j found in
    let both = one_packet d context h k (slot_at t.slots.now j) own.1 (ap (λ (x : ℕ). has_key context k (slot_at t.slots.now x)) (sym at) ∙ has) in
    other both.0 both.1

-- Nothing was added.
same_in : (given : List FragmentParts) (context : ℕ) (k : FragmentKey) (xs ys : List Slot) (memories : List PacketMemory) → ys ≡ xs → HasFragments context k given xs memories → HasFragments context k given ys memories
same_in [] context k xs ys memories same is = λ i. ap (λ (s : List Slot). has_key context k (slot_at s i)) same ∙ is i
same_in (f ∷ fs) context k xs ys memories same is = record {
  index = is.index;
  has = ap (λ (s : List Slot). has_key context k (slot_at s is.index)) same ∙ is.has;
  memory = is.memory;
  at = is.at;
  stored = is.stored;
}

valid_same : (seed : List ℕ) (t u : SlotTable) (memories : List PacketMemory) → IsUnchanged t u → IsValid seed t memories → IsValid seed u memories
valid_same seed t u memories same valid = record {
  free = valid.free;
  used = valid.used;
  holds = unchanged t u seed valid.free valid.used same.slots same.table valid.holds;
  arrived = valid.arrived;
  sound = sound_given_up false t u memories 0 valid.arrived same.slots valid.sound;
  some = (let e : length u.slots.now ≡ length t.slots.now = ap length same.slots in omega (arith, e, valid.some));
}

pub valid_unchanged : (seed : List ℕ) (t u : SlotTable) (memories others : List PacketMemory) → IsUnchanged t u → others ≡ memories → IsValid seed t memories → IsValid seed u others
valid_unchanged seed t u memories others same kept valid = subst (IsValid seed u) (sym kept) (valid_same seed t u memories same valid)

pub keeps_unchanged : (seed : List ℕ) (context : ℕ) (k : FragmentKey) (given : List FragmentParts) (t u : SlotTable) (memories others : List PacketMemory) → IsUnchanged t u → others ≡ memories
    → Keeps seed context k given t memories → Keeps seed context k given u others
keeps_unchanged seed context k given t u memories others same kept keeps = record {
  valid = valid_unchanged seed t u memories others same kept keeps.valid;
  is_in = subst (HasFragments context k given u.slots.now) (sym kept) (same_in given context k t.slots.now u.slots.now memories same.slots keeps.is_in);
}

-- A fragment of another packet was added.
other_in : (given : List FragmentParts) (context d : ℕ) (k : FragmentKey) (t u : SlotTable) (memories others : List PacketMemory) (seed free used : List ℕ) (timeout time : ℕ) (f : FragmentParts) (p : Placement) (a : Added) (r : Result Progress StoreError)
    → IsKey k → IsKey f.key → (d ≡ context → f.key ≡ k → ⊥) → HoldsPackets t seed free used → place_of timeout t.slots.now free used d f.key time ≡ Some p → p.index < length t.slots.now
    → IsKept context k p.lost → IsAddedAt t memories seed d f p u others a r → HasFragments context k given t.slots.now memories → HasFragments context k given u.slots.now others
other_in [] context d k t u memories others seed free used timeout time f p a r is_k is_f other holds placed within kept added is = λ i.
    let s : Slot = slot_with p.since d f.key in
    ap (λ (xs : List Slot). has_key context k (slot_at xs i)) added.slots ∙ elim (cases_eq i p.index) [
      | inl same ↦ ap (λ (j : ℕ). has_key context k (slot_at (freed (is_whole r) p.index (slice_set t.slots.now p.index s)) j)) same
          ∙ not_other (is_whole r) context d p.since k f.key t.slots.now p.index is_k is_f other within
      | inr far ↦ ap (has_key context k) (apart (is_whole r) t.slots.now p.index i s far) ∙ is i
    ]
other_in (g ∷ gs) context d k t u memories others seed free used timeout time f p a r is_k is_f other holds placed within kept added is =
    let s : Slot = slot_with p.since d f.key in
    let far : is.index ≢ p.index = placed_apart (own_slot t.slots.now used d f.key) timeout t seed free used time p context d k f.key is.index refl holds is.has placed other kept in
    record {
      index = is.index;
      has = ap (λ (xs : List Slot). has_key context k (slot_at xs is.index)) added.slots ∙ (ap (has_key context k) (apart (is_whole r) t.slots.now p.index is.index s far) ∙ is.has);
      memory = is.memory;
      at = added.others is.index far ∙ is.at;
      stored = is.stored;
    }

module _ (settings : Settings) (t u : SlotTable) (memories others : List PacketMemory) (d time : ℕ) (f : FragmentParts) (a : Added)
    (as_many : length t.slots.now ≡ length memories) (is_f : IsKey f.key) (added : IsAdded t memories settings d time f u others a) where
  valid_at : (p : Placement) (r : Result Progress StoreError) → IsAddedAt t memories settings.seed d f p u others a r → IsValid settings.seed t memories → IsValid settings.seed u others
  valid_at p r at valid = record {
    free = free_with (is_whole r) p.index (free_after valid.free (Some p));
    used = used_without (is_whole r) p.index (used_after valid.used (Some p));
    holds = at.packets valid.free valid.used valid.holds;
    arrived = record { context = d; fragment = f } ∷ valid.arrived;
    sound = sound_added (own_refusal f) t u memories others settings d time f a valid.arrived as_many is_f added valid.sound;
    some = (let e : length u.slots.now ≡ length t.slots.now = ap length at.slots ∙ as_long (is_whole r) t.slots.now p.index (slot_with p.since d f.key) in omega (arith, e, valid.some));
  }

  valid_by : (o : Option Placement) → IsAddedBy t memories settings.seed d f o u others a → IsValid settings.seed t memories → IsValid settings.seed u others
  valid_by None by valid = valid_unchanged settings.seed t u memories others by.1 by.2 valid
  valid_by (Some p) by valid = valid_at p by.0 by.1 valid

  valid_unless : (o : Option StoreError) → IsAddedUnless o t memories settings d time f u others a → IsValid settings.seed t memories → IsValid settings.seed u others
  valid_unless (Some e) by valid = valid_unchanged settings.seed t u memories others by.1 by.2 valid
  valid_unless None by valid = valid_by by.0 by.2 valid

  pub valid_added : IsValid settings.seed t memories → IsValid settings.seed u others
  valid_added valid = valid_unless (own_refusal f) added valid

  module _ (context : ℕ) (k : FragmentKey) (is_k : IsKey k) where
    other_at : (given : List FragmentParts) (p : Placement) (r : Result Progress StoreError) → IsPlaced t settings d f.key time (Some p) → IsAddedAt t memories settings.seed d f p u others a r
        → (d ≡ context → f.key ≡ k → ⊥) → IsKept context k a.lost → Keeps settings.seed context k given t memories → Keeps settings.seed context k given u others
    other_at given p r placed at other kept keeps =
        let valid = keeps.valid in
        record {
          valid = valid_at p r at valid;
          is_in = other_in given context d k t u memories others settings.seed valid.free valid.used settings.timeout time f p a r is_k is_f other valid.holds
              (sym (placed.place valid.free valid.used valid.holds)) (placed.within p refl) (subst (IsKept context k) at.lost kept) at keeps.is_in;
        }

    other_by : (given : List FragmentParts) (o : Option Placement) → IsPlaced t settings d f.key time o → IsAddedBy t memories settings.seed d f o u others a
        → (d ≡ context → f.key ≡ k → ⊥) → IsKept context k a.lost → Keeps settings.seed context k given t memories → Keeps settings.seed context k given u others
    other_by given None placed by other kept keeps = keeps_unchanged settings.seed context k given t u memories others by.1 by.2 keeps
    other_by given (Some p) placed by other kept keeps = other_at given p by.0 placed by.1 other kept keeps

    other_unless : (given : List FragmentParts) (o : Option StoreError) → IsAddedUnless o t memories settings d time f u others a
        → (d ≡ context → f.key ≡ k → ⊥) → IsKept context k a.lost → Keeps settings.seed context k given t memories → Keeps settings.seed context k given u others
    other_unless given (Some e) by other kept keeps = keeps_unchanged settings.seed context k given t u memories others by.1 by.2 keeps
    other_unless given None by other kept keeps = other_by given by.0 by.1 by.2 other kept keeps

    pub keeps_other : (given : List FragmentParts) → (d ≡ context → f.key ≡ k → ⊥) → IsKept context k a.lost → Keeps settings.seed context k given t memories → Keeps settings.seed context k given u others
    keeps_other given other kept keeps = other_unless given (own_refusal f) added other kept keeps

-- A fragment of the packet was added to its memory.
pub record IsAddedOwn (seed : List ℕ) (context : ℕ) (k : FragmentKey) (given : List FragmentParts) (f : FragmentParts) (u : SlotTable) (others : List PacketMemory) (a : Added) : Type 0 where
  pub index : ℕ
  pub result : Result Progress StoreError
  pub outcome : a.outcome ≡ outcome_in index result
  pub result_is : result ≡ stored_outcome (stored_all (stored_none 65535) given) f
  pub memory : PacketMemory
  pub at : slice_get others index ≡ Some memory
  pub stored : WasStored memory 65535 (f ∷ given)
  pub keeps : is_whole result ≡ false → Keeps seed context k (f ∷ given) u others

-- What its memory was.
record IsFound (context : ℕ) (given : List FragmentParts) (f : FragmentParts) (t : SlotTable) (memories : List PacketMemory) (p : Placement) : Type 0 where
  memory : PacketMemory
  at : slice_get memories p.index ≡ Some memory
  was : (n : PacketMemory) (r : Result Progress StoreError) → IsStored memory n p.is_known f r → WasStored n 65535 (f ∷ given) × (r ≡ stored_outcome (stored_all (stored_none 65535) given) f)

new_stored : (known : Bool) (m n : PacketMemory) (f : FragmentParts) (r : Result Progress StoreError) (s : Stored) → known ≡ false → HoldsStored m s → s.payload.limit ≡ 65535 → IsStored m n known f r
    → WasStored n 65535 (f ∷ []) × (r ≡ stored_outcome (stored_none 65535) f)
new_stored true m n f r s is holds limit stored = absurd (false≢true (sym is))
new_stored false m n f r s is holds limit stored =
    let P : ℕ → Type 0 = λ l. HoldsStored n (stored_after (stored_none l) f) in
    (subst P limit (stored.stored s holds), stored.outcome s holds ∙ ap (λ (l : ℕ). stored_outcome (stored_none l) f) limit)

old_stored : (known : Bool) (m n : PacketMemory) (f : FragmentParts) (r : Result Progress StoreError) (given : List FragmentParts) → known ≡ true → WasStored m 65535 given → IsStored m n known f r
    → WasStored n 65535 (f ∷ given) × (r ≡ stored_outcome (stored_all (stored_none 65535) given) f)
old_stored false m n f r given is holds stored = absurd (false≢true is)
old_stored true m n f r given is holds stored = (stored.stored (stored_all (stored_none 65535) given) holds, stored.outcome (stored_all (stored_none 65535) given) holds)

record IsThere (memories : List PacketMemory) (i : ℕ) : Type 0 where
  memory : PacketMemory
  at : slice_get memories i ≡ Some memory

is_there : (memories : List PacketMemory) (i : ℕ) → i < length memories → IsThere memories i
is_there memories i within = elim (slice_get_cases memories i).1 [
  | inl found ↦ record { memory = found.0; at = found.2 }
  | inr past ↦ absurd (omega (arith, past.0, within))
]

found_own : (given : List FragmentParts) (settings : Settings) (context : ℕ) (t : SlotTable) (memories : List PacketMemory) (time : ℕ) (f : FragmentParts) (p : Placement) → length t.slots.now ≡ length memories
    → IsPlaced t settings context f.key time (Some p) → IsKept context f.key p.lost → Keeps settings.seed context f.key given t memories → IsFound context given f t memories p
found_own [] settings context t memories time f p as_many placed kept keeps =
    let none : own_slot t.slots.now keeps.valid.used context f.key ≡ None = none_found (own_slot t.slots.now keeps.valid.used context f.key) t.slots.now keeps.valid.used context f.key keeps.is_in refl in
    let new : p.is_known ≡ false = anew_unknown settings.timeout t.slots.now keeps.valid.free keeps.valid.used time p
    (sym (place_of_new settings.timeout t.slots.now keeps.valid.free keeps.valid.used context f.key time none) ∙ sym (placed.place keeps.valid.free keeps.valid.used keeps.valid.holds)) in
    let within : p.index < length memories = omega (arith, as_many, placed.within p refl) in
    let own = is_there memories p.index within in
    let was = keeps.valid.sound.stored p.index own.memory own.at in
    record {
      memory = own.memory;
      at = own.at;
      was = λ n r stored. new_stored p.is_known own.memory n f r was.0 new was.1 was.2 stored;
    }
found_own (g ∷ gs) settings context t memories time f p as_many placed kept keeps =
    let own = keeps.is_in in
    let i : ℕ = own.index in
    let less : i < t.table.places = (let e : t.table.places ≡ length t.slots.now = keeps.valid.holds.as_many in let w : i < length t.slots.now = has_within context f.key t.slots.now i own.has in omega arith) in
    let used : Contains keeps.valid.used i = in_use t settings.seed keeps.valid.free keeps.valid.used i keeps.valid.holds less (has_used context f.key (slot_at t.slots.now i) own.has) in
    let found : own_slot t.slots.now keeps.valid.used context f.key ≡ Some i = found_slot t settings.seed keeps.valid.free keeps.valid.used context i f.key keeps.valid.holds used own.has in
    let is : own_in settings.timeout t.slots.now time i ≡ Some p =
    sym (own_place_of settings.timeout t.slots.now keeps.valid.free keeps.valid.used context f.key time i found) ∙ sym (placed.place keeps.valid.free keeps.valid.used keeps.valid.holds) in
    let stays = stays_in (pending_in (slot_at t.slots.now i)) settings.timeout i time p context f.key (has_packet context f.key (slot_at t.slots.now i) own.has) is kept in
    record {
      memory = own.memory;
      at = ap (slice_get memories) stays.0 ∙ own.at;
      was = λ n r stored. old_stored p.is_known own.memory n f r (g ∷ gs) stays.1 own.stored stored;
    }

-- It has a place.
not_nowhere : (given : List FragmentParts) (settings : Settings) (context : ℕ) (t : SlotTable) (memories : List PacketMemory) (time : ℕ) (f : FragmentParts)
    → IsPlaced t settings context f.key time None → Keeps settings.seed context f.key given t memories → ⊥
not_nowhere [] settings context t memories time f placed keeps =
    let none : own_slot t.slots.now keeps.valid.used context f.key ≡ None = none_found (own_slot t.slots.now keeps.valid.used context f.key) t.slots.now keeps.valid.used context f.key keeps.is_in refl in
    anew_some settings.timeout t settings.seed keeps.valid.free keeps.valid.used time keeps.valid.holds keeps.valid.some
    (placed.place keeps.valid.free keeps.valid.used keeps.valid.holds ∙ place_of_new settings.timeout t.slots.now keeps.valid.free keeps.valid.used context f.key time none)
not_nowhere (g ∷ gs) settings context t memories time f placed keeps =
    let own = keeps.is_in in
    let i : ℕ = own.index in
    let less : i < t.table.places = (let e : t.table.places ≡ length t.slots.now = keeps.valid.holds.as_many in let w : i < length t.slots.now = has_within context f.key t.slots.now i own.has in omega arith) in
    let used : Contains keeps.valid.used i = in_use t settings.seed keeps.valid.free keeps.valid.used i keeps.valid.holds less (has_used context f.key (slot_at t.slots.now i) own.has) in
    let found : own_slot t.slots.now keeps.valid.used context f.key ≡ Some i = found_slot t settings.seed keeps.valid.free keeps.valid.used context i f.key keeps.valid.holds used own.has in
    some_own (pending_in (slot_at t.slots.now i)) settings.timeout i time context f.key (has_packet context f.key (slot_at t.slots.now i) own.has)
    (placed.place keeps.valid.free keeps.valid.used keeps.valid.holds ∙ own_place_of settings.timeout t.slots.now keeps.valid.free keeps.valid.used context f.key time i found)

module _ (settings : Settings) (context : ℕ) (t u : SlotTable) (memories others : List PacketMemory) (time : ℕ) (f : FragmentParts) (a : Added) (given : List FragmentParts)
    (as_many : length t.slots.now ≡ length memories) (is_f : IsKey f.key) (added : IsAdded t memories settings context time f u others a) (kept : IsKept context f.key a.lost)
    (keeps : Keeps settings.seed context f.key given t memories) where
  own_at : (p : Placement) (r : Result Progress StoreError) → IsPlaced t settings context f.key time (Some p) → IsAddedAt t memories settings.seed context f p u others a r
      → IsAddedOwn settings.seed context f.key given f u others a
  own_at p r placed at =
      let P : Option Loss → Type 0 = λ o. IsKept context f.key o in
      let found = found_own given settings context t memories time f p as_many placed (subst P at.lost kept) keeps in
      let stored = at.own found.memory found.at in
      let n : PacketMemory = stored.0 in
      let was = found.was n r stored.1.1 in
      let within : p.index < length t.slots.now = placed.within p refl in
      let s : Slot = slot_with p.since context f.key in
      record {
        index = p.index;
        result = r;
        outcome = at.outcome;
        result_is = was.1;
        memory = n;
        at = stored.1.0;
        stored = was.0;
        keeps = λ more. record {
          valid = valid_at settings t u memories others context time f a as_many is_f added p r at keeps.valid;
          is_in = record {
            index = p.index;
            has = ap (λ (xs : List Slot). has_key context f.key (slot_at xs p.index)) at.slots
                ∙ (ap (has_key context f.key) (not_freed (is_whole r) t.slots.now p.index s more within) ∙ own_key p.since context f.key is_f);
            memory = n;
            at = stored.1.0;
            stored = was.0;
          };
        };
      }

  own_by : (o : Option Placement) → IsPlaced t settings context f.key time o → IsAddedBy t memories settings.seed context f o u others a → IsAddedOwn settings.seed context f.key given f u others a
  own_by None placed by = absurd (not_nowhere given settings context t memories time f placed keeps)
  own_by (Some p) placed by = own_at p by.0 placed by.1

  own_unless : (o : Option StoreError) → o ≡ None → IsAddedUnless o t memories settings context time f u others a → IsAddedOwn settings.seed context f.key given f u others a
  own_unless (Some e) none by = absurd (none-some _ (sym none))
  own_unless None none by = own_by by.0 by.1 by.2

  pub keeps_own : own_refusal f ≡ None → IsAddedOwn settings.seed context f.key given f u others a
  keeps_own none = own_unless (own_refusal f) none added

-- A table whose slots are all free has none of its fragments.
no_packet : (seed : List ℕ) (context : ℕ) (k : FragmentKey) (t : SlotTable) (free : List ℕ) → HoldsPackets t seed free [] → (i : ℕ) → has_key context k (slot_at t.slots.now i) ≡ false
no_packet seed context k t free holds i = false_from_ne_true (has_key context k (slot_at t.slots.now i)) (λ has.
    let less : i < t.table.places = (let e : t.table.places ≡ length t.slots.now = holds.as_many in let w : i < length t.slots.now = has_within context k t.slots.now i has in omega arith) in
    lacks_none i (in_use t seed free [] i holds less (has_used context k (slot_at t.slots.now i) has)))

-- A run begins.
pub valid_fresh : (settings : Settings) (t : TableState) → IsFresh settings t → IsValid settings.seed t.slots t.memories
valid_fresh settings t fresh = record {
  free = fresh.free;
  used = [];
  holds = fresh.slots;
  arrived = [];
  sound = sound_begun t.slots t.memories settings.seed fresh.free fresh.slots fresh.memories;
  some = fresh.some;
}

pub keeps_fresh : (settings : Settings) (context : ℕ) (k : FragmentKey) (t : TableState) → IsFresh settings t → Keeps settings.seed context k [] t.slots t.memories
keeps_fresh settings context k t fresh = record { valid = valid_fresh settings t fresh; is_in = no_packet settings.seed context k t.slots fresh.free fresh.slots }

-- The table is cleared.
pub valid_cleared : (seed : List ℕ) (t u : TableState) → IsCleared t u → IsValid seed t.slots t.memories → IsValid seed u.slots u.memories
valid_cleared seed t u cleared valid =
    let free : List ℕ = range_with_len 0 (length t.slots.slots.now) in
    subst (IsValid seed u.slots) (sym cleared.memories) (record {
      free = free;
      used = [];
      holds = cleared.packets seed;
      arrived = [];
      sound = record {
        stored = valid.sound.stored;
        own = λ i m p at pending. absurd (none-some _ (sym (free_pending u.slots seed free i (cleared.packets seed)) ∙ pending));
      };
      some = omega (arith, cleared.len, valid.some);
    })

pub keeps_cleared : (seed : List ℕ) (context : ℕ) (k : FragmentKey) (t u : TableState) → IsCleared t u → IsValid seed t.slots t.memories → Keeps seed context k [] u.slots u.memories
keeps_cleared seed context k t u cleared valid = record {
  valid = valid_cleared seed t u cleared valid;
  is_in = no_packet seed context k u.slots (range_with_len 0 (length t.slots.slots.now)) (cleared.packets seed);
}

-- The packet of a slot was given up, or not.
freed_slot : (xs : List Slot) (i : ℕ) → slot_at (slice_set xs i free_slot) i ≡ free_slot
freed_slot xs i = elim (beyond (slice_set xs i free_slot) i) [
  | inr is ↦ is
  | inl less ↦ here xs i free_slot (omega (arith, length-set xs i free_slot, less))
]

still_none : (context : ℕ) (k : FragmentKey) (xs : List Slot) (i j : ℕ) → has_key context k (slot_at xs j) ≡ false → has_key context k (slot_at (slice_set xs i free_slot) j) ≡ false
still_none context k xs i j none = elim (cases_eq j i) [
  | inl same ↦ ap (λ (m : ℕ). has_key context k (slot_at (slice_set xs i free_slot) m)) same ∙ ap (has_key context k) (freed_slot xs i)
  | inr far ↦ ap (has_key context k) (there xs i j free_slot far) ∙ none
]

-- It wasn't this one.
not_expired : (b : Bool) (q : Pending) (l : Loss) (context : ℕ) (k : FragmentKey) → q.context ≡ context → q.key ≡ k → IsKept context k (Some l) → Some l ≡ (if b then Some (lost_by TimedOut q) else None) → ⊥
not_expired true q l context k at key kept is =
    let same : l ≡ lost_by TimedOut q = same_Some _ _ is in
    kept l refl (ap (λ (x : Loss). x.context) same ∙ at) (ap (λ (x : Loss). x.key) same ∙ key)
not_expired false q l context k at key kept is = none-some _ (sym is)

not_given_up : (o : Option Pending) (timeout time : ℕ) (l : Loss) (context : ℕ) (k : FragmentKey) → HasPacket context k o → IsKept context k (Some l) → Some l ≡ option_and_then (loss_by timeout time) o → ⊥
not_given_up None timeout time l context k has kept is = none-some _ (sym is)
not_given_up (Some q) timeout time l context k has kept is =
    let same : q ≡ has.packet = same_Some _ _ has.there in
    not_expired (is_expired timeout q.since time) q l context k (ap (λ (x : Pending). x.context) same ∙ has.context_is) (ap (λ (x : Pending). x.key) same ∙ has.key_is) kept is

given_up_in : (given : List FragmentParts) (context : ℕ) (k : FragmentKey) (xs ys : List Slot) (memories : List PacketMemory) (i timeout time : ℕ) (l : Loss) → ys ≡ slice_set xs i free_slot
    → (i < length xs → Some l ≡ loss_of timeout (slot_at xs i) time) → IsKept context k (Some l) → HasFragments context k given xs memories → HasFragments context k given ys memories
given_up_in [] context k xs ys memories i timeout time l is lost kept none = λ j. ap (λ (zs : List Slot). has_key context k (slot_at zs j)) is ∙ still_none context k xs i j (none j)
given_up_in (f ∷ fs) context k xs ys memories i timeout time l is lost kept own =
    let far : own.index ≢ i = λ same.
    (let has : has_key context k (slot_at xs i) ≡ true = ap (λ (m : ℕ). has_key context k (slot_at xs m)) (sym same) ∙ own.has in
    not_given_up (pending_in (slot_at xs i)) timeout time l context k (has_packet context k (slot_at xs i) has) kept (lost (has_within context k xs i has))) in
    record {
      index = own.index;
      has = ap (λ (zs : List Slot). has_key context k (slot_at zs own.index)) is ∙ (ap (has_key context k) (there xs i own.index free_slot far) ∙ own.has);
      memory = own.memory;
      at = own.at;
      stored = own.stored;
    }

in_by : (o : Option Loss) (given : List FragmentParts) (context : ℕ) (k : FragmentKey) (xs ys : List Slot) (memories : List PacketMemory) (i timeout time : ℕ) → ys ≡ (if is_some o then slice_set xs i free_slot else xs)
    → (i < length xs → o ≡ loss_of timeout (slot_at xs i) time) → IsKept context k o → HasFragments context k given xs memories → HasFragments context k given ys memories
in_by None given context k xs ys memories i timeout time is lost kept has = same_in given context k xs ys memories is has
in_by (Some l) given context k xs ys memories i timeout time is lost kept has = given_up_in given context k xs ys memories i timeout time l is lost kept has

as_long_given_up : (b : Bool) (xs : List Slot) (i : ℕ) → length (if b then slice_set xs i free_slot else xs) ≡ length xs
as_long_given_up true xs i = length-set xs i free_slot
as_long_given_up false xs i = refl

pub number_given_up : (t u : TableState) (x : GiveUp) → IsGivenUp t u x → length u.slots.slots.now ≡ length t.slots.slots.now
number_given_up t u x given_up = ap length given_up.slots ∙ as_long_given_up (is_some x.lost) t.slots.slots.now x.index

pub valid_given_up : (seed : List ℕ) (t u : TableState) (x : GiveUp) → IsGivenUp t u x → IsValid seed t.slots t.memories → IsValid seed u.slots u.memories
valid_given_up seed t u x given_up valid = subst (IsValid seed u.slots) (sym given_up.memories) (record {
  free = if is_some x.lost then valid.free ++ x.index ∷ [] else valid.free;
  used = if is_some x.lost then without x.index valid.used else valid.used;
  holds = given_up.packets seed valid.free valid.used valid.holds;
  arrived = valid.arrived;
  sound = sound_given_up (is_some x.lost) t.slots u.slots t.memories x.index valid.arrived given_up.slots valid.sound;
  some = omega (arith, number_given_up t u x given_up, valid.some);
})

pub keeps_given_up : (seed : List ℕ) (context : ℕ) (k : FragmentKey) (given : List FragmentParts) (t u : TableState) (x : GiveUp) → IsGivenUp t u x → IsKept context k x.lost → Keeps seed context k given t.slots t.memories
    → Keeps seed context k given u.slots u.memories
keeps_given_up seed context k given t u x given_up kept keeps = record {
  valid = valid_given_up seed t u x given_up keeps.valid;
  is_in = subst (HasFragments context k given u.slots.slots.now) (sym given_up.memories)
      (in_by x.lost given context k t.slots.slots.now u.slots.slots.now t.memories x.index x.timeout x.time given_up.slots
      (λ within. given_up.lost (let e : t.slots.table.places ≡ length t.slots.slots.now = keeps.valid.holds.as_many in omega (arith, e, within))) kept keeps.is_in);
}
