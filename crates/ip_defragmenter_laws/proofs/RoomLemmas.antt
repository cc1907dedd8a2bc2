-- Packets that are kept, since there is a slot for each.
use Rattle.std.proofs.Common.{◌≡◌, ◌≢◌, ℕ, zero, suc, ◌+◌, ◌-◌, ◌<◌, ◌≤◌, List, [], ◌∷◌, ◌++◌, Bool, true, false, not, length, refl, sym, ap, ◌∙◌, subst, arith, inl, inr, Option, Some, None, Result, Ok, Err, eqb, ◌&&◌}
use Rattle.std.specs.Prelude.{Contains, is_some, slice_get, slice_set, nat_lt, ◌==◌, if◌then◌else◌}
use Rattle.std.specs.List.{range_with_len}
use Rattle.std.specs.Option.{option_map, option_map_or, option_and_then}
use Rattle.std.specs.Str.{bytes_eq}
use Rattle.std.proofs.lemmas.Bool.{and_from, cases_eq, cases_lt, cond-false, cond-true, eq-eqb, false≢true, false_from_ne_true, lt-ltb, le-ltb, ne_eqb}
use Rattle.std.proofs.lemmas.Option.{none-some, same_Some, slice_get_within}
use Rattle.std.proofs.lemmas.Slice.Eq.{bytes_eq-Decides}
use Rattle.ip_lists.specs.Moves.{without}
use Rattle.ip_lists.proofs.Filters.{without_has}
use Rattle.ip_lists.proofs.Lacking.{lacks_none}
use Rattle.ip_dissect.specs.Dissection.{dissected}
use Rattle.ip_reassembly.specs.declared.progress.Progress.{Progress}
use Rattle.ip_defragmenter.specs.Added.{IsAddedAt, IsAddedBy, IsAddedUnless, freed, free_with, is_whole, used_without}
use Rattle.ip_defragmenter.specs.FragmentOf.{FragmentParts, packet_fragment}
use Rattle.ip_defragmenter.specs.Key.{IsKey, same_key}
use Rattle.ip_defragmenter.specs.Memory.{own_refusal}
use Rattle.ip_defragmenter.specs.Slot.{free_slot, is_free, pending_in, slot_with}
use Rattle.ip_defragmenter.specs.Slots.{HoldsPackets, IsPlaced, IsUnchanged, free_after, has_key, is_expired, loss_by, lost_by, own_place, own_slot, place_anew, place_of, slot_at, used_after}
use Rattle.ip_defragmenter.specs.declared.err.FragmentError.{FragmentError}
use Rattle.ip_defragmenter.specs.declared.err.StoreError.{StoreError}
use Rattle.ip_defragmenter.specs.declared.key.FragmentKey.{FragmentKey}
use Rattle.ip_defragmenter.specs.declared.key.FragmentKey.TheVariants.{Ipv4, Ipv6}
use Rattle.ip_defragmenter.specs.declared.memory.PacketMemory.{PacketMemory}
use Rattle.ip_defragmenter.specs.declared.outcome.Added.{Added}
use Rattle.ip_defragmenter.specs.declared.pending.Loss.{Loss}
use Rattle.ip_defragmenter.specs.declared.pending.LossReason.TheVariants.{TimedOut}
use Rattle.ip_defragmenter.specs.declared.pending.Pending.{Pending}
use Rattle.ip_defragmenter.specs.declared.settings.Settings.{Settings}
use Rattle.ip_defragmenter.specs.declared.slot.Slot.{Slot}
use Rattle.ip_defragmenter.specs.declared.slots.Placement.{Placement}
use Rattle.ip_defragmenter.specs.declared.slots.SlotTable.{SlotTable}
use Rattle.ip_defragmenter.proofs.KeyLemmas.{own_key}
use Rattle.ip_defragmenter.proofs.SlotLemmas.{in_use as in_use_at, found_in, has_packet, none_in, own_place_of, place_of_new, unchanged, used_cases}
use Rattle.ip_defragmenter_laws.specs.Room.{PacketName, IsNamed, AreNamed, IsTime, IsTimely, AreTimely, NothingLost}
use Rattle.ip_defragmenter_laws.specs.Run.{Adds, AreKept, Call, Clears, GiveUp, GivesUp, IsCall, IsCallRun, IsCleared, IsFresh, IsGivenUp, Step, TableState}
use Rattle.ip_defragmenter_laws.proofs.CallLemmas.{same_run}
use Rattle.ip_defragmenter_laws.proofs.ReadKeyLemmas.{read_key}
use Rattle.ip_defragmenter_laws.proofs.SlotRunLemmas.{apart, as_long, not_freed}

-- If each of n things has one of m places, and no place two of them, n is at most m.
abbrev skip : ℕ → ℕ → ℕ
skip i j = if nat_lt j i then j else j + 1

record HasPlace (R : ℕ → ℕ → Type 0) (m i : ℕ) : Type 0 where
  place : ℕ
  within : place < m
  is : R i place

moved : (R : ℕ → ℕ → Type 0) (m i k j : ℕ) → k < m + 1 → j < m + 1 → j ≢ k → R i j → HasPlace (λ (x y : ℕ). R x (skip k y)) m i
moved R m i k j small less other is = elim (cases_lt j k) [
  | inl before ↦ record {
    place = j;
    within = omega (arith, before, small);
    is = subst (R i) (sym (cond-true (nat_lt j k) j (j + 1) (lt-ltb j k before))) is;
  }
  | inr after ↦
      let back : j - 1 + 1 ≡ j = omega (arith, after, other) in
      record {
        place = j - 1;
        within = omega (arith, after, other, less);
        is = subst (R i) (sym (cond-false (nat_lt (j - 1) k) (j - 1) (j - 1 + 1) (le-ltb (j - 1) k (omega (arith, after, other))) ∙ back)) is;
      }
]

pigeons : (R : ℕ → ℕ → Type 0) (n m : ℕ) → ((i : ℕ) → i < n → HasPlace R m i) → ((i k j : ℕ) → i < n → k < n → R i j → R k j → i ≡ k) → n ≤ m
pigeons R zero m each one = omega arith
pigeons R (suc n) zero each one = absurd (let none = (each n (omega arith)).within in omega (arith, none))
pigeons R (suc n) (suc m) each one =
    let last = each n (omega arith) in
    let k : ℕ = last.place in
    let rest : n ≤ m = pigeons (λ (x y : ℕ). R x (skip k y)) n m
    (λ i less. let own = each i (omega (arith, less)) in
    moved R m i k own.place (omega (arith, last.within)) (omega (arith, own.within))
    (λ same. omega (arith, less, one i n k (omega (arith, less)) (omega arith) (subst (R i) same own.is) last.is)) own.is)
    (λ i j y a b r q. one i j (skip k y) (omega (arith, a)) (omega (arith, b)) r q) in
    omega (arith, rest)

-- A key is found equal to itself.
pub same_self : (k : FragmentKey) → same_key k k ≡ true
same_self (Ipv4 a b c d) =
    and_from (eqb d d && eqb c.0 c.0 && bytes_eq a a) (bytes_eq b b)
    (and_from (eqb d d && eqb c.0 c.0) (bytes_eq a a) (and_from (eqb d d) (eqb c.0 c.0) (eq-eqb d d refl) (eq-eqb c.0 c.0 refl)) ((bytes_eq-Decides a a).1 refl)) ((bytes_eq-Decides b b).1 refl)
same_self (Ipv6 a b d) = and_from (eqb d d && bytes_eq a a) (bytes_eq b b) (and_from (eqb d d) (bytes_eq a a) (eq-eqb d d refl) ((bytes_eq-Decides a a).1 refl)) ((bytes_eq-Decides b b).1 refl)

has_own : (s : Slot) (q : Pending) → pending_in s ≡ Some q → has_key q.context q.key s ≡ true
has_own s q is =
    ap (λ (o : Option Pending). option_map_or (λ (p : Pending). eqb p.context q.context && same_key p.key q.key) o false) is
    ∙ and_from (eqb q.context q.context) (same_key q.key q.key) (eq-eqb q.context q.context refl) (same_self q.key)

since_is : (since context : ℕ) (k : FragmentKey) (q : Pending) → pending_in (slot_with since context k) ≡ Some q → q.since ≡ since
since_is since context (Ipv4 a b c d) q is = ap (λ (p : Pending). p.since) (sym (same_Some _ _ is))
since_is since context (Ipv6 a b d) q is = ap (λ (p : Pending). p.since) (sym (same_Some _ _ is))

-- A slot's packet is one of those named, and since a time at which a packet arrived.
record IsHeld (names : List PacketName) (xs : List Step) (s : Slot) : Type 0 where
  packet : Pending
  there : pending_in s ≡ Some packet
  named : IsNamed names packet.context packet.key
  time : IsTime xs packet.since

record InRoom (names : List PacketName) (seed : List ℕ) (n : ℕ) (xs : List Step) (t : SlotTable) : Type 0 where
  free : List ℕ
  used : List ℕ
  holds : HoldsPackets t seed free used
  len : length t.slots.now ≡ n
  held : (i : ℕ) → Contains used i → IsHeld names xs (slot_at t.slots.now i)

held_more : (names : List PacketName) (x : Call) (xs : List Step) (s u : Slot) → u ≡ s → IsHeld names xs s → IsHeld names (Adds x ∷ xs) u
held_more names x xs s u same held = record { packet = held.packet; there = ap pending_in same ∙ held.there; named = held.named; time = inr held.time }

room_same : (names : List PacketName) (seed : List ℕ) (n : ℕ) (x : Call) (xs : List Step) (t u : SlotTable) → IsUnchanged t u → InRoom names seed n xs t → InRoom names seed n (Adds x ∷ xs) u
room_same names seed n x xs t u same room = record {
  free = room.free;
  used = room.used;
  holds = unchanged t u seed room.free room.used same.slots same.table room.holds;
  len = ap length same.slots ∙ room.len;
  held = λ i there. held_more names x xs (slot_at t.slots.now i) (slot_at u.slots.now i) (ap (λ (s : List Slot). slot_at s i) same.slots) (room.held i there);
}

-- If no slot is free, more packets are named than there are slots, or the packet has a slot.
abbrev name_of : Pending → PacketName
name_of q = record { context = q.context; key = q.key }

abbrev holder : SlotTable → ℕ → FragmentKey → ℕ → ℕ → Option PacketName
holder t context k n i = if i == n then Some (record { context = context; key = k }) else option_map name_of (pending_in (slot_at t.slots.now i))

module _ (names : List PacketName) (seed : List ℕ) (n : ℕ) (xs : List Step) (t : SlotTable) (used : List ℕ) (context : ℕ) (k : FragmentKey) (holds : HoldsPackets t seed [] used) (len : length t.slots.now ≡ n)
    (held : (i : ℕ) → Contains used i → IsHeld names xs (slot_at t.slots.now i)) (named : IsNamed names context k) (none : own_slot t.slots.now used context k ≡ None) where
  abbrev R : ℕ → ℕ → Type 0
  R i j = slice_get names j ≡ holder t context k n i

  in_use : (i : ℕ) → i < n → Contains used i
  in_use i less = elim ((holds.table.each i).1 (let e : t.table.places ≡ length t.slots.now = holds.as_many in omega (arith, e, len, less))) [
    | inl empty ↦ absurd (lacks_none i empty)
    | inr there ↦ there
  ]

  own_holder : holder t context k n n ≡ Some (record { context = context; key = k })
  own_holder = cond-true (n == n) (Some (record { context = context; key = k })) (option_map name_of (pending_in (slot_at t.slots.now n))) (eq-eqb n n refl)

  slot_holder : (i : ℕ) (q : Pending) → i < n → pending_in (slot_at t.slots.now i) ≡ Some q → holder t context k n i ≡ Some (name_of q)
  slot_holder i q less there =
      cond-false (i == n) (Some (record { context = context; key = k })) (option_map name_of (pending_in (slot_at t.slots.now i))) (ne_eqb i n (λ e. omega (arith, e, less)))
      ∙ ap (option_map name_of) there

  each : (i : ℕ) → i < n + 1 → HasPlace R (length names) i
  each i less = elim (cases_eq i n) [
    | inl last ↦ record {
      place = named.0;
      within = slice_get_within names named.0 _ named.1;
      is = named.1 ∙ (sym own_holder ∙ ap (holder t context k n) (sym last));
    }
    | inr other ↦
        let h = held i (in_use i (omega (arith, less, other))) in
        record {
          place = h.named.0;
          within = slice_get_within names h.named.0 _ h.named.1;
          is = h.named.1 ∙ sym (slot_holder i h.packet (omega (arith, less, other)) h.there);
        }
  ]

  not_own : (i j : ℕ) → i < n → R i j → R n j → ⊥
  not_own i j less slot own =
      let there = in_use i less in
      let h = held i there in
      let same : name_of h.packet ≡ record { context = context; key = k } = same_Some _ _ (sym (slot_holder i h.packet less h.there) ∙ (sym slot ∙ (own ∙ own_holder))) in
      let has : has_key h.packet.context h.packet.key (slot_at t.slots.now i) ≡ true = has_own (slot_at t.slots.now i) h.packet h.there in
      let P : PacketName → Type 0 = λ m. has_key m.context m.key (slot_at t.slots.now i) ≡ true in
      none_in (λ (y : ℕ). has_key context k (slot_at t.slots.now y)) used i none there (subst P same has)

  one : (i m j : ℕ) → i < n + 1 → m < n + 1 → R i j → R m j → i ≡ m
  one i m j a b first second = elim (cases_eq i n) [
    | inl last ↦ elim (cases_eq m n) [
      | inl also ↦ last ∙ sym also
      | inr other ↦ absurd (let P : ℕ → Type 0 = λ y. R y j in not_own m j (omega (arith, b, other)) second (subst P last first))
    ]
    | inr far ↦ elim (cases_eq m n) [
      | inl last ↦ absurd (let P : ℕ → Type 0 = λ y. R y j in not_own i j (omega (arith, a, far)) first (subst P last second))
      | inr other ↦
          let less : i < n = omega (arith, a, far) in
          let fewer : m < n = omega (arith, b, other) in
          let here = in_use i less in
          let there = in_use m fewer in
          let g = held i here in
          let h = held m there in
          let same : name_of g.packet ≡ name_of h.packet = same_Some _ _ (sym (slot_holder i g.packet less g.there) ∙ (sym first ∙ (second ∙ slot_holder m h.packet fewer h.there))) in
          let P : PacketName → Type 0 = λ y. has_key y.context y.key (slot_at t.slots.now i) ≡ true in
          holds.one h.packet.context h.packet.key i m here there (subst P same (has_own (slot_at t.slots.now i) g.packet g.there)) (has_own (slot_at t.slots.now m) h.packet h.there)
    ]
  ]

  too_many : n + 1 ≤ length names
  too_many = pigeons R (n + 1) (length names) each one

-- Where the packet is placed, nothing is lost.
record IsCalm (xs : List Step) (p : Placement) : Type 0 where
  lost : p.lost ≡ None
  time : IsTime xs p.since

calm_own : (v : Bool) (xs : List Step) (i time : ℕ) (q : Pending) (l : Option Loss) (p : Placement) → v ≡ false → IsTime xs q.since
    → (if v then record { index = i; since = time; is_known = false; lost = l } else record { index = i; since = q.since; is_known = true; lost = None }) ≡ p → IsCalm xs p
calm_own true xs i time q l p young at is = absurd (false≢true (sym young))
calm_own false xs i time q l p young at is = record { lost = ap (λ (y : Placement). y.lost) (sym is); time = (let P : ℕ → Type 0 = λ y. IsTime xs y in subst P (ap (λ (y : Placement). y.since) is) at) }

calm_in : (o : Option Pending) (timeout i time : ℕ) (xs : List Step) (p : Placement) → ((q : Pending) → o ≡ Some q → IsTime xs q.since × (is_expired timeout q.since time ≡ false))
    → option_map (λ (q : Pending). own_place timeout i q time) o ≡ Some p → IsCalm xs p
calm_in None timeout i time xs p each is = absurd (none-some _ is)
calm_in (Some q) timeout i time xs p each is = (let own = each q refl in calm_own (is_expired timeout q.since time) xs i time q _ p own.1 own.0 (same_Some _ _ is))

calm_anew : (names : List PacketName) (seed : List ℕ) (timeout n : ℕ) (x : Call) (xs : List Step) (t : SlotTable) (free used : List ℕ) (k : FragmentKey) (p : Placement) → HoldsPackets t seed free used → length t.slots.now ≡ n
    → ((i : ℕ) → Contains used i → IsHeld names xs (slot_at t.slots.now i)) → IsNamed names x.context k → own_slot t.slots.now used x.context k ≡ None → length names ≤ n
    → place_anew timeout t.slots.now free used x.time ≡ Some p → IsCalm (Adds x ∷ xs) p
calm_anew names seed timeout n x xs t (i ∷ free) used k p holds len held named none few is = record {
  lost = ap (λ (y : Placement). y.lost) (sym (same_Some _ _ is));
  time = inl (ap (λ (y : Placement). y.since) (same_Some _ _ is));
}
calm_anew names seed timeout n x xs t [] used k p holds len held named none few is =
    absurd (omega (arith, few, too_many names seed n xs t used x.context k holds len held named none))

calm_by : (o : Option ℕ) (names : List PacketName) (seed : List ℕ) (timeout n : ℕ) (x : Call) (xs : List Step) (t : SlotTable) (k : FragmentKey) (p : Placement) (room : InRoom names seed n xs t) → IsTimely timeout x.time xs
    → IsNamed names x.context k → length names ≤ n → own_slot t.slots.now room.used x.context k ≡ o → place_of timeout t.slots.now room.free room.used x.context k x.time ≡ Some p → IsCalm (Adds x ∷ xs) p
calm_by None names seed timeout n x xs t k p room timely named few found is =
    calm_anew names seed timeout n x xs t room.free room.used k p room.holds room.len room.held named found few (sym (place_of_new timeout t.slots.now room.free room.used x.context k x.time found) ∙ is)
calm_by (Some i) names seed timeout n x xs t k p room timely named few found is =
    let own = found_in (λ (y : ℕ). has_key x.context k (slot_at t.slots.now y)) room.used i found in
    let h = room.held i own.0 in
    calm_in (pending_in (slot_at t.slots.now i)) timeout i x.time (Adds x ∷ xs) p
    (λ q there.
    let same : h.packet ≡ q = same_Some _ _ (sym h.there ∙ there) in
    let P : Pending → Type 0 = λ y. IsTime xs y.since in
    let at : IsTime xs q.since = subst P same h.time in
    (inr at, timely q.since at))
    (sym (own_place_of timeout t.slots.now room.free room.used x.context k x.time i found) ∙ is)

-- What is in use when a fragment was added.
used_still : (b : Bool) (i j : ℕ) (used : List ℕ) → Contains (used_without b i used) j → Contains used j × (b ≡ true → j ≢ i)
used_still true i j used c = (let both = without_has i used j c in (both.0, λ e. both.1))
used_still false i j used c = (c, λ e. absurd (false≢true e))

module _ (names : List PacketName) (settings : Settings) (n : ℕ) (x : Call) (xs : List Step) (t u : SlotTable) (memories others : List PacketMemory) (f : FragmentParts) (is_f : IsKey f.key) (few : length names ≤ n)
    (named : IsNamed names x.context f.key) (timely : IsTimely settings.timeout x.time xs) (room : InRoom names settings.seed n xs t) where
  abbrev Next : Type 0
  Next = (x.added.lost ≡ None) × InRoom names settings.seed n (Adds x ∷ xs) u

  held_own : (b : Bool) (p : Placement) (j : ℕ) → IsCalm (Adds x ∷ xs) p → p.index < length t.slots.now → b ≡ false → p.index ≡ j
      → IsHeld names (Adds x ∷ xs) (slot_at (freed b p.index (slice_set t.slots.now p.index (slot_with p.since x.context f.key))) j)
  held_own b p j calm within more same =
      let s : Slot = slot_with p.since x.context f.key in
      let at : slot_at (freed b p.index (slice_set t.slots.now p.index s)) j ≡ s =
      ap (slot_at (freed b p.index (slice_set t.slots.now p.index s))) (sym same) ∙ not_freed b t.slots.now p.index s more within in
      let own = has_packet x.context f.key s (own_key p.since x.context f.key is_f) in
      let P : ℕ → Type 0 = λ y. IsTime (Adds x ∷ xs) y in
      record {
        packet = own.packet;
        there = ap pending_in at ∙ own.there;
        named = (named.0, named.1 ∙ ap Some (same_name x.context own.packet.context f.key own.packet.key (sym own.context_is) (sym own.key_is)));
        time = subst P (sym (since_is p.since x.context f.key own.packet own.there)) calm.time;
      } where
        same_name : (a b : ℕ) (j k : FragmentKey) → a ≡ b → j ≡ k → (let m : PacketName = record { context = a; key = j } in m) ≡ record { context = b; key = k }
        same_name a b j k e g = rw (e, g) refl

  at_place : (p : Placement) (r : Result Progress StoreError) → IsPlaced t settings x.context f.key x.time (Some p) → IsAddedAt t memories settings.seed x.context f p u others x.added r → Next
  at_place p r placed at =
      let calm = calm_by (own_slot t.slots.now room.used x.context f.key) names settings.seed settings.timeout n x xs t f.key p room timely named few refl (sym (placed.place room.free room.used room.holds)) in
      let within : p.index < length t.slots.now = placed.within p refl in
      let s : Slot = slot_with p.since x.context f.key in
      let b : Bool = is_whole r in (
        at.lost ∙ calm.lost,
        record {
          free = free_with b p.index (free_after room.free (Some p));
          used = used_without b p.index (used_after room.used (Some p));
          holds = at.packets room.free room.used room.holds;
          len = ap length at.slots ∙ (as_long b t.slots.now p.index s ∙ room.len);
          held = λ j c.
              let still = used_still b p.index j (used_after room.used (Some p)) c in
              let P : List Slot → Type 0 = λ ys. IsHeld names (Adds x ∷ xs) (slot_at ys j) in
              subst P (sym at.slots) (elim (used_cases p room.used j still.0) [
                | inl same ↦ held_own b p j calm within (false_from_ne_true b (λ e. still.1 e (sym same))) same
                | inr old ↦ held_more names x xs (slot_at t.slots.now j) (slot_at (freed b p.index (slice_set t.slots.now p.index s)) j) (apart b t.slots.now p.index j s old.1) (room.held j old.0)
              ]);
        },
      )

  unchanged_next : (a : Added) → a.lost ≡ None → x.added ≡ a → IsUnchanged t u → Next
  unchanged_next a none is same = (ap (λ (y : Added). y.lost) is ∙ none, room_same names settings.seed n x xs t u same room)

  by_place : (o : Option Placement) → IsPlaced t settings x.context f.key x.time o → IsAddedBy t memories settings.seed x.context f o u others x.added → Next
  by_place None placed by = unchanged_next _ refl by.0 by.1
  by_place (Some p) placed by = at_place p by.0 placed by.1

  unless : (o : Option StoreError) → IsAddedUnless o t memories settings x.context x.time f u others x.added → Next
  unless (Some e) by = unchanged_next _ refl by.0 by.1
  unless None by = by_place by.0 by.1 by.2

room_call : (o : Result (Option FragmentParts) FragmentError) (names : List PacketName) (settings : Settings) (n : ℕ) (x : Call) (xs : List Step) (t u : TableState) → packet_fragment (dissected x.bytes) ≡ o → length names ≤ n
    → ((f : FragmentParts) → packet_fragment (dissected x.bytes) ≡ Ok (Some f) → IsNamed names x.context f.key) → IsTimely settings.timeout x.time xs → IsCall settings t u x → InRoom names settings.seed n xs t.slots
    → (x.added.lost ≡ None) × InRoom names settings.seed n (Adds x ∷ xs) u.slots
room_call (Err e) names settings n x xs t u read few named timely call room =
    let same = call.unusable e read in
    (ap (λ (y : Added). y.lost) same.0, room_same names settings.seed n x xs t.slots u.slots same.1 room)
room_call (Ok None) names settings n x xs t u read few named timely call room =
    let same = call.not_fragment read in
    (ap (λ (y : Added). y.lost) same.0, room_same names settings.seed n x xs t.slots u.slots same.1 room)
room_call (Ok (Some f)) names settings n x xs t u read few named timely call room =
    unless names settings n x xs t.slots u.slots t.memories u.memories f (read_key x.bytes f call.bytes read) few (named f read) timely room (own_refusal f) (call.added f read)

-- What `give_up` reports where no packet's time is over.
none_expired : (b : Bool) (l : Loss) → b ≡ false → (let n : Option Loss = None in if b then Some l else n) ≡ None
none_expired true l e = absurd (false≢true (sym e))
none_expired false l e = refl

none_by : (o : Option Pending) (timeout time : ℕ) → ((q : Pending) → o ≡ Some q → is_expired timeout q.since time ≡ false) → option_and_then (loss_by timeout time) o ≡ None
none_by None timeout time young = refl
none_by (Some q) timeout time young = none_expired (is_expired timeout q.since time) (lost_by TimedOut q) (young q refl)

young_packet : (names : List PacketName) (seed : List ℕ) (n i timeout time : ℕ) (xs : List Step) (t : SlotTable) (q : Pending) → IsTimely timeout time xs → InRoom names seed n xs t → i < t.table.places
    → pending_in (slot_at t.slots.now i) ≡ Some q → is_expired timeout q.since time ≡ false
young_packet names seed n i timeout time xs t q timely room less there =
    let used : is_free (slot_at t.slots.now i) ≡ false = ap (λ (o : Option Pending). not (is_some o)) there in
    let h = room.held i (in_use_at t seed room.free room.used i room.holds less used) in
    let P : Pending → Type 0 = λ y. IsTime xs y.since in
    timely q.since (subst P (same_Some _ _ (sym h.there ∙ there)) h.time)

none_given_up : (names : List PacketName) (seed : List ℕ) (n : ℕ) (x : GiveUp) (xs : List Step) (t u : TableState) → IsTimely x.timeout x.time xs → IsGivenUp t u x → InRoom names seed n xs t.slots → x.lost ≡ None
none_given_up names seed n x xs t u timely given_up room = elim (cases_lt x.index t.slots.table.places) [
  | inl less ↦ given_up.lost less
      ∙ none_by (pending_in (slot_at t.slots.slots.now x.index)) x.timeout x.time (λ q there. young_packet names seed n x.index x.timeout x.time xs t.slots q timely room less there)
  | inr past ↦ given_up.beyond past
]

room_given_up : (names : List PacketName) (seed : List ℕ) (n : ℕ) (x : GiveUp) (xs : List Step) (t u : TableState) → x.lost ≡ None → IsGivenUp t u x → InRoom names seed n xs t.slots → InRoom names seed n (GivesUp x ∷ xs) u.slots
room_given_up names seed n x xs t u none given_up room =
    let slots : u.slots.slots.now ≡ t.slots.slots.now = given_up.slots ∙ ap (λ (o : Option Loss). if is_some o then slice_set t.slots.slots.now x.index free_slot else t.slots.slots.now) none in
    let P : Option Loss → Type 0 = λ o. HoldsPackets u.slots seed (if is_some o then room.free ++ x.index ∷ [] else room.free) (if is_some o then without x.index room.used else room.used) in
    record {
      free = room.free;
      used = room.used;
      holds = subst P none (given_up.packets seed room.free room.used room.holds);
      len = ap length slots ∙ room.len;
      held = λ i there.
          let h = room.held i there in
          record { packet = h.packet; there = ap (λ (s : List Slot). pending_in (slot_at s i)) slots ∙ h.there; named = h.named; time = h.time };
    }

room_cleared : (names : List PacketName) (seed : List ℕ) (n : ℕ) (xs : List Step) (t u : TableState) → IsCleared t u → length t.slots.slots.now ≡ n → InRoom names seed n (Clears ∷ xs) u.slots
room_cleared names seed n xs t u cleared len = record {
  free = range_with_len 0 (length t.slots.slots.now);
  used = [];
  holds = cleared.packets seed;
  len = cleared.len ∙ len;
  held = λ i there. absurd (lacks_none i there);
}

room_run : (names : List PacketName) (settings : Settings) (start : TableState) (xs : List Step) (t : TableState) → IsFresh settings start → length names ≤ length start.slots.slots.now → IsCallRun settings start xs t
    → AreNamed names xs → AreTimely settings.timeout xs → NothingLost xs × InRoom names settings.seed (length start.slots.slots.now) xs t.slots
room_run names settings start [] t fresh few run named timely =
    let P : TableState → Type 0 = λ u. InRoom names settings.seed (length start.slots.slots.now) [] u.slots in
    (tt, subst P run (record { free = fresh.free; used = []; holds = fresh.slots; len = refl; held = λ i c. absurd (lacks_none i c) }))
room_run names settings start (Adds x ∷ xs) t fresh few run named timely =
    let before = room_run names settings start xs run.0 fresh few run.1 named.1 timely.1 in
    let after = room_call (packet_fragment (dissected x.bytes)) names settings (length start.slots.slots.now) x xs run.0 t refl few named.0 timely.0 run.2 before.1 in
    ((after.0, before.0), after.1)
room_run names settings start (GivesUp x ∷ xs) t fresh few run named timely =
    let n : ℕ = length start.slots.slots.now in
    let before = room_run names settings start xs run.0 fresh few run.1 named timely.1 in
    let none = none_given_up names settings.seed n x xs run.0 t timely.0 run.2 before.1 in
    ((none, before.0), room_given_up names settings.seed n x xs run.0 t none run.2 before.1)
room_run names settings start (Clears ∷ xs) t fresh few run named timely =
    (tt, room_cleared names settings.seed (length start.slots.slots.now) xs run.0 t run.2 (same_run settings start xs run.0 run.1))

pub nothing_lost : (names : List PacketName) (settings : Settings) (start : TableState) (xs : List Step) (t : TableState) → IsFresh settings start → length names ≤ length start.slots.slots.now → IsCallRun settings start xs t
    → AreNamed names xs → AreTimely settings.timeout xs → NothingLost xs
nothing_lost names settings start xs t fresh few run named timely = (room_run names settings start xs t fresh few run named timely).0

-- Then each packet is kept.
pub all_kept : (context : ℕ) (k : FragmentKey) (xs : List Step) → NothingLost xs → AreKept context k xs
all_kept context k [] nothing = tt
all_kept context k (Adds x ∷ xs) nothing = ((λ l is at key. none-some l (sym nothing.0 ∙ is)), all_kept context k xs nothing.1)
all_kept context k (GivesUp x ∷ xs) nothing = ((λ l is at key. none-some l (sym nothing.0 ∙ is)), all_kept context k xs nothing.1)
all_kept context k (Clears ∷ xs) nothing = tt
