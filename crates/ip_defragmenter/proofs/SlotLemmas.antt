-- The slots of packets, and the table by which they are found.
use Rattle.std.proofs.Common.{◌≡◌, ◌≢◌, ℕ, ◌+◌, ◌-◌, ◌<◌, ◌≤◌, List, [], ◌∷◌, ◌++◌, Bool, true, false, length, get_or, refl, sym, ap, ◌∙◌, subst, arith, inl, inr, ◌⊎◌, eqb, cond, suc, zero, Option, Some, None, get_or-set_same, get_or-set_other, length-set, not}
use Rattle.std.specs.Prelude.{Contains, slice_set, is_some, IfSome, if◌then◌else◌, ◌&&◌, ◌↔◌}
use Rattle.std.specs.List.{find, filter, range_with_len}
use Rattle.std.specs.Option.{option_map_or, option_map, option_and_then}
use Rattle.std.proofs.lemmas.List.{get_or_default}
use Rattle.std.proofs.lemmas.List.Elements.{Contains-append_cases}
use Rattle.std.proofs.lemmas.Option.{none-some, same_Some}
use Rattle.std.proofs.lemmas.Bool.{cases_eq, and_parts, eqb-true, eq-eqb, false≢true}
use Rattle.std.proofs.lemmas.Bool.Decides.{leb_tells}
use Rattle.ip_lists.specs.Moves.{without}
use Rattle.ip_lists.specs.Table.{IsTable, HasRoom, HasBucket, AreSame, in_bucket, with_bucket}
use Rattle.ip_lists.specs.declared.table.Table.{Table}
use Rattle.ip_lists.proofs.Lacking.{Lacks, lacks_none}
use Rattle.ip_lists.proofs.Filters.{has_head, has_tail, has_cases, has_one, without_has, moved_has, moved_has_place}
use Rattle.ip_lists.proofs.Moved.{around, without_lacking}
use Rattle.ip_lists.proofs.Chains.{with_same, with_other}
use Rattle.ip_lists.proofs.Tables.{from_table, free_lacks, other_buckets, without_first, without_inner}
use Rattle.ip_defragmenter.specs.Key.{IsKey, same_key}
use Rattle.ip_defragmenter.specs.Slot.{pending_in, is_free, free_slot, slot_with}
use Rattle.ip_defragmenter.specs.Slots.{HoldsPackets, HaveSameSize, has_key, slot_at, buckets_of, bucket_of_key, bucket_in, own_slot, own_in, place_of, place_anew, new_place, own_place, is_expired, lost_by, loss_by, loss_of, displaced_in, displaced_place, free_after, used_after}
use Rattle.ip_defragmenter.specs.declared.key.FragmentKey.{FragmentKey}
use Rattle.ip_defragmenter.specs.declared.pending.Pending.{Pending}
use Rattle.ip_defragmenter.specs.declared.pending.Loss.{Loss}
use Rattle.ip_defragmenter.specs.declared.pending.LossReason.TheVariants.{TimedOut}
use Rattle.ip_defragmenter.specs.declared.slot.Slot.{Slot}
use Rattle.ip_defragmenter.specs.declared.slots.Placement.{Placement}
use Rattle.ip_defragmenter.specs.declared.slots.SlotTable.{SlotTable}
use Rattle.ip_defragmenter.proofs.KeyLemmas.{own_key, same_keys}

-- A slot with a key has a packet with that key.
pub record HasPacket (context : ℕ) (k : FragmentKey) (o : Option Pending) : Type 0 where
  pub packet : Pending
  pub there : o ≡ Some packet
  pub context_is : packet.context ≡ context
  pub key_is : packet.key ≡ k

has_by : (context : ℕ) (k : FragmentKey) (o : Option Pending) → option_map_or (λ (p : Pending). eqb p.context context && same_key p.key k) o false ≡ true → HasPacket context k o
has_by context k None is = absurd (false≢true is)
has_by context k (Some p) is =
    let both = and_parts (eqb p.context context) (same_key p.key k) is in
    record { packet = p; there = refl; context_is = eqb-true p.context context both.0; key_is = same_keys p.key k both.1 }

pub has_packet : (context : ℕ) (k : FragmentKey) (s : Slot) → has_key context k s ≡ true → HasPacket context k (pending_in s)
has_packet context k s is = has_by context k (pending_in s) is

used_by : (o : Option Pending) (context : ℕ) (k : FragmentKey) → HasPacket context k o → not (is_some o) ≡ false
used_by o context k has = ap (λ (x : Option Pending). not (is_some x)) has.there

pub has_used : (context : ℕ) (k : FragmentKey) (s : Slot) → has_key context k s ≡ true → is_free s ≡ false
has_used context k s is = used_by (pending_in s) context k (has_packet context k s is)

-- What follows from what a found place has.
pub if_found : (o : Option ℕ) (P Q : ℕ → Type 0) → ((i : ℕ) → P i → Q i) → IfSome o P → IfSome o Q
if_found None P Q f is = tt
if_found (Some i) P Q f is = f i is

-- The slot at an index.
pub here : (xs : List Slot) (i : ℕ) (s : Slot) → i < length xs → slot_at (slice_set xs i s) i ≡ s
here xs i s within = get_or-set_same xs i s free_slot within

pub there : (xs : List Slot) (i j : ℕ) (s : Slot) → j ≢ i → slot_at (slice_set xs i s) j ≡ slot_at xs j
there xs i j s apart = get_or-set_other xs i j s free_slot apart

pub beyond : (xs : List Slot) (i : ℕ) → (i < length xs) ⊎ (slot_at xs i ≡ free_slot)
beyond [] i = inr refl
beyond (x ∷ xs) zero = inl (omega arith)
beyond (x ∷ xs) (suc i) = elim (beyond xs i) [ inl less ↦ inl (omega arith) | inr is ↦ inr is ]

pub has_within : (context : ℕ) (k : FragmentKey) (xs : List Slot) (i : ℕ) → has_key context k (slot_at xs i) ≡ true → i < length xs
has_within context k xs i is = elim (beyond xs i) [
  | inl less ↦ less
  | inr none ↦ absurd (false≢true (ap (has_key context k) (sym none) ∙ is))
]

-- The bucket of the slot that has a key.
bucket_by : (seed : List ℕ) (n context : ℕ) (k : FragmentKey) (o : Option Pending) → HasPacket context k o
    → option_map_or (λ (p : Pending). bucket_of_key seed n p.context p.key) o 0 ≡ bucket_of_key seed n context k
bucket_by seed n context k o has =
    ap (λ (x : Option Pending). option_map_or (λ (p : Pending). bucket_of_key seed n p.context p.key) x 0) has.there
    ∙ (ap (λ (x : ℕ). bucket_of_key seed n x has.packet.key) has.context_is ∙ ap (λ (x : FragmentKey). bucket_of_key seed n context x) has.key_is)

pub has_bucket_of : (seed : List ℕ) (n context : ℕ) (k : FragmentKey) (xs : List Slot) (i : ℕ) → has_key context k (slot_at xs i) ≡ true
    → bucket_in seed n xs i ≡ bucket_of_key seed n context k
has_bucket_of seed n context k xs i is = bucket_by seed n context k (pending_in (slot_at xs i)) (has_packet context k (slot_at xs i) is)

-- The first of some places that passes a test.
found_by : (a : Bool) (t : ℕ → Bool) (x i : ℕ) (xs : List ℕ) → t x ≡ a → cond a (Some x) (find t xs) ≡ Some i
    → (find t xs ≡ Some i → Contains xs i × (t i ≡ true)) → Contains (x ∷ xs) i × (t i ≡ true)
found_by true t x i xs passes is rest =
    let same : x ≡ i = cc in
    ((0, omega arith, same), ap t (sym same) ∙ passes)
found_by false t x i xs passes is rest = (let later = rest is in (has_tail x i xs later.0, later.1))

pub found_in : (t : ℕ → Bool) (xs : List ℕ) (i : ℕ) → find t xs ≡ Some i → Contains xs i × (t i ≡ true)
found_in t [] i is = absurd (cc)
found_in t (x ∷ xs) i is = found_by (t x) t x i xs refl is (found_in t xs i)

none_by : (a : Bool) (t : ℕ → Bool) (x i : ℕ) (xs : List ℕ) → t x ≡ a → cond a (Some x) (find t xs) ≡ None
    → (find t xs ≡ None → Contains xs i → t i ≡ true → ⊥) → Contains (x ∷ xs) i → t i ≡ true → ⊥
none_by true t x i xs fails is rest c passes = absurd (cc)
none_by false t x i xs fails is rest c passes = elim (has_cases x i xs c) [
  | inl same ↦ false≢true (sym fails ∙ (ap t same ∙ passes))
  | inr later ↦ rest is later passes
]

pub none_in : (t : ℕ → Bool) (xs : List ℕ) (i : ℕ) → find t xs ≡ None → Contains xs i → t i ≡ true → ⊥
none_in t [] i is c passes = lacks_none i c
none_in t (x ∷ xs) i is c passes = none_by (t x) t x i xs refl is (none_in t xs i) c passes

filtered_by : (a b : Bool) (t : ℕ → Bool) (x : ℕ) (fs xs : List ℕ) → t x ≡ a → (a ≡ true → b ≡ true) → find t fs ≡ find t xs
    → find t (cond b (x ∷ fs) fs) ≡ cond a (Some x) (find t xs)
filtered_by true true t x fs xs is kept rest = ap (λ (v : Bool). cond v (Some x) (find t fs)) is
filtered_by false true t x fs xs is kept rest = ap (λ (v : Bool). cond v (Some x) (find t fs)) is ∙ rest
filtered_by true false t x fs xs is kept rest = absurd (false≢true (kept refl))
filtered_by false false t x fs xs is kept rest = rest

-- Those that don't pass may be left out.
find_filter : (t u : ℕ → Bool) (xs : List ℕ) → ((x : ℕ) → t x ≡ true → u x ≡ true) → find t (filter u xs) ≡ find t xs
find_filter t u [] kept = refl
find_filter t u (x ∷ xs) kept = filtered_by (t x) (u x) t x (filter u xs) xs refl (kept x) (find_filter t u xs kept)

-- The slot of a packet is in the chain of its bucket.
pub in_chain : (seed : List ℕ) (n context b : ℕ) (k : FragmentKey) (xs : List Slot) (used : List ℕ) → b ≡ bucket_of_key seed n context k
    → find (λ (i : ℕ). has_key context k (slot_at xs i)) (in_bucket (bucket_in seed n xs) b used) ≡ own_slot xs used context k
in_chain seed n context b k xs used is =
    find_filter (λ (i : ℕ). has_key context k (slot_at xs i)) (λ (i : ℕ). eqb (bucket_in seed n xs i) b) used
    (λ i has. eq-eqb (bucket_in seed n xs i) b (has_bucket_of seed n context k xs i has ∙ sym is))

-- The number of buckets.
same_buckets : (m n places : ℕ) → places ≤ m → places ≤ n → ((b : ℕ) → places + b < n ↔ places + b < m) → n ≡ m
same_buckets m n places below within same = elim (leb_tells m n) [
  | inr less ↦ absurd (let l : n < m = less.1 in let e : places + (n - places) < n = (same (n - places)).1 (omega arith) in omega arith)
  | inl up ↦ elim (leb_tells n m) [
    | inr less ↦ absurd (let l : m < n = less.1 in let e : places + (m - places) < m = (same (m - places)).0 (omega arith) in omega arith)
    | inl down ↦ (let a : m ≤ n = up.1 in let b : n ≤ m = down.1 in omega arith)
  ]
]

pub as_many_buckets : (old new : Table) → HasRoom old → HaveSameSize old new → buckets_of new ≡ buckets_of old
as_many_buckets old new room size =
    let P : ℕ → Type 0 = λ x. (b : ℕ) → x + b < length new.chains.next.now ↔ HasBucket old b in
    let both : (b : ℕ) → old.places + b < length new.chains.next.now ↔ old.places + b < length old.chains.next.now = subst P size.places size.buckets in
    let below : new.places ≤ length new.chains.next.now = (size.room room).chains in
    let lengths : length new.chains.next.now ≡ length old.chains.next.now = same_buckets (length old.chains.next.now) (length new.chains.next.now) old.places room.chains (omega (arith, size.places)) both in
    omega (arith, size.places)

-- The slots when one of them got a packet.
pub held : (old new : SlotTable) (seed free used free2 used2 : List ℕ) (context : ℕ) (k : FragmentKey) (i since : ℕ)
    → HoldsPackets old seed free used → IsKey k → i < length old.slots.now
    → new.slots.now ≡ slice_set old.slots.now i (slot_with since context k)
    → HaveSameSize old.table new.table
    → IsTable new.table free2 used2 (with_bucket (bucket_in seed (buckets_of old.table) old.slots.now) i (bucket_of_key seed (buckets_of old.table) context k))
    → ((j : ℕ) → Contains used j → j ≢ i → has_key context k (slot_at old.slots.now j) ≡ true → ⊥)
    → ((j : ℕ) → Contains free2 j → Contains free j × (j ≢ i))
    → ((j : ℕ) → Contains used2 j → (i ≡ j) ⊎ (Contains used j × (j ≢ i)))
    → HoldsPackets new seed free2 used2
held old new seed free used free2 used2 context k i since holds is_key within slots size table others frees useds =
    let xs : List Slot = old.slots.now in
    let ys : List Slot = new.slots.now in
    let s : Slot = slot_with since context k in
    let n : ℕ = buckets_of old.table in
    let at_i : slot_at ys i ≡ s = ap (λ (zs : List Slot). slot_at zs i) slots ∙ here xs i s within in
    let at_other : (j : ℕ) → j ≢ i → slot_at ys j ≡ slot_at xs j = λ j apart. ap (λ (zs : List Slot). slot_at zs j) slots ∙ there xs i j s apart in
    let own : has_key context k s ≡ true = own_key since context k is_key in
    let own_at : has_key context k (slot_at ys i) ≡ true = ap (has_key context k) at_i ∙ own in
    let only : (c : ℕ) (l : FragmentKey) → has_key c l (slot_at ys i) ≡ true → (context ≡ c) × (k ≡ l) = λ c l has.
    (let one = has_packet context k (slot_at ys i) own_at in
    let two = has_packet c l (slot_at ys i) has in
    let same : one.packet ≡ two.packet = (let e : Some one.packet ≡ Some two.packet = sym one.there ∙ two.there in cc) in
    (sym one.context_is ∙ (ap (λ (p : Pending). p.context) same ∙ two.context_is), sym one.key_is ∙ (ap (λ (p : Pending). p.key) same ∙ two.key_is))) in
    let alone : (c : ℕ) (l : FragmentKey) (j : ℕ) → Contains used j → j ≢ i → has_key c l (slot_at ys i) ≡ true → has_key c l (slot_at ys j) ≡ true → ⊥ = λ c l j there_j apart mine other.
    (let same = only c l mine in
    others j there_j apart (ap (has_key context k) (sym (at_other j apart)) ∙ (ap (λ (x : ℕ). has_key x k (slot_at ys j)) same.0 ∙ (ap (λ (x : FragmentKey). has_key c x (slot_at ys j)) same.1 ∙ other)))) in
    record {
      as_many = size.places ∙ (holds.as_many ∙ sym (ap (λ (zs : List Slot). length zs) slots ∙ length-set xs i s));
      room = size.room holds.room;
      has_bucket = (size.buckets 0).1 holds.has_bucket;
      table = other_buckets new.table free2 used2 _ _ table (λ j c.
          ap (λ (m : ℕ). bucket_in seed m ys j) (as_many_buckets old.table new.table holds.room size)
          ∙ elim (useds j c) [
            | inl same ↦
                (let P : ℕ → Type 0 = λ x. bucket_in seed n ys x ≡ with_bucket (bucket_in seed n xs) i (bucket_of_key seed n context k) x in
                subst P same (has_bucket_of seed n context k ys i own_at ∙ sym (with_same (bucket_in seed n xs) i (bucket_of_key seed n context k))))
            | inr old_one ↦
                ap (λ (x : Slot). option_map_or (λ (p : Pending). bucket_of_key seed n p.context p.key) (pending_in x) 0) (at_other j old_one.1)
                ∙ sym (with_other (bucket_in seed n xs) i (bucket_of_key seed n context k) j old_one.1)
          ]);
      free_slots = λ j c. ap is_free (at_other j (frees j c).1) ∙ holds.free_slots j (frees j c).0;
      used_slots = λ j c. elim (useds j c) [
        | inl same ↦ (let P : ℕ → Type 0 = λ x. is_free (slot_at ys x) ≡ false in subst P same (has_used context k (slot_at ys i) own_at))
        | inr old_one ↦ ap is_free (at_other j old_one.1) ∙ holds.used_slots j old_one.0
      ];
      one = λ c l j m has_j has_m at_j at_m. elim (useds j has_j) [
        | inl same ↦ elim (useds m has_m) [
          | inl also ↦ sym same ∙ also
          | inr old_m ↦ absurd (alone c l m old_m.0 old_m.1 (let P : ℕ → Type 0 = λ x. has_key c l (slot_at ys x) ≡ true in subst P (sym same) at_j) at_m)
        ]
        | inr old_j ↦ elim (useds m has_m) [
          | inl also ↦ absurd (alone c l j old_j.0 old_j.1 (let P : ℕ → Type 0 = λ x. has_key c l (slot_at ys x) ≡ true in subst P (sym also) at_m) at_j)
          | inr old_m ↦ holds.one c l j m old_j.0 old_m.0 (ap (has_key c l) (sym (at_other j old_j.1)) ∙ at_j) (ap (has_key c l) (sym (at_other m old_m.1)) ∙ at_m)
        ]
      ];
    }

-- The slots when one of them was freed.
pub freed_one : (old new : SlotTable) (seed free used free2 used2 : List ℕ) (i : ℕ)
    → HoldsPackets old seed free used → i < length old.slots.now → new.slots.now ≡ slice_set old.slots.now i free_slot
    → HaveSameSize old.table new.table
    → IsTable new.table free2 used2 (bucket_in seed (buckets_of old.table) old.slots.now)
    → ((j : ℕ) → Contains free2 j → (i ≡ j) ⊎ (Contains free j × (j ≢ i)))
    → ((j : ℕ) → Contains used2 j → Contains used j × (j ≢ i))
    → HoldsPackets new seed free2 used2
freed_one old new seed free used free2 used2 i holds within slots size table frees useds =
    let xs : List Slot = old.slots.now in
    let ys : List Slot = new.slots.now in
    let n : ℕ = buckets_of old.table in
    let at_i : slot_at ys i ≡ free_slot = ap (λ (zs : List Slot). slot_at zs i) slots ∙ here xs i free_slot within in
    let at_other : (j : ℕ) → j ≢ i → slot_at ys j ≡ slot_at xs j = λ j apart. ap (λ (zs : List Slot). slot_at zs j) slots ∙ there xs i j free_slot apart in
    record {
      as_many = size.places ∙ (holds.as_many ∙ sym (ap (λ (zs : List Slot). length zs) slots ∙ length-set xs i free_slot));
      room = size.room holds.room;
      has_bucket = (size.buckets 0).1 holds.has_bucket;
      table = other_buckets new.table free2 used2 _ _ table (λ j c.
          ap (λ (m : ℕ). bucket_in seed m ys j) (as_many_buckets old.table new.table holds.room size)
          ∙ ap (λ (x : Slot). option_map_or (λ (p : Pending). bucket_of_key seed n p.context p.key) (pending_in x) 0) (at_other j (useds j c).1));
      free_slots = λ j c. elim (frees j c) [
        | inl same ↦ (let P : ℕ → Type 0 = λ x. is_free (slot_at ys x) ≡ true in subst P same (ap is_free at_i))
        | inr old_one ↦ ap is_free (at_other j old_one.1) ∙ holds.free_slots j old_one.0
      ];
      used_slots = λ j c. ap is_free (at_other j (useds j c).1) ∙ holds.used_slots j (useds j c).0;
      one = λ c l j m has_j has_m at_j at_m.
          holds.one c l j m (useds j has_j).0 (useds m has_m).0 (ap (has_key c l) (sym (at_other j (useds j has_j).1)) ∙ at_j) (ap (has_key c l) (sym (at_other m (useds m has_m).1)) ∙ at_m);
    }

-- Slots that stay, with a table that has the same contents.
pub same_table : (old new : Table) (free used : List ℕ) (bucket_of : ℕ → ℕ) → AreSame old new → IsTable old free used bucket_of → IsTable new free used bucket_of
same_table old new free used bucket_of same is = record {
  ages_linked = rw (same.ages_next, same.ages_previous) is.ages_linked;
  chains_linked = rw (same.chains_next, same.chains_previous) is.chains_linked;
  each = rw same.places is.each;
  free_list = rw (same.ages_next, same.places) is.free_list;
  used_list = rw (same.ages_next, same.places) is.used_list;
  bucket = λ p c. rw (same.chains_next, same.places) (is.bucket p c);
  chain = λ b exists. rw (same.chains_next, same.places) (is.chain b (rw (same.chains_next, same.places) at exists));
  no_chain = λ p c. rw same.chains_next (is.no_chain p c);
}

pub same_room : (old new : Table) → AreSame old new → HasRoom old → HasRoom new
same_room old new same room = record {
  ages = rw (same.ages_next, same.places) room.ages;
  ages_as_many = rw (same.ages_next, same.ages_previous) room.ages_as_many;
  ages_few = rw same.ages_next room.ages_few;
  chains = rw (same.chains_next, same.places) room.chains;
  chains_as_many = rw (same.chains_next, same.chains_previous) room.chains_as_many;
  chains_few = rw same.chains_next room.chains_few;
}

pub unchanged : (old new : SlotTable) (seed free used : List ℕ) → new.slots.now ≡ old.slots.now → AreSame old.table new.table → HoldsPackets old seed free used → HoldsPackets new seed free used
unchanged old new seed free used slots same holds =
    let buckets : buckets_of new.table ≡ buckets_of old.table = rw (same.chains_next, same.places) refl in
    let P : List Slot → Type 0 = λ xs. IsTable new.table free used (bucket_in seed (buckets_of new.table) xs) in
    let Q : ℕ → Type 0 = λ n. IsTable new.table free used (bucket_in seed n old.slots.now) in
    record {
      as_many = same.places ∙ (holds.as_many ∙ sym (ap (λ (xs : List Slot). length xs) slots));
      room = same_room old.table new.table same holds.room;
      has_bucket = rw (same.chains_next, same.places) holds.has_bucket;
      table = subst P (sym slots) (subst Q (sym buckets) (same_table old.table new.table free used _ same holds.table));
      free_slots = λ i c. ap (λ (xs : List Slot). is_free (slot_at xs i)) slots ∙ holds.free_slots i c;
      used_slots = λ i c. ap (λ (xs : List Slot). is_free (slot_at xs i)) slots ∙ holds.used_slots i c;
      one = λ context k i j c d at_i at_j. holds.one context k i j c d
          (ap (λ (xs : List Slot). has_key context k (slot_at xs i)) (sym slots) ∙ at_i) (ap (λ (xs : List Slot). has_key context k (slot_at xs j)) (sym slots) ∙ at_j);
    }

-- The place of a packet that has a slot.
pub own_table : (o : Option Placement) (i bucket : ℕ) (t : Table) (free used : List ℕ) (b : ℕ → ℕ) → IfSome o (λ p. p.index ≡ i) → Lacks free i
    → IsTable t free (used_after used o) (with_bucket b i bucket)
    → IfSome o (λ p. IsTable t (free_after free o) (used_after used o) (with_bucket b p.index bucket))
own_table None i bucket t free used b index none is = tt
own_table (Some p) i bucket t free used b index none is =
    let same : without p.index free ≡ free = ap (λ (x : ℕ). without x free) index ∙ without_lacking i free none in
    let P : ℕ → Type 0 = λ x. IsTable t free (used_after used (Some p)) (with_bucket b x bucket) in
    let Q : List ℕ → Type 0 = λ xs. IsTable t xs (used_after used (Some p)) (with_bucket b p.index bucket) in
    subst Q (sym same) (subst P (sym index) is)

-- The place of a new packet.
pub new_table : (p bucket time : ℕ) (old t : Table) (free used : List ℕ) (a b : ℕ → ℕ) → IsTable old (p ∷ free) used a
    → IsTable t free (used ++ p ∷ []) (with_bucket b p bucket)
    → IsTable t (free_after (p ∷ free) (Some (new_place p time))) (used_after used (Some (new_place p time))) (with_bucket b p bucket)
new_table p bucket time old t free used a b was is =
    let rest : without p (p ∷ free) ≡ free = without_first _ _ _ p free was.free_list in
    let same : without p used ≡ used = without_lacking p used (free_lacks _ _ _ _ _ _ (from_table old (p ∷ free) used a was).split p (has_head p free)) in
    let P : List ℕ → Type 0 = λ xs. IsTable t xs (without p used ++ p ∷ []) (with_bucket b p bucket) in
    let Q : List ℕ → Type 0 = λ xs. IsTable t free (xs ++ p ∷ []) (with_bucket b p bucket) in
    subst P (sym rest) (subst Q (sym same) is)

displaced_by : (timeout p bucket time : ℕ) (old t : Table) (used : List ℕ) (a b : ℕ → ℕ) (o : Option Pending) → IsTable old [] (p ∷ used) a
    → IsTable t [] (used ++ p ∷ []) (with_bucket b p bucket)
    → IfSome (option_map (λ (q : Pending). displaced_place timeout p q time) o) (λ x. IsTable t (free_after [] (option_map (λ (q : Pending). displaced_place timeout p q time) o))
    (used_after (p ∷ used) (option_map (λ (q : Pending). displaced_place timeout p q time) o)) (with_bucket b x.index bucket))
displaced_by timeout p bucket time old t used a b None was is = tt
displaced_by timeout p bucket time old t used a b (Some q) was is =
    let rest : without p (p ∷ used) ≡ used = without_first _ _ _ p used was.used_list in
    let P : List ℕ → Type 0 = λ xs. IsTable t [] (xs ++ p ∷ []) (with_bucket b p bucket) in
    subst P (sym rest) is

pub displaced_table : (timeout p bucket time : ℕ) (old t : Table) (slots : List Slot) (used : List ℕ) (a b : ℕ → ℕ) → IsTable old [] (p ∷ used) a
    → IsTable t [] (used ++ p ∷ []) (with_bucket b p bucket)
    → IfSome (displaced_in timeout slots time p) (λ x. IsTable t (free_after [] (displaced_in timeout slots time p))
    (used_after (p ∷ used) (displaced_in timeout slots time p)) (with_bucket b x.index bucket))
displaced_table timeout p bucket time old t slots used a b was is = displaced_by timeout p bucket time old t used a b (pending_in (slot_at slots p)) was is

-- The place, by whether the packet has a slot.
pub own_place_of : (timeout : ℕ) (slots : List Slot) (free used : List ℕ) (context : ℕ) (k : FragmentKey) (time i : ℕ) → own_slot slots used context k ≡ Some i
    → place_of timeout slots free used context k time ≡ own_in timeout slots time i
own_place_of timeout slots free used context k time i is = ap (λ (o : Option ℕ). option_map_or (own_in timeout slots time) o (place_anew timeout slots free used time)) is

pub place_of_new : (timeout : ℕ) (slots : List Slot) (free used : List ℕ) (context : ℕ) (k : FragmentKey) (time : ℕ) → own_slot slots used context k ≡ None
    → place_of timeout slots free used context k time ≡ place_anew timeout slots free used time
place_of_new timeout slots free used context k time is = ap (λ (o : Option ℕ). option_map_or (own_in timeout slots time) o (place_anew timeout slots free used time)) is

-- The bucket that a place has already.
pub with_own : (b : ℕ → ℕ) (i bucket j : ℕ) → b i ≡ bucket → with_bucket b i bucket j ≡ b j
with_own b i bucket j own = elim (cases_eq j i) [
  | inl same ↦ ap (with_bucket b i bucket) same ∙ (with_same b i bucket ∙ (sym own ∙ ap b (sym same)))
  | inr other ↦ with_other b i bucket j other
]

kept_by : (v : Bool) (t : Table) (free xs ys : List ℕ) (b : ℕ → ℕ) → v ≡ true → IsTable t free xs b → IsTable t free (if v then xs else ys) b
kept_by true t free xs ys b known is = is
kept_by false t free xs ys b known is = absurd (false≢true known)

pub kept_table : (p : Placement) (t : Table) (free used : List ℕ) (b : ℕ → ℕ) → p.is_known ≡ true → IsTable t free used b → IsTable t free (used_after used (Some p)) b
kept_table p t free used b known is = kept_by p.is_known t free used _ b known is

moved_by : (v : Bool) (t : Table) (free xs ys : List ℕ) (b : ℕ → ℕ) → v ≡ false → IsTable t free ys b → IsTable t free (if v then xs else ys) b
moved_by true t free xs ys b new is = absurd (false≢true (sym new))
moved_by false t free xs ys b new is = is

pub moved_table : (p : Placement) (i : ℕ) (t : Table) (free used : List ℕ) (b : ℕ → ℕ) → p.is_known ≡ false → p.index ≡ i → IsTable t free (without i used ++ i ∷ []) b
    → IsTable t free (used_after used (Some p)) b
moved_table p i t free used b new index is =
    let P : ℕ → Type 0 = λ x. IsTable t free (without x used ++ x ∷ []) b in
    moved_by p.is_known t free used _ b new (subst P (sym index) is)

-- Free slots have no packet.
free_by : (o : Option Pending) → not (is_some o) ≡ true → o ≡ None
free_by None is = refl
free_by (Some p) is = absurd (false≢true is)

pub free_none : (xs : List Slot) (i : ℕ) (d : Slot) → i < length xs → is_free (slot_at xs i) ≡ true → pending_in (get_or xs i d) ≡ None
free_none xs i d within is = ap pending_in (get_or_default xs i d free_slot within) ∙ free_by (pending_in (slot_at xs i)) is

pub record HasOne (o : Option Pending) : Type 0 where
  pub packet : Pending
  pub there : o ≡ Some packet

one_by : (o : Option Pending) → not (is_some o) ≡ false → HasOne o
one_by None is = absurd (false≢true (sym is))
one_by (Some p) is = record { packet = p; there = refl }

pub used_one : (xs : List Slot) (i : ℕ) → is_free (slot_at xs i) ≡ false → HasOne (pending_in (slot_at xs i))
used_one xs i is = one_by (pending_in (slot_at xs i)) is

-- Where an index is what a table took.
pub displaced_is : (timeout i p time : ℕ) (xs : List Slot) (d : Slot) (r : Placement) → i ≡ p → i < length xs → is_free (slot_at xs p) ≡ false
    → ((q : Pending) → pending_in (get_or xs i d) ≡ Some q → r ≡ displaced_place timeout i q time)
    → Some r ≡ displaced_in timeout xs time p
displaced_is timeout i p time xs d r index within used clause =
    let one : HasOne (pending_in (slot_at xs p)) = used_one xs p used in
    let read : pending_in (get_or xs i d) ≡ Some one.packet = ap pending_in (get_or_default xs i d free_slot within) ∙ (ap (λ (x : ℕ). pending_in (slot_at xs x)) index ∙ one.there) in
    ap Some (clause one.packet read ∙ ap (λ (x : ℕ). displaced_place timeout x one.packet time) index)
    ∙ sym (ap (λ (o : Option Pending). option_map (λ (q : Pending). displaced_place timeout p q time) o) one.there)

pub new_is : (i p time : ℕ) (xs : List Slot) (d : Slot) (r : Placement) → i ≡ p → i < length xs → is_free (slot_at xs p) ≡ true
    → (pending_in (get_or xs i d) ≡ None → r ≡ new_place i time) → Some r ≡ Some (new_place p time)
new_is i p time xs d r index within free clause =
    let P : ℕ → Type 0 = λ x. is_free (slot_at xs x) ≡ true in
    ap Some (clause (free_none xs i d within (subst P (sym index) free)) ∙ ap (λ (x : ℕ). new_place x time) index)

-- The slot of a packet is in use.
pub own_in_use : (slots : List Slot) (used : List ℕ) (context : ℕ) (k : FragmentKey) (i : ℕ) → own_slot slots used context k ≡ Some i → Contains used i
own_in_use slots used context k i is = (found_in (λ (j : ℕ). has_key context k (slot_at slots j)) used i is).0

-- The places of new packets, by what is free.
pub anew_of : (timeout : ℕ) (old : SlotTable) (seed free used : List ℕ) (time bucket : ℕ) (t : Table) (o : Option Placement) (b : ℕ → ℕ)
    → IsTable old.table free used b → ((i : ℕ) → Contains free i → is_free (slot_at old.slots.now i) ≡ true) → ((i : ℕ) → Contains used i → is_free (slot_at old.slots.now i) ≡ false)
    → ((p : ℕ) (rest more : List ℕ) → IsTable old.table (p ∷ rest) more b → is_free (slot_at old.slots.now p) ≡ true
    → (o ≡ Some (new_place p time)) × IsTable t rest (more ++ p ∷ []) (with_bucket b p bucket))
    → ((p : ℕ) (rest : List ℕ) → IsTable old.table [] (p ∷ rest) b → is_free (slot_at old.slots.now p) ≡ false
    → (o ≡ displaced_in timeout old.slots.now time p) × IsTable t [] (rest ++ p ∷ []) (with_bucket b p bucket))
    → (IsTable old.table [] [] b → o ≡ None)
    → (o ≡ place_anew timeout old.slots.now free used time) × IfSome o (λ p. IsTable t (free_after free o) (used_after used o) (with_bucket b p.index bucket))
anew_of timeout old seed (p ∷ rest) used time bucket t o b is frees useds free oldest empty =
    let taken = free p rest used is (frees p (has_head p rest)) in
    let P : Option Placement → Type 0 = λ x. IfSome x (λ q. IsTable t (free_after (p ∷ rest) x) (used_after used x) (with_bucket b q.index bucket)) in
    (taken.0, subst P (sym taken.0) (new_table p bucket time old.table t rest used b b is taken.1))
anew_of timeout old seed [] (p ∷ rest) time bucket t o b is frees useds free oldest empty =
    let taken = oldest p rest is (useds p (has_head p rest)) in
    let P : Option Placement → Type 0 = λ x. IfSome x (λ q. IsTable t (free_after [] x) (used_after (p ∷ rest) x) (with_bucket b q.index bucket)) in
    (taken.0, subst P (sym taken.0) (displaced_table timeout p bucket time old.table t old.slots.now rest b b is taken.1))
anew_of timeout old seed [] [] time bucket t o b is frees useds free oldest empty =
    let none : o ≡ None = empty is in
    let P : Option Placement → Type 0 = λ x. IfSome x (λ q. IsTable t (free_after [] x) (used_after [] x) (with_bucket b q.index bucket)) in
    (none, subst P (sym none) tt)

pub placed_within : (o : Option Placement) (i n : ℕ) → i < n → IfSome o (λ p. p.index ≡ i) → IfSome o (λ p. p.index < n)
placed_within None i n less index = tt
placed_within (Some p) i n less index = omega arith

pub not_true : (v : Bool) → not v ≡ true → v ≡ false
not_true true is = absurd (false≢true is)
not_true false is = refl

pub not_false : (v : Bool) → not v ≡ false → v ≡ true
not_false true is = refl
not_false false is = absurd (false≢true (sym is))

-- No other slot has the packet.
own_index_by : (v : Bool) (a b : Placement) (i : ℕ) → a.index ≡ i → b.index ≡ i → (if v then a else b).index ≡ i
own_index_by true a b i p q = p
own_index_by false a b i p q = q

own_index : (timeout i : ℕ) (q : Pending) (time : ℕ) → (own_place timeout i q time).index ≡ i
own_index timeout i q time = own_index_by (is_expired timeout q.since time) _ _ i refl refl

index_by : (timeout i time : ℕ) (o : Option Pending) (p : Placement) → option_map (λ (q : Pending). own_place timeout i q time) o ≡ Some p → p.index ≡ i
index_by timeout i time None p is = absurd (none-some _ is)
index_by timeout i time (Some q) p is = ap (λ (x : Placement). x.index) (sym (same_Some _ _ is)) ∙ own_index timeout i q time

no_other_by : (o : Option ℕ) (timeout : ℕ) (t : SlotTable) (seed free used : List ℕ) (context : ℕ) (k : FragmentKey) (time : ℕ) (p : Placement) (j : ℕ) → own_slot t.slots.now used context k ≡ o
    → HoldsPackets t seed free used → Some p ≡ place_of timeout t.slots.now free used context k time
    → Contains used j → j ≢ p.index → has_key context k (slot_at t.slots.now j) ≡ true → ⊥
no_other_by None timeout t seed free used context k time p j found holds is there apart has = none_in (λ (i : ℕ). has_key context k (slot_at t.slots.now i)) used j found there has
no_other_by (Some i) timeout t seed free used context k time p j found holds is there apart has =
    let own = found_in (λ (x : ℕ). has_key context k (slot_at t.slots.now x)) used i found in
    let at_i : own_in timeout t.slots.now time i ≡ Some p = sym (is ∙ own_place_of timeout t.slots.now free used context k time i found) in
    apart (holds.one context k j i there own.0 has own.1 ∙ sym (index_by timeout i time (pending_in (slot_at t.slots.now i)) p at_i))

pub no_other : (timeout : ℕ) (t : SlotTable) (seed free used : List ℕ) (context : ℕ) (k : FragmentKey) (time : ℕ) (p : Placement)
    → HoldsPackets t seed free used → Some p ≡ place_of timeout t.slots.now free used context k time
    → (j : ℕ) → Contains used j → j ≢ p.index → has_key context k (slot_at t.slots.now j) ≡ true → ⊥
no_other timeout t seed free used context k time p holds is j = no_other_by (own_slot t.slots.now used context k) timeout t seed free used context k time p j refl holds is

used_by_known : (v : Bool) (i j : ℕ) (used : List ℕ) → Contains (if v then used else without i used ++ i ∷ []) j → (i ≡ j) ⊎ (Contains used j × (j ≢ i))
used_by_known true i j used c = elim (cases_eq j i) [ inl same ↦ inl (sym same) | inr other ↦ inr (c, other) ]
used_by_known false i j used c = moved_has i used j c

pub used_cases : (p : Placement) (used : List ℕ) (j : ℕ) → Contains (used_after used (Some p)) j → (p.index ≡ j) ⊎ (Contains used j × (j ≢ p.index))
used_cases p used j c = used_by_known p.is_known p.index j used c

-- A place that was released.
pub released_table : (old new : Table) (free used : List ℕ) (i : ℕ) (r : Bool) (b : ℕ → ℕ) → IsTable old free used b → Contains used i
    → ((xs ys : List ℕ) → IsTable old free (xs ++ i ∷ ys) b → (r ≡ true) × IsTable new (free ++ i ∷ []) (xs ++ ys) b)
    → IsTable new (free ++ i ∷ []) (without i used) b
released_table old new free used i r b is there released = elim (around used i) [
  | inl found ↦
      let P : List ℕ → Type 0 = λ xs. IsTable old free xs b in
      let Q : List ℕ → Type 0 = λ xs. IsTable new (free ++ i ∷ []) xs b in
      let parts : IsTable old free (found.before ++ i ∷ found.after) b = subst P found.is is in
      let rest : without i used ≡ found.before ++ found.after = ap (without i) found.is ∙ without_inner _ _ _ i found.before found.after parts.used_list in
      subst Q (sym rest) (released found.before found.after parts).1
  | inr none ↦ absurd (none there)
]

free_cases : (t : Table) (free used : List ℕ) (b : ℕ → ℕ) (i j : ℕ) → IsTable t free used b → Contains used i → Contains (free ++ i ∷ []) j → (i ≡ j) ⊎ (Contains free j × (j ≢ i))
free_cases t free used b i j is there c = elim (Contains-append_cases free (i ∷ []) j c) [
  | inr own ↦ inl (has_one i j own)
  | inl old ↦ inr (old, λ e. free_lacks _ _ _ _ _ _ (from_table t free used b is).split j old (let P : ℕ → Type 0 = λ x. Contains used x in subst P (sym e) there))
]

-- The slots when one of those in use was released.
pub released_one : (old new : SlotTable) (seed free used : List ℕ) (i : ℕ) (r : Bool) → HoldsPackets old seed free used → Contains used i → i < length old.slots.now
    → new.slots.now ≡ slice_set old.slots.now i free_slot → HaveSameSize old.table new.table
    → ((xs ys : List ℕ) (b : ℕ → ℕ) → IsTable old.table free (xs ++ i ∷ ys) b → (r ≡ true) × IsTable new.table (free ++ i ∷ []) (xs ++ ys) b)
    → HoldsPackets new seed (free ++ i ∷ []) (without i used)
released_one old new seed free used i r holds there within slots size released =
    freed_one old new seed free used (free ++ i ∷ []) (without i used) i holds within slots size
    (released_table old.table new.table free used i r _ holds.table there (λ xs ys t. released xs ys _ t))
    (λ j c. free_cases old.table free used _ i j holds.table there c) (λ j c. without_has i used j c)

-- A slot that isn't free is in use.
pub in_use : (t : SlotTable) (seed free used : List ℕ) (i : ℕ) → HoldsPackets t seed free used → i < t.table.places → is_free (slot_at t.slots.now i) ≡ false → Contains used i
in_use t seed free used i holds within is = elim ((holds.table.each i).1 within) [
  | inl there ↦ absurd (false≢true (sym is ∙ holds.free_slots i there))
  | inr there ↦ there
]

loss_by_one : (timeout time : ℕ) (o : Option Pending) (l : Loss) → option_and_then (loss_by timeout time) o ≡ Some l → not (is_some o) ≡ false
loss_by_one timeout time None l is = absurd (none-some _ is)
loss_by_one timeout time (Some p) l is = refl

pub loss_of_used : (timeout time : ℕ) (s : Slot) (l : Loss) → loss_of timeout s time ≡ Some l → is_free s ≡ false
loss_of_used timeout time s l is = loss_by_one timeout time (pending_in s) l is

-- All slots are free.
pub cleared : (old new : SlotTable) (seed : List ℕ) → old.table.places ≡ length old.slots.now → HasRoom old.table → HasBucket old.table 0
    → length new.slots.now ≡ length old.slots.now → ((i : ℕ) → i < length new.slots.now → slot_at new.slots.now i ≡ free_slot) → HaveSameSize old.table new.table
    → ((b : ℕ → ℕ) → IsTable new.table (range_with_len 0 old.table.places) [] b)
    → HoldsPackets new seed (range_with_len 0 (length old.slots.now)) []
cleared old new seed as_many room bucket len free size table =
    let P : ℕ → Type 0 = λ n. IsTable new.table (range_with_len 0 n) [] (bucket_in seed (buckets_of new.table) new.slots.now) in
    let is : IsTable new.table (range_with_len 0 (length old.slots.now)) [] (bucket_in seed (buckets_of new.table) new.slots.now) = subst P as_many (table _) in
    record {
      as_many = size.places ∙ (as_many ∙ sym len);
      room = size.room room;
      has_bucket = (size.buckets 0).1 bucket;
      table = is;
      free_slots = λ i c. ap is_free (free i (let less : i < new.table.places = (is.each i).0 (inl c) in let same : new.table.places ≡ length new.slots.now = size.places ∙ (as_many ∙ sym len) in omega arith));
      used_slots = λ i c. absurd (lacks_none i c);
      one = λ context k i j c d at_i at_j. absurd (lacks_none i c);
    }

used_has : (v : Bool) (i : ℕ) (used : List ℕ) → (v ≡ true → Contains used i) → Contains (if v then used else without i used ++ i ∷ []) i
used_has true i used own = own refl
used_has false i used own = moved_has_place i used

-- The place of a packet is in use from then on.
pub placed_in_use : (t : SlotTable) (seed free used : List ℕ) (context : ℕ) (k : FragmentKey) (p : Placement) → HoldsPackets t seed free used
    → (p.is_known ≡ true → has_key context k (slot_at t.slots.now p.index) ≡ true) → p.index < length t.slots.now → Contains (used_after used (Some p)) p.index
placed_in_use t seed free used context k p holds known within =
    used_has p.is_known p.index used (λ is. in_use t seed free used p.index holds (let e : t.table.places ≡ length t.slots.now = holds.as_many in omega arith) (has_used context k (slot_at t.slots.now p.index) (known is)))

-- The slot that has a packet is found.
found_slot_by : (o : Option ℕ) (t : SlotTable) (seed free used : List ℕ) (context i : ℕ) (k : FragmentKey) → own_slot t.slots.now used context k ≡ o → HoldsPackets t seed free used
    → Contains used i → has_key context k (slot_at t.slots.now i) ≡ true → own_slot t.slots.now used context k ≡ Some i
found_slot_by None t seed free used context i k is holds there has = absurd (none_in (λ (j : ℕ). has_key context k (slot_at t.slots.now j)) used i is there has)
found_slot_by (Some j) t seed free used context i k is holds there has =
    let own = found_in (λ (x : ℕ). has_key context k (slot_at t.slots.now x)) used j is in
    is ∙ ap (λ (x : ℕ). Some x) (holds.one context k j i own.0 there own.1 has)

pub found_slot : (t : SlotTable) (seed free used : List ℕ) (context i : ℕ) (k : FragmentKey) → HoldsPackets t seed free used
    → Contains used i → has_key context k (slot_at t.slots.now i) ≡ true → own_slot t.slots.now used context k ≡ Some i
found_slot t seed free used context i k holds there has = found_slot_by (own_slot t.slots.now used context k) t seed free used context i k refl holds there has

-- Why a packet is given up.
own_lost_by : (v : Bool) (timeout time i : ℕ) (q : Pending) (p : Placement) (l : Loss) → is_expired timeout q.since time ≡ v
    → (if v then record { index = i; since = time; is_known = false; lost = Some (lost_by TimedOut q) } else record { index = i; since = q.since; is_known = true; lost = None }) ≡ p
    → p.lost ≡ Some l → (p.index ≡ i) × (is_expired timeout q.since time ≡ true)
own_lost_by true timeout time i q p l expired is lost = (ap (λ (x : Placement). x.index) (sym is), expired)
own_lost_by false timeout time i q p l expired is lost = absurd (none-some _ (ap (λ (x : Placement). x.lost) is ∙ lost))

own_lost : (timeout time i : ℕ) (xs : List Slot) (o : Option Pending) (p : Placement) (l : Loss) → pending_in (slot_at xs i) ≡ o
    → option_map (λ (q : Pending). own_place timeout i q time) o ≡ Some p → p.lost ≡ Some l
    → (q : Pending) × (pending_in (slot_at xs p.index) ≡ Some q) × (is_expired timeout q.since time ≡ true)
own_lost timeout time i xs None p l there is lost = absurd (none-some _ is)
own_lost timeout time i xs (Some q) p l there is lost =
    let both = own_lost_by (is_expired timeout q.since time) timeout time i q p l refl (same_Some _ _ is) lost in
    (q, ap (λ (x : ℕ). pending_in (slot_at xs x)) both.0 ∙ there, both.1)

anew_lost : (timeout time : ℕ) (xs : List Slot) (free used : List ℕ) (p : Placement) (l : Loss) → place_anew timeout xs free used time ≡ Some p → p.lost ≡ Some l → free ≡ []
anew_lost timeout time xs [] used p l is lost = refl
anew_lost timeout time xs (i ∷ free) used p l is lost = absurd (none-some _ (ap (λ (x : Placement). x.lost) (same_Some _ _ is) ∙ lost))

given_up_by : (o : Option ℕ) (timeout time context : ℕ) (xs : List Slot) (free used : List ℕ) (k : FragmentKey) (p : Placement) (l : Loss) → own_slot xs used context k ≡ o
    → place_of timeout xs free used context k time ≡ Some p → p.lost ≡ Some l
    → (free ≡ []) ⊎ ((q : Pending) × (pending_in (slot_at xs p.index) ≡ Some q) × (is_expired timeout q.since time ≡ true))
given_up_by None timeout time context xs free used k p l found is lost = inl (anew_lost timeout time xs free used p l (sym (place_of_new timeout xs free used context k time found) ∙ is) lost)
given_up_by (Some i) timeout time context xs free used k p l found is lost =
    inr (own_lost timeout time i xs (pending_in (slot_at xs i)) p l refl (sym (own_place_of timeout xs free used context k time i found) ∙ is) lost)

pub given_up : (timeout time context : ℕ) (xs : List Slot) (free used : List ℕ) (k : FragmentKey) (p : Placement) (l : Loss)
    → place_of timeout xs free used context k time ≡ Some p → p.lost ≡ Some l
    → (free ≡ []) ⊎ ((q : Pending) × (pending_in (slot_at xs p.index) ≡ Some q) × (is_expired timeout q.since time ≡ true))
given_up timeout time context xs free used k p l = given_up_by (own_slot xs used context k) timeout time context xs free used k p l refl

-- A slot has no packet if none is in use.
pub free_pending : (t : SlotTable) (seed free : List ℕ) (i : ℕ) → HoldsPackets t seed free [] → pending_in (slot_at t.slots.now i) ≡ None
free_pending t seed free i holds = elim (beyond t.slots.now i) [
  | inr none ↦ ap pending_in none
  | inl less ↦ elim ((holds.table.each i).1 (let e : t.table.places ≡ length t.slots.now = holds.as_many in omega arith)) [
    | inl there ↦ free_by (pending_in (slot_at t.slots.now i)) (holds.free_slots i there)
    | inr there ↦ absurd (lacks_none i there)
  ]
]
