-- What a reassembly has received, its fields, and a fragment.
use Rattle.ip_reassembly.proofs.Common.{◌≡◌, ℕ, ◌+◌, ◌-◌, ◌*◌, ◌/◌, ◌%◌, ◌≤◌, ◌<◌, max, min, Bool, true, false, not, ◌&&◌, ◌||◌, List, ◌∷◌, take, replicate, length, get_or, Option, Some, None, is_some, refl, sym, ap, ◌∙◌, subst, inl, inr, arith, cond, cond-true, cond-false, leb, ltb, eqb, eqb-true, lt-ltb, le-ltb, le-leb, lt-leb, eq-eqb, ne_eqb, cases_eq, cases_lt, cases_Bool, and_parts, and_from, or_right, false_from_ne_true, true_from_ne_false, both_ways, list_any, bytes_eq, Fragment, fragment_at, end_of, is_in, is_same, overlaps, has_two_ends, is_unaligned, byte_at, first_bytes, first_mark, mark_of, run_end, run_mark, mark_by, mark_at, reach_of, is_ended, count_of, IsSound, AreConsistent}
use Rattle.std.specs.Prelude.{◌^◌, slice_range}
use Rattle.std.proofs.lemmas.Slice.Eq.{bytes_eq-Decides}
use Rattle.std.proofs.lemmas.Option.{same_Some, none-some}
use Rattle.std.proofs.Math.Bool.{or_comm}
use Rattle.std.proofs.Math.Nat.{zero-div}
use Rattle.std.proofs.lemmas.Bool.{and_left, and_right, not_from_true}
use Rattle.std.proofs.lemmas.List.{ext_get_or}
use Rattle.std.proofs.lemmas.Bool.Decides.{same_from_decides}
use Rattle.std.proofs.lemmas.List.Edits.{get_or-between, length-between}
use Rattle.ip_reassembly.specs.declared.err.AddError.{AddError}
use Rattle.ip_reassembly.specs.declared.err.AddError.TheVariants.{Unaligned, TooLong, Overlap, TwoEnds, Abandoned}
use Rattle.ip_reassembly.specs.Payload.{payload_of}
use Rattle.ip_reassembly.specs.Refusal.{refusal}
use Rattle.std.specs.Prelude.{Ok, Err}
use Rattle.std.proofs.lemmas.List.{get_or-replicate, get_or_past, length-replicate}
use Rattle.ip_reassembly.specs.Refusal.{is_conflict}
use Rattle.ip_reassembly.specs.Received.{Received, received_none, with_fragment, progress_of, outcome_by, outcome_of, received_by, received_after}
use Rattle.ip_reassembly.specs.Reassembly.{Fields, AreReceived, AreZeros, HasArrived, IsNew, IsZero, is_set, state_fields}
use Rattle.ip_reassembly.specs.declared.state.ReassemblyState.{ReassemblyState}
use Rattle.ip_reassembly.proofs.FragmentLemmas.{same_among, whole_units, in_bounds, is_in_bounds, out_of_bounds, overlaps_at}
use Rattle.ip_reassembly.proofs.MemberLemmas.{any_from_member, member_sound, member_within, member_ended, member_last, ends_elsewhere, two_ends_from, one_end_from, member_one_end}
use Rattle.ip_reassembly.proofs.MarkLemmas.{HasShape, first_mark_in, later_mark_in, mark_at_in, mark_at_out, none_overlaps, unmarked, IsMarked, has_shape, member_marks, member_mark_ends, unmarked_after}
use Rattle.ip_reassembly.proofs.PayloadLemmas.{byte_at_in, byte_at_out, own_byte, member_byte, first_bytes_each, first_bytes_are, first_bytes_there, present_all, present, payload_is, reach_most, payload_without_end, payload_with_hole, count_most}

-- The refusal, case by case.
pub refused_unaligned : (limit : ℕ) (fs : List Fragment) (f : Fragment) → is_unaligned f ≡ true → refusal limit fs f ≡ Some Unaligned
unfolding refusal
refused_unaligned limit fs f h = cond-true (is_unaligned f) _ _ h

pub refused_too_long : (limit : ℕ) (fs : List Fragment) (f : Fragment) → is_unaligned f ≡ false → limit < end_of f → refusal limit fs f ≡ Some TooLong
unfolding refusal
refused_too_long limit fs f a l = cond-false (is_unaligned f) _ _ a ∙ cond-true (ltb limit (end_of f)) _ _ (lt-ltb limit (end_of f) l)

pub refused_among : (limit : ℕ) (fs : List Fragment) (f : Fragment) → is_unaligned f ≡ false → end_of f ≤ limit → list_any (is_same f) fs ≡ true → refusal limit fs f ≡ None
unfolding refusal
refused_among limit fs f a l s = cond-false (is_unaligned f) _ _ a ∙ (cond-false (ltb limit (end_of f)) _ _ (le-ltb limit (end_of f) l) ∙ cond-true (list_any (is_same f) fs) _ _ s)

pub refused_overlap : (limit : ℕ) (fs : List Fragment) (f : Fragment) → is_unaligned f ≡ false → end_of f ≤ limit → list_any (is_same f) fs ≡ false → list_any (overlaps f) fs ≡ true → refusal limit fs f ≡ Some Overlap
unfolding refusal
refused_overlap limit fs f a l s o = cond-false (is_unaligned f) _ _ a ∙ (cond-false (ltb limit (end_of f)) _ _ (le-ltb limit (end_of f) l) ∙ (cond-false (list_any (is_same f) fs) _ _ s ∙ cond-true (list_any (overlaps f) fs) _ _ o))

pub refused_two_ends : (limit : ℕ) (fs : List Fragment) (f : Fragment) → is_unaligned f ≡ false → end_of f ≤ limit → list_any (is_same f) fs ≡ false → list_any (overlaps f) fs ≡ false → list_any (has_two_ends f) fs ≡ true → refusal limit fs f ≡ Some TwoEnds
unfolding refusal
refused_two_ends limit fs f a l s o t = cond-false (is_unaligned f) _ _ a ∙ (cond-false (ltb limit (end_of f)) _ _ (le-ltb limit (end_of f) l) ∙ (cond-false (list_any (is_same f) fs) _ _ s ∙ (cond-false (list_any (overlaps f) fs) _ _ o ∙ cond-true (list_any (has_two_ends f) fs) _ _ t)))

pub not_refused : (s : Received) (f : Fragment) → IsNew s f → refusal s.limit s.fragments f ≡ None
unfolding refusal
not_refused s f n = elim (cases_Bool (list_any (is_same f) s.fragments)) [
  | inl same ↦ refused_among s.limit s.fragments f n.sound.aligned n.sound.within same
  | inr other ↦ cond-false (is_unaligned f) _ _ n.sound.aligned ∙ (cond-false (ltb s.limit (end_of f)) _ _ (le-ltb s.limit (end_of f) n.sound.within) ∙ (cond-false (list_any (is_same f) s.fragments) _ _ other ∙ (cond-false (list_any (overlaps f) s.fragments) _ _ n.apart ∙ cond-false (list_any (has_two_ends f) s.fragments) _ _ n.one_end)))
]

-- Units are free exactly if the fragment overlaps no other.
pub free_units : (r : Fields) (s : Received) (first next : ℕ) (more : Bool) (bytes : List ℕ) → AreReceived r s → next ≡ (8 * first + length bytes) / 8 + min 1 ((8 * first + length bytes) % 8) → ((i : ℕ) → first ≤ i → i < next → mark_by r.run r.marks i ≡ 0) → list_any (overlaps (fragment_at first more bytes)) s.fragments ≡ false
free_units r s first next more bytes h n free =
    none_overlaps s.limit s.fragments (fragment_at first more bytes) h.consistent (omega arith) (λ i low high. sym (h.marks i) ∙ free i (omega (arith, low)) (omega (arith, high, n)))

pub occupied_units : (r : Fields) (s : Received) (first next : ℕ) (more : Bool) (bytes : List ℕ) → AreReceived r s → next ≡ (8 * first + length bytes) / 8 + min 1 ((8 * first + length bytes) % 8) → (((i : ℕ) → first ≤ i → i < next → mark_by r.run r.marks i ≡ 0) → ⊥) → list_any (overlaps (fragment_at first more bytes)) s.fragments ≡ true
occupied_units r s first next more bytes h n occupied = true_from_ne_false (list_any (overlaps (fragment_at first more bytes)) s.fragments) (λ none.
    occupied (λ i low high. h.marks i ∙ unmarked s.fragments (fragment_at first more bytes) i none (omega (arith, low)) (omega (arith, high, n))))

-- A fragment that doesn't overlap itself has no bytes.
pub same_overlaps : (fs : List Fragment) (f : Fragment) → list_any (is_same f) fs ≡ true → 0 < length f.bytes → list_any (overlaps f) fs ≡ true
same_overlaps fs f among positive = any_from_member (overlaps f) fs f among (overlaps_at f f f.offset (omega arith) (omega (arith, positive)) (omega arith) (omega (arith, positive)))

-- A fragment that is there has the units of one fragment.
pub repeated_units : (r : Fields) (s : Received) (first next : ℕ) (more : Bool) (bytes : List ℕ) → AreReceived r s → IsSound s.limit (fragment_at first more bytes) → 0 < length bytes → next ≡ (8 * first + length bytes) / 8 + min 1 ((8 * first + length bytes) % 8) → ((mark_by r.run r.marks first ≡ first_mark more) × ((i : ℕ) → first + 1 ≤ i → i < next → mark_by r.run r.marks i ≡ 3) × (mark_by r.run r.marks next ≡ 3 → ⊥) → ⊥) → list_any (is_same (fragment_at first more bytes)) s.fragments ≡ false
repeated_units r s first next more bytes h sound positive n other = false_from_ne_true (list_any (is_same (fragment_at first more bytes)) s.fragments) (λ among.
    let f : Fragment = fragment_at first more bytes in
    other (
      h.marks first ∙ (member_marks s.limit s.fragments f first h.consistent among (omega arith) (omega (arith, positive)) ∙ first_mark_in f first refl),
      (λ i low high. h.marks i ∙ (member_marks s.limit s.fragments f i h.consistent among (omega (arith, low)) (omega (arith, high, n)) ∙ later_mark_in f i (λ e. omega (arith, e, low)))),
      (λ e. member_mark_ends s.limit s.fragments f h.consistent among positive
          (subst (λ (k : ℕ). mark_at s.fragments k ≡ 3) (let at : next ≡ (end_of f + 7) / 8 = omega (arith, n) in at) (sym (h.marks next) ∙ e))),
    ))

pub repeated_end : (r : Fields) (s : Received) (f : Fragment) → AreReceived r s → f.more ≡ false → (end_of f ≡ r.reach → ⊥) → list_any (is_same f) s.fragments ≡ false
repeated_end r s f h last other = false_from_ne_true (list_any (is_same f) s.fragments) (λ among.
    other (sym (member_last s.limit s.fragments f h.consistent among last) ∙ sym h.reach))

-- The buffer has the bytes of a fragment that is there.
pub member_slice : (r : Fields) (s : Received) (f : Fragment) → AreReceived r s → list_any (is_same f) s.fragments ≡ true → slice_range r.buffer f.offset (end_of f) ≡ f.bytes
member_slice r s f h among =
    let sound = member_sound s.limit s.fragments f h.consistent among in
    let len : length (slice_range r.buffer f.offset (end_of f)) ≡ length f.bytes = omega (arith, length-between {X = ℕ} r.buffer f.offset (end_of f), sound.within, h.limit) in
    ext_get_or 0 (slice_range r.buffer f.offset (end_of f)) f.bytes len (λ k less.
    let inside : is_in f (f.offset + k) ≡ true = is_in_bounds f (f.offset + k) (omega arith) (omega (arith, less, len)) in
    let at : f.offset + k - f.offset ≡ k = omega arith in
    get_or-between r.buffer f.offset (end_of f) k 0 (omega (arith, less, len))
    ∙ (h.bytes (f.offset + k) (get_or f.bytes (f.offset + k - f.offset) 0) (member_byte s.limit s.fragments f (f.offset + k) h.consistent among inside)
    ∙ ap (λ (i : ℕ). get_or f.bytes i 0) at))

-- The marks of a fragment's units are those of one that is there.
units_marked : (r : Fields) (s : Received) (first next : ℕ) (more : Bool) (bytes : List ℕ) → AreReceived r s → next ≡ (8 * first + length bytes) / 8 + min 1 ((8 * first + length bytes) % 8) → (mark_by r.run r.marks first ≡ first_mark more) × ((i : ℕ) → first + 1 ≤ i → i < next → mark_by r.run r.marks i ≡ 3) × (mark_by r.run r.marks next ≡ 3 → ⊥) → IsMarked s.fragments (fragment_at first more bytes)
units_marked r s first next more bytes h n units =
    let f : Fragment = fragment_at first more bytes in
    record {
      marks = λ i low high. sym (h.marks i) ∙ elim (cases_eq i first) [
        | inl e ↦ ap (λ (k : ℕ). mark_by r.run r.marks k) e ∙ (units.0 ∙ sym (first_mark_in f i (omega (arith, e))))
        | inr other ↦ units.1 i (omega (arith, other, low)) (omega (arith, high, n)) ∙ sym (later_mark_in f i (λ e. other (omega (arith, e))))
      ];
      ends = λ e. units.2 (h.marks next ∙ (ap (mark_at s.fragments) (let at : next ≡ (end_of f + 7) / 8 = omega (arith, n) in at) ∙ e));
    }

-- A fragment of the shape of f that ends where f should has the end of f.
same_end : (r : Fields) (s : Received) (f g : Fragment) → AreReceived r s → is_unaligned f ≡ false → list_any (is_same g) s.fragments ≡ true → g.offset ≡ f.offset → g.more ≡ f.more → (end_of g + 7) / 8 ≡ (end_of f + 7) / 8 → (f.more ≡ false → end_of f ≡ r.reach) → end_of g ≡ end_of f
same_end r s f g h aligned among offset flag units ends = elim (cases_Bool f.more) [
  | inl follow ↦ omega (arith, units, offset, whole_units g (member_sound s.limit s.fragments g h.consistent among).aligned (flag ∙ follow), whole_units f aligned follow)
  | inr last ↦ sym (member_last s.limit s.fragments g h.consistent among (flag ∙ last)) ∙ (sym h.reach ∙ sym (ends last))
]

-- A fragment with the offset, the flag and the end of one that is there repeats it exactly if the buffer has its bytes.
same_bytes : (r : Fields) (s : Received) (f g : Fragment) → AreReceived r s → list_any (is_same g) s.fragments ≡ true → g.offset ≡ f.offset → g.more ≡ f.more → end_of g ≡ end_of f → bytes_eq (slice_range r.buffer f.offset (end_of f)) f.bytes ≡ list_any (is_same f) s.fragments
same_bytes r s f g h among offset flag end =
    let stored : slice_range r.buffer f.offset (end_of f) ≡ g.bytes =
    ap (λ (i : ℕ). slice_range r.buffer i (end_of f)) (sym offset) ∙ (ap (slice_range r.buffer g.offset) (sym end) ∙ member_slice r s g h among) in
    same_from_decides (bytes_eq (slice_range r.buffer f.offset (end_of f)) f.bytes) (list_any (is_same f) s.fragments)
    (bytes_eq-Decides (slice_range r.buffer f.offset (end_of f)) f.bytes)
    ((λ there. member_slice r s f h there), λ same. same_among s.fragments g f among offset flag (sym stored ∙ same))

pub repeated_bytes : (r : Fields) (s : Received) (first next : ℕ) (more : Bool) (bytes : List ℕ) → AreReceived r s → IsSound s.limit (fragment_at first more bytes) → 0 < length bytes → next ≡ (8 * first + length bytes) / 8 + min 1 ((8 * first + length bytes) % 8) → (mark_by r.run r.marks first ≡ first_mark more) × ((i : ℕ) → first + 1 ≤ i → i < next → mark_by r.run r.marks i ≡ 3) × (mark_by r.run r.marks next ≡ 3 → ⊥) → (more ≡ false → 8 * first + length bytes ≡ r.reach) → bytes_eq (slice_range r.buffer (8 * first) (8 * first + length bytes)) bytes ≡ list_any (is_same (fragment_at first more bytes)) s.fragments
repeated_bytes r s first next more bytes h sound positive n units ends =
    with_shape (has_shape s.limit s.fragments (fragment_at first more bytes) first refl h.consistent positive (units_marked r s first next more bytes h n units)) where
      with_shape : HasShape s.fragments (fragment_at first more bytes) → bytes_eq (slice_range r.buffer (8 * first) (8 * first + length bytes)) bytes ≡ list_any (is_same (fragment_at first more bytes)) s.fragments
      with_shape shape = same_bytes r s (fragment_at first more bytes) shape.other h shape.among shape.offset shape.more
          (same_end r s (fragment_at first more bytes) shape.other h sound.aligned shape.among shape.offset shape.more shape.units ends)

-- The first bytes of the payload, if they are there, are those of the buffer.
bytes_in_buffer : (r : Fields) (s : Received) (n : ℕ) (o : Option (List ℕ)) → AreReceived r s → n ≤ length r.buffer → first_bytes s.fragments n ≡ o → is_some o ≡ true → first_bytes s.fragments n ≡ Some (take n r.buffer)
bytes_in_buffer r s n None h l e some = absurd (both_ways false refl some)
bytes_in_buffer r s n (Some t) h l e some =
    let each = first_bytes_each s.fragments n t e in
    first_bytes_are s.fragments r.buffer n l (λ i less. each.1 i less ∙ ap Some (sym (h.bytes i (get_or t i 0) (each.1 i less))))

pub whole_in_buffer : (r : Fields) (s : Received) → AreReceived r s → r.is_ended ≡ true → r.count ≡ r.reach → (r.reach ≤ length r.buffer) × (payload_of s.fragments ≡ Some (take r.reach r.buffer))
whole_in_buffer r s h ended all =
    let fs_ended : is_ended s.fragments ≡ true = sym h.ended ∙ ended in
    let fs_all : count_of s.fragments ≡ reach_of s.fragments = sym h.count ∙ (all ∙ h.reach) in
    let there : present s.fragments (reach_of s.fragments) ≡ reach_of s.fragments = present_all s.limit s.fragments (reach_of s.fragments) h.consistent (omega arith) ∙ fs_all in
    let within : r.reach ≤ length r.buffer = omega (arith, h.reach, h.limit, reach_most s.limit s.fragments h.consistent) in (
      within,
      payload_is s.limit s.fragments h.consistent fs_ended
          ∙ (ap (first_bytes s.fragments) (sym h.reach)
          ∙ bytes_in_buffer r s r.reach (first_bytes s.fragments r.reach) h within refl
          (ap (λ (n : ℕ). is_some (first_bytes s.fragments n)) h.reach ∙ first_bytes_there s.fragments (reach_of s.fragments) there)),
    )

pub not_whole : (r : Fields) (s : Received) → AreReceived r s → (r.is_ended ≡ true → r.count ≡ r.reach → ⊥) → payload_of s.fragments ≡ None
not_whole r s h less = elim (cases_Bool (is_ended s.fragments)) [
  | inr none ↦ payload_without_end s.fragments none
  | inl ended ↦ payload_with_hole s.limit s.fragments h.consistent ended (λ all. less (h.ended ∙ ended) (h.count ∙ (all ∙ sym h.reach)))
]

-- The fields after a fragment was stored.
pub record IsStored (r q : Fields) (first next : ℕ) (more : Bool) (bytes : List ℕ) : Type 0 where
  pub next_unit : next ≡ (8 * first + length bytes) / 8 + min 1 ((8 * first + length bytes) % 8)
  pub buffer : (i : ℕ) → get_or q.buffer i 0 ≡ cond (leb (8 * first) i && ltb i (8 * first + length bytes)) (get_or bytes (i - 8 * first) 0) (get_or r.buffer i 0)
  pub room : length q.buffer ≡ length r.buffer
  pub marks : (i : ℕ) → mark_by q.run q.marks i ≡ cond (leb first i && ltb i next) (cond (eqb i first) (first_mark more) 3) (mark_by r.run r.marks i)
  pub unused : (i : ℕ) → i < run_end q.run → mark_of q.marks i ≡ 0
  pub reach : q.reach ≡ max r.reach (8 * first + length bytes)
  pub count : r.count + length bytes ≤ 65535 → q.count ≡ r.count + length bytes
  pub ended : q.is_ended ≡ (r.is_ended || not more)
  pub abandoned : q.is_abandoned ≡ r.is_abandoned
  pub abandons : q.abandons ≡ r.abandons

-- A unit's number is in the range of a fragment's units exactly if its first byte is in the fragment.
units_in : (first next : ℕ) (more : Bool) (bytes : List ℕ) (i : ℕ) → next ≡ (8 * first + length bytes) / 8 + min 1 ((8 * first + length bytes) % 8) → (leb first i && ltb i next) ≡ is_in (fragment_at first more bytes) (8 * i)
units_in first next more bytes i n = elim (cases_Bool (is_in (fragment_at first more bytes) (8 * i))) [
  | inl inside ↦ let b = in_bounds (fragment_at first more bytes) (8 * i) inside in
      and_from (leb first i) (ltb i next) (le-leb first i (omega (arith, b.0))) (lt-ltb i next (omega (arith, b.1, n))) ∙ sym inside
  | inr outside ↦ elim (out_of_bounds (fragment_at first more bytes) (8 * i) outside) [
    | inl low ↦ and_left (leb first i) (ltb i next) (lt-leb first i (omega (arith, low))) ∙ sym outside
    | inr high ↦ and_right (leb first i) (ltb i next) (le-ltb i next (omega (arith, high, n))) ∙ sym outside
  ]
]

-- The units of a fragment that overlaps no other are free.
pub free_by : (r : Fields) (s : Received) (first next : ℕ) (more : Bool) (bytes : List ℕ) → AreReceived r s → IsNew s (fragment_at first more bytes) → next ≡ (8 * first + length bytes) / 8 + min 1 ((8 * first + length bytes) % 8) → (i : ℕ) → first ≤ i → i < next → mark_by r.run r.marks i ≡ 0
free_by r s first next more bytes h new n i low high = h.marks i ∙ unmarked s.fragments (fragment_at first more bytes) i new.apart (omega (arith, low)) (omega (arith, high, n))

stored_marks : (r q : Fields) (s : Received) (first next : ℕ) (more : Bool) (bytes : List ℕ) (i : ℕ) → AreReceived r s → IsStored r q first next more bytes → mark_by q.run q.marks i ≡ mark_at (fragment_at first more bytes ∷ s.fragments) i
stored_marks r q s first next more bytes i h k =
    let f : Fragment = fragment_at first more bytes in
    k.marks i ∙ elim (cases_Bool (is_in f (8 * i))) [
      | inl inside ↦ cond-true (leb first i && ltb i next) (cond (eqb i first) (first_mark more) 3) (mark_by r.run r.marks i) (units_in first next more bytes i k.next_unit ∙ inside)
          ∙ (elim (cases_eq i first) [
            | inl e ↦ cond-true (eqb i first) (first_mark more) 3 (eq-eqb i first e) ∙ sym (first_mark_in f i (omega (arith, e)))
            | inr other ↦ cond-false (eqb i first) (first_mark more) 3 (ne_eqb i first other) ∙ sym (later_mark_in f i (λ e. other (omega (arith, e))))
          ]
          ∙ sym (mark_at_in f s.fragments i inside))
      | inr outside ↦ cond-false (leb first i && ltb i next) (cond (eqb i first) (first_mark more) 3) (mark_by r.run r.marks i) (units_in first next more bytes i k.next_unit ∙ outside)
          ∙ (h.marks i ∙ sym (mark_at_out f s.fragments i outside))
    ]

stored_bytes : (r q : Fields) (s : Received) (first next : ℕ) (more : Bool) (bytes : List ℕ) (i byte : ℕ) → AreReceived r s → IsStored r q first next more bytes → byte_at (fragment_at first more bytes ∷ s.fragments) i ≡ Some byte → get_or q.buffer i 0 ≡ byte
stored_bytes r q s first next more bytes i byte h k e =
    let f : Fragment = fragment_at first more bytes in
    k.buffer i ∙ elim (cases_Bool (is_in f i)) [
      | inl inside ↦ cond-true (is_in f i) (get_or bytes (i - 8 * first) 0) (get_or r.buffer i 0) inside
          ∙ same_Some (get_or bytes (i - 8 * first) 0) byte (sym (own_byte f i inside) ∙ (sym (byte_at_in f s.fragments i inside) ∙ e))
      | inr outside ↦ cond-false (is_in f i) (get_or bytes (i - 8 * first) 0) (get_or r.buffer i 0) outside
          ∙ h.bytes i byte (sym (byte_at_out f s.fragments i outside) ∙ e)
    ]

stored : (r q : Fields) (s : Received) (first next : ℕ) (more : Bool) (bytes : List ℕ) → AreReceived r s → IsNew s (fragment_at first more bytes) → IsStored r q first next more bytes → AreReceived q (record s { fragments = fragment_at first more bytes ∷ s.fragments })
stored r q s first next more bytes h n k =
    let f : Fragment = fragment_at first more bytes in
    let consistent : AreConsistent s.limit (f ∷ s.fragments) = (n.sound, n.apart, n.one_end, h.consistent) in
    record {
      limit = omega (arith, h.limit, k.room);
      abandons = k.abandons ∙ h.abandons;
      abandoned = k.abandoned ∙ h.abandoned;
      consistent = consistent;
      marks = λ i. stored_marks r q s first next more bytes i h k;
      unused = k.unused;
      bytes = λ i byte. stored_bytes r q s first next more bytes i byte h k;
      reach = omega (arith, k.reach, h.reach);
      ended = k.ended ∙ (ap (λ b. b || not more) h.ended ∙ or_comm (is_ended s.fragments) (not more));
      count = let fits : r.count + length bytes ≤ 65535 = omega (arith, h.count, h.limit, count_most s.limit (f ∷ s.fragments) consistent, reach_most s.limit (f ∷ s.fragments) consistent) in
          omega (arith, k.count fits, h.count);
    }

or_left_false : (x y : Bool) → x ≡ false → (x || y) ≡ y
or_left_false true y e = absurd (both_ways true e refl)
or_left_false false y e = refl

-- A fragment without bytes that is there already adds nothing.
stored_again : (q : Fields) (s : Received) (f : Fragment) → AreReceived q (record s { fragments = f ∷ s.fragments }) → length f.bytes ≡ 0 → list_any (is_same f) s.fragments ≡ true → AreReceived q s
stored_again q s f h none among =
    let nowhere : (i : ℕ) → is_in f i ≡ false = (λ i. false_from_ne_true (is_in f i) (λ e. let b = in_bounds f i e in omega (arith, b.0, b.1, none))) in
    record {
      limit = h.limit;
      abandons = h.abandons;
      abandoned = h.abandoned;
      consistent = h.consistent.3;
      marks = λ i. h.marks i ∙ mark_at_out f s.fragments i (nowhere (8 * i));
      unused = h.unused;
      bytes = λ i byte e. h.bytes i byte (byte_at_out f s.fragments i (nowhere i) ∙ e);
      reach = omega (arith, h.reach, member_within s.fragments f among);
      ended = h.ended ∙ elim (cases_Bool f.more) [
        | inl follow ↦ or_left_false (not f.more) (is_ended s.fragments) (not_from_true f.more follow)
        | inr last ↦ or_right (not f.more) (is_ended s.fragments) (member_ended s.fragments f among last) ∙ sym (member_ended s.fragments f among last)
      ];
      count = omega (arith, h.count, none);
    }

pub kept : (r q : Fields) (s : Received) (first next : ℕ) (more : Bool) (bytes : List ℕ) → AreReceived r s → IsNew s (fragment_at first more bytes) → IsStored r q first next more bytes → AreReceived q (record s { fragments = with_fragment s.fragments (fragment_at first more bytes) })
kept r q s first next more bytes h n k =
    let f : Fragment = fragment_at first more bytes in
    let after : AreReceived q (record s { fragments = f ∷ s.fragments }) = stored r q s first next more bytes h n k in
    elim (cases_Bool (list_any (is_same f) s.fragments)) [
      | inr other ↦ subst (λ (fs : List Fragment). AreReceived q (record s { fragments = fs })) (sym (cond-false (list_any (is_same f) s.fragments) s.fragments (f ∷ s.fragments) other)) after
      | inl same ↦ subst (λ (fs : List Fragment). AreReceived q (record s { fragments = fs })) (sym (cond-true (list_any (is_same f) s.fragments) s.fragments (f ∷ s.fragments) same))
          (stored_again q s f after (elim (cases_eq (length bytes) 0) [
            | inl none ↦ none
            | inr some ↦ absurd (both_ways (list_any (overlaps f) s.fragments) n.apart (same_overlaps s.fragments f same (omega (arith, some))))
          ]) same)
    ]

-- The outcome of a fragment, and what has been received after it, case by case.
pub outcome_abandoned : (s : Received) (f : Fragment) → s.abandoned ≡ true → (outcome_of s f ≡ Err Abandoned) × (received_after s f ≡ s)
unfolding outcome_of received_after
outcome_abandoned s f a = (cond-true s.abandoned _ _ a, cond-true s.abandoned _ _ a)

pub outcome_refused : (s : Received) (f : Fragment) (e : AddError) → s.abandoned ≡ false → refusal s.limit s.fragments f ≡ Some e → (outcome_of s f ≡ Err e) × (received_after s f ≡ record s { abandoned = s.abandons && is_conflict e })
unfolding outcome_of received_after
outcome_refused s f e a r = (cond-false s.abandoned _ _ a ∙ ap (outcome_by s.fragments f) r, cond-false s.abandoned _ _ a ∙ ap (received_by s f) r)

pub outcome_accepted : (s : Received) (f : Fragment) → s.abandoned ≡ false → refusal s.limit s.fragments f ≡ None → (outcome_of s f ≡ Ok (progress_of (with_fragment s.fragments f))) × (received_after s f ≡ record s { fragments = with_fragment s.fragments f })
unfolding outcome_of received_after
outcome_accepted s f a r = (cond-false s.abandoned _ _ a ∙ ap (outcome_by s.fragments f) r, cond-false s.abandoned _ _ a ∙ ap (received_by s f) r)

-- A fragment that is there changes nothing.
pub with_same : (fs : List Fragment) (f : Fragment) → list_any (is_same f) fs ≡ true → with_fragment fs f ≡ fs
with_same fs f same = cond-true (list_any (is_same f) fs) fs (f ∷ fs) same

-- Two negations.
pub not_not : (x : Bool) → not (not x) ≡ x
not_not true = refl
not_not false = refl

-- Nothing has been received.
pub has_nothing : (r : Fields) (abandons : Bool) → ((i : ℕ) → mark_of r.marks i ≡ 0) → run_end r.run ≡ 0 → r.reach ≡ 0 → r.count ≡ 0 → r.is_ended ≡ false → r.is_abandoned ≡ false → r.abandons ≡ abandons → AreReceived r (received_none (min (length r.buffer) 65535) abandons)
has_nothing r abandons marks run reach count ended abandoned same = record {
  limit = refl;
  abandons = same;
  abandoned = abandoned;
  consistent = tt;
  marks = λ i. cond-false (ltb i (run_end r.run)) (run_mark r.run i) (mark_of r.marks i) (le-ltb i (run_end r.run) (omega (arith, run))) ∙ marks i;
  unused = λ i less. absurd (let h : ⊥ = omega (arith, less, run) in h);
  bytes = λ i byte e. absurd (none-some byte e);
  reach = reach;
  ended = ended;
  count = count;
}

zeros : (n i : ℕ) → ◌≡◌ {A = ℕ} (get_or (replicate n 0) i 0) 0
zeros n i = elim (cases_lt i n) [
  | inl below ↦ get_or-replicate n i 0 0 below
  | inr past ↦ get_or_past (replicate n 0) i 0 (omega (arith, length-replicate n (let zero : ℕ = 0 in zero), past))
]

-- Bytes of 0 have no marks.
pub no_marks : (n i : ℕ) → mark_of (replicate n 0) i ≡ 0
no_marks n i = ap (λ (b : ℕ). b / 2 ^ (2 * (i % 4)) % 4) (zeros n (i / 4)) ∙ ap (λ (b : ℕ). b % 4) (zero-div (2 ^ (2 * (i % 4))))

-- Zeros of an array, and their marks.
pub zeros_are : (n : ℕ) → AreZeros n (replicate n 0)
zeros_are n = (length-replicate n (let zero : ℕ = 0 in zero), λ k d less. get_or-replicate n k 0 d (omega (arith, length-replicate n (let zero : ℕ = 0 in zero), less)))

marks_of_zeros : (n : ℕ) (bytes : List ℕ) (i : ℕ) → AreZeros n bytes → mark_of bytes i ≡ 0
marks_of_zeros n bytes i zero =
    let byte : get_or bytes (i / 4) 0 ≡ 0 = elim (cases_lt (i / 4) (length bytes)) [
      | inl below ↦ zero.1 (i / 4) 0 below
      | inr past ↦ get_or_past bytes (i / 4) 0 past
    ] in
    ap (λ (b : ℕ). b / 2 ^ (2 * (i % 4)) % 4) byte ∙ ap (λ (b : ℕ). b % 4) (zero-div (2 ^ (2 * (i % 4))))

-- Nothing has arrived in a state of zeros.
pub zero_is_new : (r : ReassemblyState) (b : List ℕ) → IsZero r → HasArrived r b (received_none (min (length b) 65535) true)
zero_is_new r b zero =
    let none : r.run.units * r.run.count ≡ 0 = (let e : r.run.units * r.run.count ≡ 0 * r.run.count = ap (λ (n : ℕ). n * r.run.count) zero.units in omega (arith, e)) in
    has_nothing (state_fields r b) true (λ i. marks_of_zeros 2048 r.marks i zero.marks) none zero.reach zero.count (ap is_set zero.ended) (ap is_set zero.abandoned) (ap (λ (n : ℕ). not (is_set n)) zero.kept)

-- The state of the fields says whether the payload is whole.
pub whole_is : (r : Fields) (s : Received) → AreReceived r s → (r.is_ended && eqb r.count r.reach) ≡ is_some (payload_of s.fragments)
whole_is r s h = elim (cases_Bool (r.is_ended && eqb r.count r.reach)) [
  | inl whole ↦ let parts = and_parts r.is_ended (eqb r.count r.reach) whole in
      whole ∙ sym (ap is_some (whole_in_buffer r s h parts.0 (eqb-true r.count r.reach parts.1)).1)
  | inr less ↦ less ∙ sym (ap is_some (not_whole r s h (λ ended all. both_ways (r.is_ended && eqb r.count r.reach) less (and_from r.is_ended (eqb r.count r.reach) ended (eq-eqb r.count r.reach all)))))
]

-- No payload is there unless the fields say so.
pub no_payload : (r : Fields) (s : Received) → AreReceived r s → (r.is_ended && eqb r.count r.reach) ≡ false → payload_of s.fragments ≡ None
no_payload r s h less = not_whole r s h (λ ended all. both_ways (r.is_ended && eqb r.count r.reach) less (and_from r.is_ended (eqb r.count r.reach) ended (eq-eqb r.count r.reach all)))

-- The verdicts of the tests.
pub tested_overlap : (r : Fields) (s : Received) (first next : ℕ) (more : Bool) (bytes : List ℕ) → AreReceived r s → IsSound s.limit (fragment_at first more bytes) → next ≡ (8 * first + length bytes) / 8 + min 1 ((8 * first + length bytes) % 8) → (((i : ℕ) → first ≤ i → i < next → mark_by r.run r.marks i ≡ 0) → ⊥) → (IsSound s.limit (fragment_at first more bytes) → list_any (is_same (fragment_at first more bytes)) s.fragments ≡ false) → refusal s.limit s.fragments (fragment_at first more bytes) ≡ Some Overlap
tested_overlap r s first next more bytes h sound n occupied other =
    refused_overlap s.limit s.fragments (fragment_at first more bytes) sound.aligned sound.within (other sound) (occupied_units r s first next more bytes h n occupied)

-- The test of the ends by the fields.
ends_by_fields : (r : Fields) (s : Received) (f : Fragment) (b : Bool) → AreReceived r s → ((r.is_ended && ltb r.reach (end_of f)) || (not f.more && ltb (end_of f) r.reach)) ≡ b → ends_elsewhere s.fragments f ≡ b
ends_by_fields r s f b h e =
    subst (λ (m : ℕ). ((is_ended s.fragments && ltb m (end_of f)) || (not f.more && ltb (end_of f) m)) ≡ b) h.reach
    (subst (λ (l : Bool). ((l && ltb r.reach (end_of f)) || (not f.more && ltb (end_of f) r.reach)) ≡ b) h.ended e)

pub tested_two_ends : (r : Fields) (s : Received) (first next : ℕ) (more : Bool) (bytes : List ℕ) → AreReceived r s → IsSound s.limit (fragment_at first more bytes) → next ≡ (8 * first + length bytes) / 8 + min 1 ((8 * first + length bytes) % 8) → ((i : ℕ) → first ≤ i → i < next → mark_by r.run r.marks i ≡ 0) → ((r.is_ended && ltb r.reach (8 * first + length bytes)) || (not more && ltb (8 * first + length bytes) r.reach)) ≡ true → refusal s.limit s.fragments (fragment_at first more bytes) ≡ Some TwoEnds
tested_two_ends r s first next more bytes h sound n free ends =
    let f : Fragment = fragment_at first more bytes in
    let two : list_any (has_two_ends f) s.fragments ≡ true = two_ends_from s.fragments f (ends_by_fields r s f true h ends) in
    refused_two_ends s.limit s.fragments f sound.aligned sound.within
    (false_from_ne_true (list_any (is_same f) s.fragments) (λ same. both_ways (list_any (has_two_ends f) s.fragments) (member_one_end s.limit s.fragments f h.consistent same) two))
    (free_units r s first next more bytes h n free) two

pub tested_new : (r : Fields) (s : Received) (first next : ℕ) (more : Bool) (bytes : List ℕ) → AreReceived r s → IsSound s.limit (fragment_at first more bytes) → next ≡ (8 * first + length bytes) / 8 + min 1 ((8 * first + length bytes) % 8) → ((i : ℕ) → first ≤ i → i < next → mark_by r.run r.marks i ≡ 0) → ((r.is_ended && ltb r.reach (8 * first + length bytes)) || (not more && ltb (8 * first + length bytes) r.reach)) ≡ false → IsNew s (fragment_at first more bytes)
tested_new r s first next more bytes h sound n free ends =
    let f : Fragment = fragment_at first more bytes in
    record {
      sound = sound;
      apart = free_units r s first next more bytes h n free;
      one_end = one_end_from s.limit s.fragments f h.consistent (ends_by_fields r s f false h ends);
    }

pub and_is_right : (x y : Bool) → x ≡ true → (x && y) ≡ y
and_is_right true y e = refl
and_is_right false y e = absurd (both_ways false refl e)

-- A reassembly that differs only in whether the packet was abandoned.
pub received_refused : (r : Fields) (s : Received) (a b : Bool) → a ≡ b → AreReceived r s → AreReceived (record r { is_abandoned = a }) (record s { abandoned = b })
received_refused r s a b e h = record {
  limit = h.limit;
  abandons = h.abandons;
  abandoned = e;
  consistent = h.consistent;
  marks = h.marks;
  unused = h.unused;
  bytes = h.bytes;
  reach = h.reach;
  ended = h.ended;
  count = h.count;
}

-- Where all fragments are in the run, no unit has a mark in the bytes.
pub run_alone : (r : Fields) (s : Received) (i : ℕ) → AreReceived r s → r.reach / 8 + min 1 (r.reach % 8) ≤ run_end r.run → mark_of r.marks i ≡ 0
run_alone r s i h alone = elim (cases_lt i (run_end r.run)) [
  | inl below ↦ h.unused i below
  | inr past ↦ sym (cond-false (ltb i (run_end r.run)) (run_mark r.run i) (mark_of r.marks i) (le-ltb i (run_end r.run) past)) ∙ (h.marks i ∙ unmarked_after s.fragments i (omega (arith, past, alone, h.reach)))
]

-- After the marks of the bytes between the run and the largest end were removed, no unit has one.
pub removed : (r : Fields) (s : Received) (start end i m : ℕ) → AreReceived r s → end ≡ min (r.reach / 32 + min 1 (r.reach % 32)) 2048 → start ≡ min (run_end r.run / 4) end → m ≡ cond (leb (4 * start) i && ltb i (4 * end)) 0 (mark_of r.marks i) → m ≡ 0
removed r s start end i m h last first is = is ∙ elim (cases_Bool (leb (4 * start) i && ltb i (4 * end))) [
  | inl inside ↦ cond-true (leb (4 * start) i && ltb i (4 * end)) 0 (mark_of r.marks i) inside
  | inr outside ↦ cond-false (leb (4 * start) i && ltb i (4 * end)) 0 (mark_of r.marks i) outside ∙ elim (cases_lt i (run_end r.run)) [
    | inl below ↦ h.unused i below
    | inr past ↦ elim (cases_lt i (4 * end)) [
      | inl before ↦ absurd (both_ways (leb (4 * start) i && ltb i (4 * end)) outside (and_from (leb (4 * start) i) (ltb i (4 * end)) (le-leb (4 * start) i (omega (arith, first, past))) (lt-ltb i (4 * end) before)))
      | inr after ↦ sym (cond-false (ltb i (run_end r.run)) (run_mark r.run i) (mark_of r.marks i) (le-ltb i (run_end r.run) past))
          ∙ (h.marks i ∙ unmarked_after s.fragments i (omega (arith, after, last, h.reach, h.limit, reach_most s.limit s.fragments h.consistent)))
    ]
  ]
]

-- Nothing has been received after the marks were removed.
pub received_cleared : (r q : Fields) (s : Received) → AreReceived r s → ((i : ℕ) → mark_of q.marks i ≡ 0) → run_end q.run ≡ 0 → q.buffer ≡ r.buffer → q.reach ≡ 0 → q.count ≡ 0 → q.is_ended ≡ false → q.is_abandoned ≡ false → q.abandons ≡ r.abandons → AreReceived q (received_none s.limit s.abandons)
received_cleared r q s h marks run buffer reach count ended abandoned abandons =
    subst (λ (n : ℕ). AreReceived q (received_none n s.abandons)) (ap (λ (b : List ℕ). min (length b) 65535) buffer ∙ sym h.limit)
    (has_nothing q s.abandons marks run reach count ended abandoned (abandons ∙ h.abandons))
