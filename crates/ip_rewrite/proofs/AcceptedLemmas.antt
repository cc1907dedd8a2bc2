-- The header that was inserted into a packet can be left out again.
use Rattle.ip_spec.proofs.Common.{zero, suc, ◌≡◌, ℕ, ◌+◌, ◌≤◌, ◌<◌, List, [], ◌∷◌, length, take, inl, inr, refl, sym, ◌∙◌, ap, arith, common_steps, Bool, true, false, false≢true, cases_Bool, cond-true, cond-false, subst, option_or, eqb-true, eq-eqb, ne_eqb, if◌then◌else◌, or-false, or_assoc, ◌&&◌, ◌||◌, ◌==◌, not, nat_lt, list_any, slice_set, slice_index, get_or-set_other, Option, None, Some, is_some, is_empty, ExtHeader, bytes_of}
use Rattle.ip_dissect.specs.Fragment.{fragments, ipv6_fragment}
use Rattle.ip_dissect.specs.declared.fragment.Fragment.{Fragment}
use Rattle.ip_dissect.specs.Dissection.{DissectedParts, dissected}
use Rattle.ip_dissect.specs.Summary.{is_later_end}
use Rattle.ip_rewrite.specs.Headers.{number_of_first, leading_to, linked_headers, is_options}
use Rattle.ip_rewrite.specs.Base.{length_field}
use Rattle.ip_rewrite.specs.Jumbogram.{following_len, is_unstated, jumbo_offset, is_jumbogram, stating_at}
use Rattle.ip_rewrite.specs.Rewritten.{rewritten_len, rewritten_field, rewritten_parts, unstated_fault, jumbo_fault, room_fault}
use Rattle.ip_rewrite.specs.Selection.{selects_first, any_selected, selects_fragmented}
use Rattle.ip_rewrite.specs.Without.{is_authentication, has_authentication, selects_covered, packet_fault, is_ipv4_fragment, may_be_invalid, selection_fault, without_fault}
use Rattle.ip_rewrite.specs.Insertion.{inserted, is_header, is_misplaced, header_fault, insertion_fault}
use Rattle.ip_rewrite.specs.Writing.{HasOption}
use Rattle.ip_rewrite.specs.declared.err.RewriteError.{RewriteError}
use Rattle.ip_rewrite.specs.declared.err.RewriteError.TheVariants.{NoLength, NotAJumbogram, TooLong, NoRoom}
use Rattle.ip_rewrite.specs.declared.which.Which.TheVariants.{Index}
use Rattle.ip_rewrite.specs.declared.which.Authentication.{Authentication}
use Rattle.ip_rewrite.proofs.DissectLemmas.{none_first, IsWholeChain}
use Rattle.ip_rewrite.proofs.InsertionLemmas.{inserted_len, index_within}
use Rattle.ip_rewrite.proofs.StatingLemmas.{any_stating}
use Rattle.ip_rewrite.proofs.JumbogramLemmas.{has_option, IsJumbogram, jumbogram_is}
use Rattle.ip_rewrite.proofs.RestoringLemmas.{Alike, new, left, old, longer, headers_are, inside, alike, size, base_size, field, IsInsertable, must_state, known}

-- what linking leaves unchanged
fragments_leading : (h : ExtHeader) (m : ℕ) → fragments (leading_to m h) ≡ fragments h
fragments_leading h m =
    let high : slice_index (slice_set h.bytes 0 m) 2 ≡ slice_index h.bytes 2 = get_or-set_other h.bytes 0 2 m 0 (λ e. cc) in
    let low : slice_index (slice_set h.bytes 0 m) 3 ≡ slice_index h.bytes 3 = get_or-set_other h.bytes 0 3 m 0 (λ e. cc) in
    rw (high, low) refl

any_linked : (t : ExtHeader → Bool) (i j m : ℕ) (c : List ExtHeader) → ((h : ExtHeader) (n : ℕ) → t (leading_to n h) ≡ t h) → any_selected t (Index i) j (linked_headers m c) ≡ any_selected t (Index i) j c
any_linked t i j m [] f = refl
any_linked t i j m (h ∷ c) f =
    ap (λ b. (j == i) && b || any_selected t (Index i) (j + 1) (linked_headers m c)) (f h (number_of_first c m)) ∙ ap (λ b. (j == i) && t h || b) (any_linked t i (j + 1) m c f)

fragmented_linked : (i j m : ℕ) (after : Bool) (c : List ExtHeader) → selects_fragmented (Index i) j after (linked_headers m c) ≡ selects_fragmented (Index i) j after c
fragmented_linked i j m after [] = refl
fragmented_linked i j m after (h ∷ c) =
    ap (λ b. after && (j == i) || selects_fragmented (Index i) (j + 1) (after || b) (linked_headers m c)) (fragments_leading h (number_of_first c m))
    ∙ ap (λ b. after && (j == i) || b) (fragmented_linked i (j + 1) m (after || fragments h) c)

-- Of the headers with one more at an index, that one is selected.
none_later : (t : ExtHeader → Bool) (i j : ℕ) (c : List ExtHeader) → i < j → any_selected t (Index i) j c ≡ false
none_later t i j [] less = refl
none_later t i j (h ∷ c) less = rw (ne_eqb j i (λ e. omega (arith, e, less)), none_later t i (j + 1) c (omega (arith, less))) refl

any_at : (t : ExtHeader → Bool) (i j n : ℕ) (h : ExtHeader) (c : List ExtHeader) → i ≡ j + n → n ≤ length c → any_selected t (Index i) j (inserted n h c) ≡ t h
any_at t i j zero h c at within =
    ap (λ b. b && t h || any_selected t (Index i) (j + 1) c) (eq-eqb j i (omega (arith, at))) ∙ (ap (λ b. t h || b) (none_later t i (j + 1) c (omega (arith, at))) ∙ or-false (t h))
any_at t i j (suc n) h [] at within = absurd (omega (arith, within))
any_at t i j (suc n) h (g ∷ c) at within =
    ap (λ b. b && t g || any_selected t (Index i) (j + 1) (inserted n h c)) (ne_eqb j i (λ e. omega (arith, e, at))) ∙ any_at t i (j + 1) n h c (omega (arith, at)) (omega (arith, within))

none_fragmented : (i j : ℕ) (after : Bool) (c : List ExtHeader) → i < j → selects_fragmented (Index i) j after c ≡ false
none_fragmented i j after [] less = refl
none_fragmented i j after (h ∷ c) less =
    ap (λ b. after && b || selects_fragmented (Index i) (j + 1) (after || fragments h) c) (ne_eqb j i (λ e. omega (arith, e, less)))
    ∙ (ap (λ b. after && false || b) (none_fragmented i (j + 1) (after || fragments h) c (omega (arith, less))) ∙ neither after)
  where
    neither : (b : Bool) → (b && false || false) ≡ false
    neither true = refl
    neither false = refl

fragmented_at : (i j n : ℕ) (after : Bool) (h : ExtHeader) (c : List ExtHeader) → i ≡ j + n → n ≤ length c → selects_fragmented (Index i) j after (inserted n h c) ≡ (after || list_any fragments (take n c))
fragmented_at i j zero after h c at within =
    ap (λ b. after && b || selects_fragmented (Index i) (j + 1) (after || fragments h) c) (eq-eqb j i (omega (arith, at)))
    ∙ (ap (λ b. after && true || b) (none_fragmented i (j + 1) (after || fragments h) c (omega (arith, at))) ∙ only after)
  where
    only : (b : Bool) → (b && true || false) ≡ (b || false)
    only true = refl
    only false = refl
fragmented_at i j (suc n) after h [] at within = absurd (omega (arith, within))
fragmented_at i j (suc n) after h (g ∷ c) at within =
    ap (λ b. after && b || selects_fragmented (Index i) (j + 1) (after || fragments g) (inserted n h c)) (ne_eqb j i (λ e. omega (arith, e, at)))
    ∙ (ap (λ b. after && false || b) (fragmented_at i (j + 1) n (after || fragments g) h c (omega (arith, at)) (omega (arith, within)))
    ∙ (dropped after ((after || fragments g) || list_any fragments (take n c)) ∙ or_assoc after (fragments g) (list_any fragments (take n c))))
  where
    dropped : (a b : Bool) → (a && false || b) ≡ b
    dropped true b = refl
    dropped false b = refl

-- what is known of the header and the packet
record IsAllowed (a : Authentication) (i : ℕ) (h : ExtHeader) (p : DissectedParts) : Type 0 where
  alone : fragments h ≡ false
  before : list_any fragments (take i p.headers) ≡ false
  whole : is_ipv4_fragment p ≡ false
  authentication : (has_authentication p p.headers && not (may_be_invalid a)) ≡ false
  misplaced : is_misplaced i h p ≡ false

tests_off : (x f m w b t : Bool) (k l n q r : RewriteError) → (let o : Option RewriteError = if x then Some k else if f then Some l else if m then Some n else if w || b then Some q else if t then Some r else None in o) ≡ None
    → (f ≡ false) × (m ≡ false) × (w ≡ false) × (b ≡ false) × (t ≡ false)
tests_off true f m w b t k l n q r e = absurd (cc)
tests_off false true m w b t k l n q r e = absurd (cc)
tests_off false false true w b t k l n q r e = absurd (cc)
tests_off false false false true b t k l n q r e = absurd (cc)
tests_off false false false false true t k l n q r e = absurd (cc)
tests_off false false false false false true k l n q r e = absurd (cc)
tests_off false false false false false false k l n q r e = (refl, refl, refl, refl, refl)

allowed : (a : Authentication) (i : ℕ) (h : ExtHeader) (p : DissectedParts) → header_fault a i h p ≡ None → IsAllowed a i h p
allowed a i h p e =
    let off = tests_off (not (is_header h.number h.bytes) || (p.version == 4) && not (is_authentication h)) (fragments h) (is_misplaced i h p) (is_ipv4_fragment p) (list_any fragments (take i p.headers)) (has_authentication p p.headers && not (may_be_invalid a)) _ _ _ _ _ e in
    record { alone = off.0; misplaced = off.1; whole = off.2; before = off.3; authentication = off.4 }

no_fault : (x y z u v : Bool) (a b c d e : Option RewriteError) → x ≡ true → y ≡ false → z ≡ false → u ≡ false → v ≡ false
    → (if not x then a else if y then b else if z then c else if u then d else if v then e else None) ≡ None
no_fault x y z u v a b c d e p q r s t = rw (p, q, r, s, t) refl

still_whole : (b : Bool) (x y : Option Fragment) → (b && is_some x) ≡ false → (b && is_some (if b then x else y)) ≡ false
still_whole true x y e = e
still_whole false x y e = refl

alike_authentication : (c d : List ExtHeader) → Alike c d → list_any is_authentication c ≡ list_any is_authentication d
alike_authentication [] [] a = refl
alike_authentication [] (h ∷ d) a = absurd a
alike_authentication (g ∷ c) [] a = absurd a
alike_authentication (g ∷ c) (h ∷ d) a = ap (λ n. (n == 51) || list_any is_authentication c) a.0 ∙ ap (λ b. is_authentication h || b) (alike_authentication c d a.2)

empty_four : (a : Bool) (v : ℕ) (empty b : Bool) → (a || (v == 4) && not empty || b) ≡ false → v ≡ 4 → empty ≡ true
empty_four a v empty b e four = grind (arith, common_steps)

no_headers : (c : List ExtHeader) → is_empty c ≡ true → 1 ≤ length c → ⊥
no_headers [] e some = omega (arith, some)
no_headers (h ∷ c) e some = false≢true e

-- less fits where more does
field_less : (v : ℕ) (u : Bool) (b : List ℕ) (n k : ℕ) → n ≤ k → length_field v u b n ≤ length_field v u b k
field_less v true b n k less = omega arith
field_less v false b n k less = elim (cases_Bool (v == 4)) [
  | inl s ↦ rw s (omega (arith, less))
  | inr s ↦ rw s less
]

room_less : (f g k l room : ℕ) → f ≤ g → k ≤ l → (let o : Option RewriteError = if nat_lt 65535 g then Some TooLong else if nat_lt room l then Some NoRoom else None in o) ≡ None
    → (if nat_lt 65535 f then Some TooLong else if nat_lt room k then Some NoRoom else None) ≡ None
room_less f g k l room less shorter e = grind (arith, common_steps)

-- the length of a jumbogram, restored
no_unstated : (jumbo same long fits : Bool) → jumbo ≡ true → long ≡ true → fits ≡ true → (let o : Option RewriteError = if not jumbo then (if same then None else Some NoLength) else if not long then Some NotAJumbogram else if not fits then Some TooLong else None in o) ≡ None
no_unstated jumbo same long fits is p q = rw (is, p, q) refl

neither_fault : (a b : Option RewriteError) → a ≡ None → b ≡ None → option_or a b ≡ None
neither_fault a b p q = rw (p, q) refl

-- the first header of a jumbogram isn't the new one
later_index : (i k : ℕ) (c : List ExtHeader) → HasOption (Some k) c → (i ≡ 0 → list_any is_options (take 1 c) ≡ false) → (0 == i) ≡ false
later_index i k [] a first = absurd a
later_index i k (g ∷ c) a first = ne_eqb 0 i (λ z. false≢true (sym (first (sym z)) ∙ (or-false (is_options g) ∙ a.0)))

not_first : (i : ℕ) (c : List ExtHeader) → (0 == i) ≡ false → selects_first (Index i) c ≡ false
not_first i [] e = refl
not_first i (h ∷ c) e = e

no_jumbo_fault : (b : Bool) (p : DissectedParts) → is_some (jumbo_offset p) ≡ false → jumbo_fault b p ≡ None
no_jumbo_fault true p e = rw e refl
no_jumbo_fault false p e = refl

-- the headers before an index
before_stating : (o : Option ℕ) (n i : ℕ) (c : List ExtHeader) → HasOption o c → list_any fragments (take i (stating_at o n c)) ≡ list_any fragments (take i c)
before_stating None n i c a = refl
before_stating (Some k) n i [] a = refl
before_stating (Some k) n zero (h ∷ c) a = refl
before_stating (Some k) n (suc i) (h ∷ c) a = rw (eqb-true h.number 0 a.0) refl

module _ (a : Authentication) (i : ℕ) (h : ExtHeader) (room : ℕ) (p : DissectedParts) (chain : IsWholeChain p) (within : i ≤ length p.headers) (y : IsInsertable a i h p room) (states : is_unstated (new i h p chain within y.first) ≡ is_unstated p)
    (jumbo : jumbo_offset (new i h p chain within y.first) ≡ jumbo_offset p) where
  abbrev changed : DissectedParts
  changed = new i h p chain within y.first

  abbrev rest : List ExtHeader
  rest = left i h p chain within y.first

  abbrev before : List ExtHeader
  before = old i h p chain within y.first

  abbrev joined : List ExtHeader
  joined = linked_headers p.number (inserted i h before)

  headers : changed.headers ≡ joined
  headers = headers_are i h p chain within y.first

  inner : i ≤ length before
  inner = inside i h p chain within y.first

  some : any_selected (λ g. true) (Index i) 0 changed.headers ≡ true
  some = ap (any_selected (λ g. true) (Index i) 0) headers ∙ (any_linked (λ g. true) i 0 p.number (inserted i h before) (λ g n. refl) ∙ any_at (λ g. true) i 0 i h before (omega arith) inner)

  module _ (x : IsAllowed a i h p) where
    alone : any_selected fragments (Index i) 0 changed.headers ≡ false
    alone = ap (any_selected fragments (Index i) 0) headers ∙ (any_linked fragments i 0 p.number (inserted i h before) fragments_leading ∙ (any_at fragments i 0 i h before (omega arith) inner ∙ x.alone))

    unfragmented : (is_ipv4_fragment changed || selects_fragmented (Index i) 0 false changed.headers) ≡ false
    unfragmented =
        ap (λ b. b || selects_fragmented (Index i) 0 false changed.headers) (still_whole (p.version == 4) p.fragment (ipv6_fragment changed.headers) x.whole)
        ∙ (ap (selects_fragmented (Index i) 0 false) headers
        ∙ (fragmented_linked i 0 p.number false (inserted i h before) ∙ (fragmented_at i 0 i false h before (omega arith) inner
        ∙ (before_stating (jumbo_offset p) (longer i h p chain within y.first) i p.headers (has_option p) ∙ x.before))))

    authentication : (has_authentication changed rest && selects_covered (Index i) 0 false changed.headers && not (may_be_invalid a)) ≡ false
    authentication =
        without_middle (has_authentication changed rest) (selects_covered (Index i) 0 false changed.headers) (not (may_be_invalid a))
        (ap (λ b. (b || is_later_end p.end && (p.number == 51)) && not (may_be_invalid a))
        (alike_authentication rest before (alike i h p chain within y.first) ∙ any_stating is_authentication (jumbo_offset p) (longer i h p chain within y.first) p.headers (λ _ _. refl)) ∙ x.authentication)
      where
        without_middle : (b d e : Bool) → (b && e) ≡ false → (b && d && e) ≡ false
        without_middle true true e off = off
        without_middle true false e off = refl
        without_middle false d e off = refl

    other : ((p.version == 4) && (p.number == 51)) ≡ false
    other = elim (cases_Bool ((p.version == 4) && (p.number == 51))) [
      | inl both ↦
          let four : p.version ≡ 4 = first_is p.version p.number both in
          absurd (no_headers p.headers (empty_four (nat_lt (length p.headers) i) p.version (is_empty p.headers) (if i == 0 then list_any is_options (take 1 p.headers) else is_options h) x.misplaced four) (chain.last four (second_is p.version p.number both)))
      | inr none ↦ none
    ]
      where
        first_is : (v n : ℕ) → ((v == 4) && (n == 51)) ≡ true → v ≡ 4
        first_is v n e = grind (arith, common_steps)

        second_is : (v n : ℕ) → ((v == 4) && (n == 51)) ≡ true → n ≡ 51
        second_is v n e = grind (arith, common_steps)

    selection : selection_fault (Index i) a changed ≡ None
    selection = no_fault _ _ _ _ _ _ _ _ _ _ some alone unfragmented authentication other

  still_jumbo : (o : Option ℕ) → jumbo_offset p ≡ o → jumbo_fault (selects_first (Index i) changed.headers) changed ≡ None
  still_jumbo None e = no_jumbo_fault (selects_first (Index i) changed.headers) changed (ap is_some (jumbo ∙ e))
  still_jumbo (Some k) e =
      let later : (0 == i) ≡ false = later_index i k p.headers (subst (λ o. HasOption o p.headers) e (has_option p)) y.first in
      ap (λ b. jumbo_fault b changed) (not_first i changed.headers later)

  states_again : (o : Option ℕ) → jumbo_offset p ≡ o → is_unstated p ≡ true → unstated_fault changed (length (bytes_of rest) + length p.payload) ≡ None
  states_again None e u = absurd (must_state a i h room p chain within y u (ap is_some e))
  states_again (Some k) e u =
      let n : ℕ = length (bytes_of rest) + length p.payload in
      let same : n ≡ following_len p = omega (arith, size i h p chain within y.first) in
      let j : IsJumbogram p k = jumbogram_is p k e in
      no_unstated (is_jumbogram changed) (n == following_len changed) (nat_lt 0xffff n) (nat_lt n 0x1_0000_0000) (ap is_some (jumbo ∙ e)) (ap (nat_lt 0xffff) same ∙ j.long) (ap (λ m. nat_lt m 0x1_0000_0000) same ∙ j.fits)

  room_left : room_fault changed rest p.payload room ≡ None
  room_left =
      let n : ℕ = length (bytes_of rest) + length p.payload in
      let fits = none_first (if is_unstated p then unstated_fault p (length (bytes_of (inserted i h p.headers)) + length p.payload) else None) _ y.fits in
      neither_fault (if is_unstated changed then unstated_fault changed n else None) _
      (elim (cases_Bool (is_unstated p)) [
        | inl u ↦ cond-true (is_unstated changed) (unstated_fault changed n) None (states ∙ u) ∙ states_again (jumbo_offset p) refl u
        | inr s ↦ cond-false (is_unstated changed) (unstated_fault changed n) None (states ∙ s)
      ])
      (room_less (rewritten_field changed rest p.payload) (rewritten_field p (inserted i h p.headers) p.payload) (rewritten_len changed rest p.payload) (rewritten_len p (inserted i h p.headers) p.payload) room
      (omega (arith, field i h p chain within y.first states, field_less p.version (is_unstated p) p.base (length (bytes_of p.headers) + length p.payload) (length (bytes_of (inserted i h p.headers)) + length p.payload) (omega (arith, inserted_len i p.headers h))))
      (omega (arith, size i h p chain within y.first, base_size i h p chain within y.first, inserted_len i p.headers h)) fits.1)

  pub accepted : insertion_fault a i h p room ≡ None → without_fault (Index i) a changed room ≡ None
  accepted e =
      let first = none_first (packet_fault p) _ e in
      let second = none_first (header_fault a i h p) _ first.1 in
      rw (first.0, selection (allowed a i h p second.0), still_jumbo (jumbo_offset p) refl, room_left) refl

pub accepts : (a : Authentication) (i : ℕ) (h : ExtHeader) (room : ℕ) (s : List ℕ) → insertion_fault a i h (dissected s) room ≡ None
    → without_fault (Index i) a (rewritten_parts (dissected s) (inserted i h (dissected s).headers) (dissected s).number (dissected s).payload) room ≡ None
accepts a i h room s e =
    let k = known a i h room s e in
    accepted a i h room (dissected s) k.chain (index_within a i h (dissected s) room e) k.insertable k.states k.jumbo e
