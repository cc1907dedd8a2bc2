-- A packet with one more header.
use Rattle.ip_spec.proofs.Common.{zero, suc, ◌≡◌, ◌≢◌, ℕ, ◌+◌, ◌≤◌, ◌<◌, List, [], ◌∷◌, ◌++◌, length, take, drop, inl, inr, subst, refl, sym, ◌∙◌, ap, arith, common_steps, Bool, true, false, false≢true, cases_Bool, eqb-true, eq-eqb, cond-true, cond-false, if◌then◌else◌, or-false, ◌&&◌, ◌||◌, ◌==◌, not, nat_lt, list_any, length-append, append_assoc, take-append_seam, drop-append_seam, take-append-le, drop-append-le, take-append-drop, take_all, drop_all, AllByRecursion, Option, None, Some, IsHeader, fragment, auth, ExtHeader, AtMostOneOf, is_empty, bytes_of}
use Rattle.ip_dissect.specs.LaterDemand.{is_later, has_later, NothingAfterLater}
use Rattle.ip_dissect.specs.Fragment.{fragments, is_fragment_header}
use Rattle.ip_dissect.specs.Dissection.{DissectedParts, dissected}
use Rattle.ip_dissect.specs.Summary.{IsBaseOf}
use Rattle.ip_dissect.specs.declared.dissection.BaseHeader.{BaseHeader}
use Rattle.ip_rewrite.specs.Jumbogram.{jumbo_offset}
use Rattle.ip_rewrite.specs.Rewritten.{rewritten, rewritten_parts, jumbo_fault}
use Rattle.ip_rewrite.specs.Without.{packet_fault}
use Rattle.ip_rewrite.specs.Headers.{is_options}
use Rattle.ip_rewrite.specs.Insertion.{inserted, is_header, is_misplaced, header_fault, insertion_fault}
use Rattle.ip_rewrite.specs.Writing.{HasOption, inserted_so_far}
use Rattle.ip_rewrite.specs.declared.which.Authentication.{Authentication}
use Rattle.ip_rewrite.proofs.ChainLemmas.{NoZero, not_later}
use Rattle.ip_rewrite.proofs.SelectionLemmas.{any_last}
use Rattle.ip_rewrite.proofs.JumbogramLemmas.{has_option}
use Rattle.ip_rewrite.proofs.DissectLemmas.{none_first, IsWholeChain, whole_chain, changed}

less : (i n : ℕ) → i < n → nat_lt i n ≡ true
less i n l = grind (arith, common_steps)

not_less : (i n : ℕ) → n ≤ i → nat_lt i n ≡ false
not_less i n l = grind (arith, common_steps)

is_less : (i n : ℕ) → nat_lt i n ≡ true → i < n
is_less i n e = grind (arith, common_steps)

isnt_less : (i n : ℕ) → nat_lt i n ≡ false → n ≤ i
isnt_less i n e = grind (arith, common_steps)

one_longer : (c : List ExtHeader) (g : ExtHeader) → length (c ++ g ∷ []) ≡ length c + 1
one_longer c g = omega (arith, length-append c (g ∷ []))

-- a test of the headers before a place
pub before_more : (t : ExtHeader → Bool) (i : ℕ) (c : List ExtHeader) (h : ExtHeader) → list_any t (take i (c ++ h ∷ [])) ≡ (list_any t (take i c) || nat_lt (length c) i && t h)
before_more t i c h = elim (cases_Bool (nat_lt (length c) i)) [
  | inl s ↦ ap (list_any t) (take_all i (c ++ h ∷ []) (omega (arith, one_longer c h, is_less (length c) i s)))
      ∙ (any_last t c h ∙ (ap (λ d. list_any t d || t h) (sym (take_all i c (omega (arith, is_less (length c) i s)))) ∙ ap (λ b. list_any t (take i c) || b && t h) (sym s)))
  | inr s ↦ ap (list_any t) (take-append-le i c (h ∷ []) (isnt_less (length c) i s))
      ∙ (sym (or-false (list_any t (take i c))) ∙ ap (λ b. list_any t (take i c) || b && t h) (sym s))
]

-- One more header g after the headers c, with the header h before it if its place is there.
pub so_far_at : (i : ℕ) (c : List ExtHeader) (h g : ExtHeader) → i ≡ length c → inserted_so_far i h (c ++ g ∷ []) ≡ (inserted_so_far i h c ++ h ∷ []) ++ g ∷ []
so_far_at i c h g at =
    let now : inserted_so_far i h (c ++ g ∷ []) ≡ inserted i h (c ++ g ∷ []) = cond-true (nat_lt i (length (c ++ g ∷ []))) (inserted i h (c ++ g ∷ [])) (c ++ g ∷ []) (less i (length (c ++ g ∷ [])) (omega (arith, at, one_longer c g))) in
    let before : inserted_so_far i h c ≡ c = cond-false (nat_lt i (length c)) (inserted i h c) c (not_less i (length c) (omega (arith, at))) in
    let taken : take i (c ++ g ∷ []) ≡ c = ap (λ k. take k (c ++ g ∷ [])) at ∙ take-append_seam c (g ∷ []) in
    let dropped : drop i (c ++ g ∷ []) ≡ g ∷ [] = ap (λ k. drop k (c ++ g ∷ [])) at ∙ drop-append_seam c (g ∷ []) in
    now ∙ (ap (λ x. x ++ h ∷ drop i (c ++ g ∷ [])) taken ∙ (ap (λ x. c ++ h ∷ x) dropped ∙ (sym (append_assoc c (h ∷ []) (g ∷ [])) ∙ ap (λ x. (x ++ h ∷ []) ++ g ∷ []) (sym before))))

pub so_far_else : (i : ℕ) (c : List ExtHeader) (h g : ExtHeader) → (i ≡ length c → ⊥) → inserted_so_far i h (c ++ g ∷ []) ≡ inserted_so_far i h c ++ g ∷ []
so_far_else i c h g other = elim (cases_Bool (nat_lt i (length c))) [
  | inl s ↦
      let within : i < length c = is_less i (length c) s in
      let now : inserted_so_far i h (c ++ g ∷ []) ≡ inserted i h (c ++ g ∷ []) = cond-true (nat_lt i (length (c ++ g ∷ []))) (inserted i h (c ++ g ∷ [])) (c ++ g ∷ []) (less i (length (c ++ g ∷ [])) (omega (arith, within, one_longer c g))) in
      let before : inserted_so_far i h c ≡ inserted i h c = cond-true (nat_lt i (length c)) (inserted i h c) c s in
      now ∙ (ap (λ x. x ++ h ∷ drop i (c ++ g ∷ [])) (take-append-le i c (g ∷ []) (omega (arith, within)))
      ∙ (ap (λ x. take i c ++ h ∷ x) (drop-append-le i c (g ∷ []) (omega (arith, within)))
      ∙ (sym (append_assoc (take i c) (h ∷ drop i c) (g ∷ [])) ∙ ap (λ x. x ++ g ∷ []) (sym before))))
  | inr s ↦
      let beyond : length c ≤ i = isnt_less i (length c) s in
      let now : inserted_so_far i h (c ++ g ∷ []) ≡ c ++ g ∷ [] = cond-false (nat_lt i (length (c ++ g ∷ []))) (inserted i h (c ++ g ∷ [])) (c ++ g ∷ []) (not_less i (length (c ++ g ∷ [])) (omega (arith, beyond, other, one_longer c g))) in
      now ∙ ap (λ x. x ++ g ∷ []) (sym (cond-false (nat_lt i (length c)) (inserted i h c) c s))
]

pub so_far_end : (i : ℕ) (c : List ExtHeader) (h : ExtHeader) → i ≡ length c → inserted i h c ≡ inserted_so_far i h c ++ h ∷ []
so_far_end i c h at =
    ap (λ x. x ++ h ∷ drop i c) (take_all i c (omega (arith, at))) ∙ (ap (λ x. c ++ h ∷ x) (drop_all i c (omega (arith, at)))
    ∙ ap (λ x. x ++ h ∷ []) (sym (cond-false (nat_lt i (length c)) (inserted i h c) c (not_less i (length c) (omega (arith, at))))))

pub so_far_whole : (i : ℕ) (c : List ExtHeader) (h : ExtHeader) → i ≤ length c → (i ≡ length c → ⊥) → inserted_so_far i h c ≡ inserted i h c
so_far_whole i c h within other = cond-true (nat_lt i (length c)) (inserted i h c) c (less i (length c) (omega (arith, within, other)))

bytes_joined : (c d : List ExtHeader) → length (bytes_of (c ++ d)) ≡ length (bytes_of c) + length (bytes_of d)
bytes_joined [] d = omega arith
bytes_joined (h ∷ c) d = omega (arith, bytes_joined c d, length-append h.bytes (bytes_of (c ++ d)), length-append h.bytes (bytes_of c))

pub inserted_len : (i : ℕ) (c : List ExtHeader) (h : ExtHeader) → length (bytes_of (inserted i h c)) ≡ length (bytes_of c) + length h.bytes
inserted_len i c h =
    omega (
      arith,
      bytes_joined (take i c) (h ∷ drop i c),
      bytes_joined (take i c) (drop i c),
      length-append h.bytes (bytes_of (drop i c)),
      ap (λ d. length (bytes_of d)) (take-append-drop i c),
    )

-- the new header
pub header_is : (n : ℕ) (b : List ℕ) → is_header n b ≡ true → IsHeader n b
header_is n b e = elim (cases_Bool (n == 44)) [
  | inl s ↦ fragment (eqb-true n 44 s) (record { len = grind (arith, common_steps) })
  | inr s ↦ elim (cases_Bool (n == 51)) [
    | inl t ↦ auth (eqb-true n 51 t) (record { not_zero = grind (arith, common_steps); len = grind (arith, common_steps) })
    | inr t ↦ grind (arith, common_steps)
  ]
]

-- all of some headers and one more
pub all_inserted : (P : ExtHeader → Type 0) (i : ℕ) (c : List ExtHeader) (h : ExtHeader) → AllByRecursion P c → P h → AllByRecursion P (inserted i h c)
all_inserted P i c h a p = joined (take i c) (drop i c) (subst (AllByRecursion P) (sym (take-append-drop i c)) a)
  where
    joined : (d e : List ExtHeader) → AllByRecursion P (d ++ e) → AllByRecursion P (d ++ h ∷ e)
    joined [] e a = (p, a)
    joined (g ∷ d) e a = (a.0, joined d e a.1)

later_inserted : (i : ℕ) (c : List ExtHeader) (h : ExtHeader) → is_later h ≡ false → has_later (inserted i h c) ≡ has_later c
later_inserted i c h g = joined (take i c) (drop i c) ∙ ap has_later (take-append-drop i c)
  where
    joined : (d e : List ExtHeader) → has_later (d ++ h ∷ e) ≡ has_later (d ++ e)
    joined [] e = rw g refl
    joined (k ∷ d) e = ap (λ b. is_later k || b) (joined d e)

demand_inserted : (i : ℕ) (c : List ExtHeader) (h : ExtHeader) → is_later h ≡ false → list_any fragments (take i c) ≡ false → NothingAfterLater c → NothingAfterLater (inserted i h c)
demand_inserted i c h g before q = joined (take i c) (drop i c) before (subst NothingAfterLater (sym (take-append-drop i c)) q)
  where
    first : (a b : Bool) → (a || b) ≡ false → a ≡ false
    first true b e = absurd (false≢true (sym e))
    first false b e = refl

    second : (a b : Bool) → (a || b) ≡ false → b ≡ false
    second true b e = absurd (false≢true (sym e))
    second false b e = e

    joined : (d e : List ExtHeader) → list_any fragments d ≡ false → NothingAfterLater (d ++ e) → NothingAfterLater (d ++ h ∷ e)
    joined [] e none q = (λ t. absurd (false≢true (sym g ∙ t)), q)
    joined (k ∷ d) e none q =
        (λ t. absurd (false≢true (sym (not_later k (first (fragments k) (list_any fragments d) none)) ∙ t)), joined d e (second (fragments k) (list_any fragments d) none) q.1)

options_there : (n : ℕ) (b : Bool) → n ≡ 0 → (n == 0 || b) ≡ true
options_there n b e = rw e refl

no_zero : (i : ℕ) (c : List ExtHeader) (h : ExtHeader) → NoZero (drop 1 c) → (i ≡ 0 → list_any is_options (take 1 c) ≡ false) → ((i ≡ 0 → ⊥) → h.number ≢ 0) → NoZero (drop 1 (inserted i h c))
no_zero zero [] h a first later = tt
no_zero zero (g ∷ c) h a first later = (λ e. false≢true (sym (first refl) ∙ options_there g.number _ e), a)
no_zero (suc i) [] h a first later = tt
no_zero (suc i) (g ∷ c) h a first later = all_inserted (λ k. k.number ≢ 0) i c h a (later (λ e. omega (arith, e)))

inserted_count : (i : ℕ) (c : List ExtHeader) (h : ExtHeader) → length (inserted i h c) ≡ length c + 1
inserted_count i c h = omega (arith, length-append (take i c) (h ∷ drop i c), length-append (take i c) (drop i c), ap length (take-append-drop i c))

all_of_none : (P : ExtHeader → Type 0) (c : List ExtHeader) → length c ≡ 0 → AllByRecursion P c
all_of_none P [] e = tt
all_of_none P (h ∷ c) e = absurd (omega (arith, e))

none_there : (c : List ExtHeader) → is_empty c ≡ true → length c ≡ 0
none_there [] e = refl
none_there (h ∷ c) e = absurd (false≢true e)

one_inserted : (i : ℕ) (c : List ExtHeader) (h : ExtHeader) → length c ≡ 0 → h.number ≡ 51 → AtMostOneOf 51 (inserted i h c)
one_inserted i c h none named = record {
  one = omega (arith, inserted_count i c h, none);
  number = all_inserted (λ k. k.number ≡ 51) i c h (all_of_none (λ k. k.number ≡ 51) c none) named;
}

-- what is known of a header that can be inserted
pub record IsInserted (i : ℕ) (h : ExtHeader) (p : DissectedParts) : Type 0 where
  pub before : list_any fragments (take i p.headers) ≡ false
  pub whole : is_header h.number h.bytes ≡ true
  fragments : fragments h ≡ false
  misplaced : is_misplaced i h p ≡ false
  other : ((p.version == 4) && not (h.number == 51)) ≡ false

pub insertable : (a : Authentication) (i : ℕ) (h : ExtHeader) (p : DissectedParts) → header_fault a i h p ≡ None → IsInserted i h p
insertable a i h p e = record { whole = grind (arith, common_steps); fragments = grind (arith, common_steps); misplaced = grind (arith, common_steps); other = grind (arith, common_steps); before = grind (arith, common_steps) }

auth_only : (v n : ℕ) → ((v == 4) && not (n == 51)) ≡ false → v ≡ 4 → n ≡ 51
auth_only v n e four = grind (arith, common_steps)

alone : (a : Bool) (v : ℕ) (empty b : Bool) → (a || (v == 4) && not empty || b) ≡ false → v ≡ 4 → empty ≡ true
alone a v empty b e four = grind (arith, common_steps)

at_first : (a b : Bool) (i : ℕ) (x y : Bool) → (a || b || (if i == 0 then x else y)) ≡ false → i ≡ 0 → x ≡ false
at_first a b i x y e first = grind (arith, common_steps)

after_first : (a b : Bool) (i : ℕ) (x y : Bool) → (a || b || (if i == 0 then x else y)) ≡ false → (i ≡ 0 → ⊥) → y ≡ false
after_first a b i x y e later = grind (arith, common_steps)

other_number : (n : ℕ) → (n == 0) ≡ false → n ≢ 0
other_number n e is = false≢true (sym e ∙ eq-eqb n 0 is)

pub has_inserted : (o : Option ℕ) (i : ℕ) (h : ExtHeader) (c : List ExtHeader) → HasOption o c → (i ≡ 0 → list_any is_options (take 1 c) ≡ false) → HasOption o (inserted i h c)
has_inserted None i h c a first = tt
has_inserted (Some k) i h [] a first = absurd a
has_inserted (Some k) zero h (g ∷ c) a first = absurd (false≢true (sym (first refl) ∙ (or-false (is_options g) ∙ a.0)))
has_inserted (Some k) (suc i) h (g ∷ c) a first = a

pub insertion_first : (a : Authentication) (i : ℕ) (h : ExtHeader) (p : DissectedParts) → header_fault a i h p ≡ None → i ≡ 0 → list_any is_options (take 1 p.headers) ≡ false
insertion_first a i h p e z =
    at_first (nat_lt (length p.headers) i) ((p.version == 4) && not (is_empty p.headers)) i (list_any is_options (take 1 p.headers)) (is_options h) (insertable a i h p e).misplaced z

pub inserted_option : (a : Authentication) (i : ℕ) (h : ExtHeader) (p : DissectedParts) (room : ℕ) → insertion_fault a i h p room ≡ None → HasOption (jumbo_offset p) (inserted i h p.headers)
inserted_option a i h p room e =
    let c : List ExtHeader = p.headers in
    let first = none_first (packet_fault p) _ e in
    let second = none_first (header_fault a i h p) _ first.1 in
    has_inserted (jumbo_offset p) i h c (has_option p) (insertion_first a i h p second.0)

pub insertion_dissects : (a : Authentication) (i : ℕ) (h : ExtHeader) (room : ℕ) (s : List ℕ) (o : Option BaseHeader) → IsBaseOf s o → insertion_fault a i h (dissected s) room ≡ None
    → dissected (rewritten (dissected s) (inserted i h (dissected s).headers) (dissected s).number (dissected s).payload) ≡ rewritten_parts (dissected s) (inserted i h (dissected s).headers) (dissected s).number (dissected s).payload
insertion_dissects a i h room s o is e =
    let p : DissectedParts = dissected s in
    let c : List ExtHeader = p.headers in
    let first = none_first (packet_fault p) _ e in
    let second = none_first (header_fault a i h p) _ first.1 in
    let third = none_first (jumbo_fault (is_fragment_header h) p) _ second.1 in
    let chain : IsWholeChain p = whole_chain s o is first.0 in
    let new : IsInserted i h p = insertable a i h p second.0 in
    changed (inserted i h c) p.number p.payload room s o is first.0 (record {
      headers = all_inserted (λ g. IsHeader g.number g.bytes) i c h chain.chain.headers (header_is h.number h.bytes new.whole);
      zero = no_zero i c h chain.chain.zero_only_first (λ z. at_first (nat_lt (length c) i) ((p.version == 4) && not (is_empty c)) i (list_any is_options (take 1 c)) (is_options h) new.misplaced z) (λ z. other_number h.number (after_first (nat_lt (length c) i) ((p.version == 4) && not (is_empty c)) i (list_any is_options (take 1 c)) (is_options h) new.misplaced z));
      later = later_inserted i c h (not_later h new.fragments) ∙ chain.later;
      demand = demand_inserted i c h (not_later h new.fragments) new.before chain.demand;
      ipv6 = chain.ipv6;
      ipv4 = λ v. one_inserted i c h (none_there c (alone (nat_lt (length c) i) p.version (is_empty c) (if i == 0 then list_any is_options (take 1 c) else is_options h) new.misplaced v)) (auth_only p.version h.number new.other v);
      last = λ v n. omega (arith, inserted_count i c h);
    }) (inserted_option a i h p room e) third.1

pub same_header : (a b : ℕ) (x y : List ℕ) → a ≡ b → x ≡ y → (let h : ExtHeader = record { number = a; bytes = x } in h) ≡ record { number = b; bytes = y }
same_header a b x y e f = rw (e, f) refl

pub so_far_less : (i : ℕ) (c : List ExtHeader) (h : ExtHeader) → length (bytes_of (inserted_so_far i h c)) ≤ length (bytes_of (inserted i h c))
so_far_less i c h = elim (cases_Bool (nat_lt i (length c))) [
  | inl s ↦ omega (arith, ap (λ d. length (bytes_of d)) (cond-true (nat_lt i (length c)) (inserted i h c) c s))
  | inr s ↦ omega (arith, ap (λ d. length (bytes_of d)) (cond-false (nat_lt i (length c)) (inserted i h c) c s), inserted_len i c h)
]

not_first : (a b d : Bool) → (a || b || d) ≡ false → a ≡ false
not_first a b d e = grind (arith, common_steps)

pub index_within : (a : Authentication) (i : ℕ) (h : ExtHeader) (p : DissectedParts) (room : ℕ) → insertion_fault a i h p room ≡ None → i ≤ length p.headers
index_within a i h p room e =
    let first = none_first (packet_fault p) _ e in
    let second = none_first (header_fault a i h p) _ first.1 in
    let new : IsInserted i h p = insertable a i h p second.0 in
    isnt_less (length p.headers) i (not_first (nat_lt (length p.headers) i) ((p.version == 4) && not (is_empty p.headers)) (if i == 0 then list_any is_options (take 1 p.headers) else is_options h) new.misplaced)
