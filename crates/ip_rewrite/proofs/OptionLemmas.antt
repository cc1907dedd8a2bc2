-- The jumbo payload option among the options of a header.
use Rattle.std.proofs.Common.{zero, suc}
use Rattle.ip_spec.proofs.Common.{◌≡◌, ◌≢◌, ℕ, ◌+◌, ◌-◌, ◌≤◌, ◌<◌, ◌⊎◌, inl, inr, List, [], ◌∷◌, ◌++◌, length, take, drop, slice_set, slice_index, refl, sym, subst, ap, ◌∙◌, arith, Bool, true, false, false≢true, cases_Bool, cases_eq, eq-eqb, ne_eqb, leb-true, cond-true, cond-false, nat_eq, nat_le, if◌then◌else◌, ◌||◌, list_any, Option, None, Some, none-some, same_Some, is_some, append_assoc, take-append-drop, take-append_seam, drop-append_seam, length-append, length-drop, length-take, length-take-le, drop-drop, get_or-take, get_or_append_left, bytes_eq-Decides, ExtHeader}
use Rattle.std.proofs.Math.Seq.{take-add, take-set-lt}
use Rattle.std.specs.List.{starts_with}
use Rattle.std.proofs.lemmas.List.{set-append_left, drop-set-lt}
use Rattle.ip_header_contents.specs.Options.{OptionFields, StartsWithOption, pad_1, option_bytes, options_after, options_in}
use Rattle.ip_header_contents.proofs.OptionLemmas.{first_from, none}
use Rattle.ip_rewrite.specs.Headers.{is_options}
use Rattle.ip_rewrite.specs.Jumbogram.{jumbo_payload, is_jumbo_payload, only_jumbo_payload, if_stating, stating_offset, with_option}
use Rattle.ip_rewrite.specs.Writing.{HasOption, found_or}

-- an option is at least a byte long
pub some_bytes : (o : OptionFields) → 1 ≤ length (option_bytes o)
some_bytes o = elim (cases_eq o.option_type 0) [
  | inl is ↦ rw (eq-eqb o.option_type 0 is) (omega (arith))
  | inr other ↦ rw (ne_eqb o.option_type 0 other) (omega (arith))
]

-- bytes start with an option, or have none
abbrev IsOne : List ℕ → Type 0
IsOne b = (o : OptionFields) × StartsWithOption b o

module _ (t len : ℕ) (rest : List ℕ) (other : t ≢ 0) (fits : len ≤ length rest) where
  abbrev fitting : OptionFields
  fitting = record { option_type = t; value = take len rest }

  fitting_starts : StartsWithOption (t ∷ len ∷ rest) fitting
  fitting_starts = record {
    pad = λ is. absurd (other is);
    prefix = rw (ne_eqb t 0 other, length-take-le len rest fits) refl;
  }

pub start : (b : List ℕ) → IsOne b ⊎ (options_in b ≡ [])
unfolding options_after
start [] = inr refl
start (t ∷ []) = elim (cases_eq t 0) [
  | inl is ↦ inl (pad_1, record { pad = λ _. refl; prefix = ap (λ x. x ∷ []) is })
  | inr other ↦ inr (rw (ne_eqb t 0 other) refl)
]
start (t ∷ len ∷ rest) = elim (cases_eq t 0) [
  | inl is ↦ inl (pad_1, record { pad = λ _. refl; prefix = ap (λ x. x ∷ []) is })
  | inr other ↦ elim (cases_Bool (nat_le len (length rest))) [
    | inl fits ↦ inl (fitting t len rest other (leb-true len (length rest) fits), fitting_starts t len rest other (leb-true len (length rest) fits))
    | inr past ↦ inr (rw (ne_eqb t 0 other, past) refl)
  ]
]

first : (b : List ℕ) (o : OptionFields) → StartsWithOption b o → options_in b ≡ o ∷ options_in (drop (length (option_bytes o)) b)
first b o starts = first_from b b 0 (length (option_bytes o)) o refl starts refl ∙ ap (λ n. o ∷ options_in (drop n b)) (omega arith)

-- the offset of the only one
least_here : (k j n : ℕ) (o : Option ℕ) (b d : Bool) → (o ≡ Some j → k + n ≤ j) → (if b then (if d then None else Some k) else o) ≡ Some j → k ≤ j
least_here k j n o true true f e = absurd (none-some _ e)
least_here k j n o true false f e = omega (arith, same_Some _ _ e)
least_here k j n o false d f e = omega (arith, f e)

pub only_least : (k j : ℕ) (xs : List OptionFields) → only_jumbo_payload k xs ≡ Some j → k ≤ j
only_least k j [] e = absurd (none-some _ e)
only_least k j (o ∷ xs) e = least_here k j (length (option_bytes o)) (only_jumbo_payload (k + length (option_bytes o)) xs) (is_jumbo_payload o) (list_any is_jumbo_payload xs) (only_least (k + length (option_bytes o)) j xs) e

pub only_here : (k : ℕ) (o : OptionFields) (xs : List OptionFields) → is_jumbo_payload o ≡ true → only_jumbo_payload k (o ∷ xs) ≡ (if list_any is_jumbo_payload xs then None else Some k)
only_here k o xs is = cond-true (is_jumbo_payload o) (if list_any is_jumbo_payload xs then None else Some k) (only_jumbo_payload (k + length (option_bytes o)) xs) is

pub only_later : (k : ℕ) (o : OptionFields) (xs : List OptionFields) → is_jumbo_payload o ≡ false → only_jumbo_payload k (o ∷ xs) ≡ only_jumbo_payload (k + length (option_bytes o)) xs
only_later k o xs other = cond-false (is_jumbo_payload o) (if list_any is_jumbo_payload xs then None else Some k) (only_jumbo_payload (k + length (option_bytes o)) xs) other

-- The option at an offset states n.
pub states : (s : List ℕ) (n : ℕ) → starts_with nat_eq s (option_bytes (jumbo_payload n)) ≡ true → take 6 s ≡ option_bytes (jumbo_payload n)
states s n e = sym ((bytes_eq-Decides (option_bytes (jumbo_payload n)) (take 6 s)).0 e)

pub states_back : (s : List ℕ) (n : ℕ) → take 6 s ≡ option_bytes (jumbo_payload n) → starts_with nat_eq s (option_bytes (jumbo_payload n)) ≡ true
states_back s n e = (bytes_eq-Decides (option_bytes (jumbo_payload n)) (take 6 s)).1 (sym e)

jumbo_starts : (b : List ℕ) (n : ℕ) → take 6 b ≡ option_bytes (jumbo_payload n) → StartsWithOption b (jumbo_payload n)
jumbo_starts b n e = record { pad = λ is. absurd (cc); prefix = e }

-- where the option is, with another length in it
module _ (n m : ℕ) where
  abbrev new : OptionFields
  new = jumbo_payload m

  -- the option is the first one
  changed_first : (b : List ℕ) (j : ℕ) → take 6 b ≡ option_bytes (jumbo_payload n) → (if list_any is_jumbo_payload (options_in (drop 6 b)) then None else Some j) ≡ Some j
      → only_jumbo_payload j (options_in (option_bytes new ++ drop 6 b)) ≡ Some j
  changed_first b j there e =
      let r : List ℕ = drop 6 b in
      let is : options_in (option_bytes new ++ r) ≡ new ∷ options_in r =
      first (option_bytes new ++ r) new (jumbo_starts (option_bytes new ++ r) m (take-append_seam (option_bytes new) r)) ∙ ap (λ x. new ∷ options_in x) (drop-append_seam (option_bytes new) r) in
      ap (only_jumbo_payload j) is ∙ e

  same_first : (j k : ℕ) (d : Bool) → (let o : Option ℕ = if d then None else Some j in o) ≡ Some (j + k) → (k ≡ 0) × (d ≡ false)
  same_first j k true e = absurd (none-some _ e)
  same_first j k false e = (omega (arith, same_Some _ _ e), refl)

  -- an option precedes it
  prefixed : (b : List ℕ) (o : OptionFields) (k : ℕ) → StartsWithOption b o → length (option_bytes o) ≤ k → with_option b k new ≡ option_bytes o ++ with_option (drop (length (option_bytes o)) b) (k - length (option_bytes o)) new
  prefixed b o k starts within =
      let len : ℕ = length (option_bytes o) in
      let r : List ℕ = drop len b in
      let front : take k b ≡ option_bytes o ++ take (k - len) r =
      ap (λ n. take n b) (omega (arith, within)) ∙ (take-add len (k - len) b ∙ ap (λ x. x ++ take (k - len) r) starts.prefix) in
      let back : drop (k + 6) b ≡ drop (k - len + 6) r = ap (λ n. drop n b) (omega (arith, within)) ∙ sym (drop-drop (k - len + 6) len b) in
      ap (λ x. x ++ option_bytes new ++ drop (k + 6) b) front
      ∙ (ap (λ x. option_bytes o ++ take (k - len) r ++ option_bytes new ++ x) back
      ∙ (ap (λ x. x ++ drop (k - len + 6) r) (append_assoc (option_bytes o) (take (k - len) r) (option_bytes new))
      ∙ append_assoc (option_bytes o) (take (k - len) r ++ option_bytes new) (drop (k - len + 6) r)))

  after_starts : (o : OptionFields) (r : List ℕ) → (o.option_type ≡ 0 → o.value ≡ []) → StartsWithOption (option_bytes o ++ r) o
  after_starts o r pad = record { pad = pad; prefix = take-append_seam (option_bytes o) r }

  abbrev Changed : ℕ → List ℕ → Type 0
  Changed bound b = (j k : ℕ) → length b ≤ bound → take 6 (drop k b) ≡ option_bytes (jumbo_payload n) → only_jumbo_payload j (options_in b) ≡ Some (j + k)
      → only_jumbo_payload j (options_in (with_option b k new)) ≡ Some (j + k)

  changed_later : (bound : ℕ) (b : List ℕ) (o : OptionFields) → StartsWithOption b o → is_jumbo_payload o ≡ false → Changed bound (drop (length (option_bytes o)) b) → Changed (suc bound) b
  changed_later bound b o starts other next j k few there e =
      let len : ℕ = length (option_bytes o) in
      let r : List ℕ = drop len b in
      let after : only_jumbo_payload (j + len) (options_in r) ≡ Some (j + k) = sym (ap (only_jumbo_payload j) (first b o starts) ∙ only_later j o (options_in r) other) ∙ e in
      let within : len ≤ k = omega (arith, only_least (j + len) (j + k) (options_in r) after) in
      let at : j + k ≡ j + len + (k - len) = omega (arith, within) in
      let same : drop (k - len) r ≡ drop k b = drop-drop (k - len) len b ∙ ap (λ i. drop i b) (omega (arith, within)) in
      let changed : only_jumbo_payload (j + len) (options_in (with_option r (k - len) new)) ≡ Some (j + len + (k - len)) =
      next (j + len) (k - len) (omega (arith, few, some_bytes o, length-drop len b)) (ap (take 6) same ∙ there) (after ∙ ap (λ i. Some i) at) in
      let w : List ℕ = option_bytes o ++ with_option r (k - len) new in
      ap (λ x. only_jumbo_payload j (options_in x)) (prefixed b o k starts within)
      ∙ (ap (only_jumbo_payload j) (first w o (after_starts o (with_option r (k - len) new) starts.pad))
      ∙ (only_later j o (options_in (drop len w)) other
      ∙ (ap (λ x. only_jumbo_payload (j + len) (options_in x)) (drop-append_seam (option_bytes o) (with_option r (k - len) new))
      ∙ (changed ∙ ap (λ i. Some i) (sym at)))))

  changed_now : (b : List ℕ) (o : OptionFields) (j k : ℕ) → StartsWithOption b o → is_jumbo_payload o ≡ true → take 6 (drop k b) ≡ option_bytes (jumbo_payload n) → only_jumbo_payload j (options_in b) ≡ Some (j + k)
      → only_jumbo_payload j (options_in (with_option b k new)) ≡ Some (j + k)
  changed_now b o j k starts is there e =
      let now = same_first j k (list_any is_jumbo_payload (options_in (drop (length (option_bytes o)) b))) (sym (ap (only_jumbo_payload j) (first b o starts) ∙ only_here j o (options_in (drop (length (option_bytes o)) b)) is) ∙ e) in
      let zero_is : k ≡ 0 = now.0 in
      let here : take 6 b ≡ option_bytes (jumbo_payload n) = sym (ap (λ i. take 6 (drop i b)) zero_is) ∙ there in
      let only : (let x : Option ℕ = if list_any is_jumbo_payload (options_in (drop 6 b)) then None else Some j in x) ≡ Some (j + k) =
      sym (ap (only_jumbo_payload j) (first b (jumbo_payload n) (jumbo_starts b n here)) ∙ only_here j (jumbo_payload n) (options_in (drop 6 b)) refl) ∙ e in
      let at : j + k ≡ j = omega (arith, zero_is) in
      let whole : with_option b k new ≡ option_bytes new ++ drop 6 b = ap (λ i. with_option b i new) zero_is in
      ap (λ x. only_jumbo_payload j (options_in x)) whole ∙ (changed_first b j here (only ∙ ap (λ i. Some i) at) ∙ ap (λ i. Some i) (sym at))

  changed_by : (bound : ℕ) (b : List ℕ) → (length b ≤ bound → Changed bound b)
  changed_by zero b none j k few there e = absurd (
      let size : length (option_bytes (jumbo_payload n)) ≤ 0 = omega (arith, ap length (sym there), length-take 6 (drop k b), length-drop k b, few) in
      let h : ⊥ = omega (arith, size) in h
      )
  changed_by (suc bound) b some j k few there e = elim (start b) [
    | inl one ↦ elim (cases_Bool (is_jumbo_payload one.0)) [
      | inl is ↦ changed_now b one.0 j k one.1 is there e
      | inr other ↦
          let r : List ℕ = drop (length (option_bytes one.0)) b in
          let shorter : length r ≤ bound = omega (arith, few, some_bytes one.0, length-drop (length (option_bytes one.0)) b) in
          changed_later bound b one.0 one.1 other (changed_by bound r shorter) j k few there e
    ]
    | inr is ↦ absurd (none-some _ (sym (ap (only_jumbo_payload j) is) ∙ e))
  ]

  -- The only option is at the same offset, whatever length it states.
  pub changed_only : (b : List ℕ) (j k : ℕ) → take 6 (drop k b) ≡ option_bytes (jumbo_payload n) → only_jumbo_payload j (options_in b) ≡ Some (j + k)
      → only_jumbo_payload j (options_in (with_option b k new)) ≡ Some (j + k)
  changed_only b j k there e = changed_by (length b) b (omega arith) j k (omega arith) there e

-- a loop over the options
pub found_more : (found : Option ℕ) (k : ℕ) (o : OptionFields) (xs : List OptionFields) → is_jumbo_payload o ≡ false → found_or found k (o ∷ xs) ≡ found_or found (k + length (option_bytes o)) xs
found_more None k o xs other = only_later k o xs other
found_more (Some j) k o xs other = ap (λ b. let x : Option ℕ = if b || list_any is_jumbo_payload xs then None else Some j in x) other

pub found_here : (found : Option ℕ) (k : ℕ) (o : OptionFields) (xs : List OptionFields) → is_some found ≡ false → is_jumbo_payload o ≡ true → found_or found k (o ∷ xs) ≡ found_or (Some k) (k + length (option_bytes o)) xs
found_here None k o xs none is = only_here k o xs is
found_here (Some j) k o xs none is = absurd (false≢true (sym none))

pub found_twice : (found : Option ℕ) (k : ℕ) (o : OptionFields) (xs : List OptionFields) → is_some found ≡ true → is_jumbo_payload o ≡ true → found_or found k (o ∷ xs) ≡ None
found_twice None k o xs some is = absurd (false≢true some)
found_twice (Some j) k o xs some is = ap (λ b. let x : Option ℕ = if b || list_any is_jumbo_payload xs then None else Some j in x) is

pub found_end : (found : Option ℕ) (k : ℕ) → found_or found k [] ≡ found
found_end None k = refl
found_end (Some j) k = refl

-- The first header states the length n at the offset k.
pub record IsStated (n k : ℕ) (c : List ExtHeader) : Type 0 where
  pub first : ExtHeader
  pub others : List ExtHeader
  pub all : c ≡ first ∷ others
  pub options : is_options first ≡ true
  pub only : only_jumbo_payload 2 (options_in (drop 2 first.bytes)) ≡ Some k
  pub there : take 6 (drop k first.bytes) ≡ option_bytes (jumbo_payload n)

if_is : (n k : ℕ) (b : List ℕ) (o : Option ℕ) → if_stating n b o ≡ Some k → (o ≡ Some k) × (starts_with nat_eq (drop k b) (option_bytes (jumbo_payload n)) ≡ true)
if_is n k b None e = absurd (none-some _ e)
if_is n k b (Some j) e = elim (cases_Bool (starts_with nat_eq (drop j b) (option_bytes (jumbo_payload n)))) [
  | inl s ↦
      let same : Some j ≡ Some k = sym (cond-true (starts_with nat_eq (drop j b) (option_bytes (jumbo_payload n))) (Some j) None s) ∙ e in
      (same, sym (ap (λ i. starts_with nat_eq (drop i b) (option_bytes (jumbo_payload n))) (same_Some _ _ same)) ∙ s)
  | inr s ↦ absurd (none-some _ (sym (cond-false (starts_with nat_eq (drop j b) (option_bytes (jumbo_payload n))) (Some j) None s) ∙ e))
]

pub stated_is : (n k : ℕ) (c : List ExtHeader) → stating_offset n c ≡ Some k → IsStated n k c
stated_is n k [] e = absurd (none-some _ e)
stated_is n k (h ∷ c) e =
    let o : Option ℕ = only_jumbo_payload 2 (options_in (drop 2 h.bytes)) in
    elim (cases_Bool (is_options h)) [
      | inl s ↦
          let found = if_is n k h.bytes o (sym (cond-true (is_options h) (if_stating n h.bytes o) None s) ∙ e) in
          record { first = h; others = c; all = refl; options = s; only = found.0; there = states (drop k h.bytes) n found.1 }
      | inr s ↦ absurd (none-some _ (sym (cond-false (is_options h) (if_stating n h.bytes o) None s) ∙ e))
    ]

pub stated_back : (n k : ℕ) (h : ExtHeader) (c : List ExtHeader) → is_options h ≡ true → only_jumbo_payload 2 (options_in (drop 2 h.bytes)) ≡ Some k → take 6 (drop k h.bytes) ≡ option_bytes (jumbo_payload n)
    → stating_offset n (h ∷ c) ≡ Some k
stated_back n k h c options only there =
    cond-true (is_options h) (if_stating n h.bytes (only_jumbo_payload 2 (options_in (drop 2 h.bytes)))) None options
    ∙ (ap (if_stating n h.bytes) only ∙ cond-true (starts_with nat_eq (drop k h.bytes) (option_bytes (jumbo_payload n))) (Some k) None (states_back (drop k h.bytes) n there))

-- It is within the header.
pub option_fits : (b : List ℕ) (n k : ℕ) → take 6 (drop k b) ≡ option_bytes (jumbo_payload n) → k + 6 ≤ length b
option_fits b n k there =
    let size : 6 ≡ length (take 6 (drop k b)) = ap length (sym there) in
    omega (arith, size, length-take 6 (drop k b), length-drop k b)

pub stated_has : (n k : ℕ) (c : List ExtHeader) → IsStated n k c → HasOption (Some k) c
stated_has n k c s =
    subst (HasOption (Some k)) (sym s.all)
    (s.options, only_least 2 k (options_in (drop 2 s.first.bytes)) s.only, option_fits s.first.bytes n k s.there)

-- bytes with another length in the option
module _ (b : List ℕ) (k n : ℕ) (fits : k + 6 ≤ length b) where
  front_len : length (take k b) ≡ k
  front_len = length-take-le k b (omega (arith, fits))

  pub option_len : length (with_option b k (jumbo_payload n)) ≡ length b
  option_len =
      omega (arith, front_len, fits, length-append (take k b ++ option_bytes (jumbo_payload n)) (drop (k + 6) b), length-append (take k b) (option_bytes (jumbo_payload n)), length-drop (k + 6) b)

  pub option_same : (i : ℕ) → i < k → slice_index (with_option b k (jumbo_payload n)) i ≡ slice_index b i
  option_same i less =
      ap (λ x. slice_index x i) (append_assoc (take k b) (option_bytes (jumbo_payload n)) (drop (k + 6) b))
      ∙ (get_or_append_left (take k b) (option_bytes (jumbo_payload n) ++ drop (k + 6) b) 0 i (omega (arith, less, front_len)) ∙ get_or-take k b i 0 less)

  pub option_there : take 6 (drop k (with_option b k (jumbo_payload n))) ≡ option_bytes (jumbo_payload n)
  option_there =
      let r : List ℕ = option_bytes (jumbo_payload n) ++ drop (k + 6) b in
      ap (λ x. take 6 (drop k x)) (append_assoc (take k b) (option_bytes (jumbo_payload n)) (drop (k + 6) b))
      ∙ (ap (λ i. take 6 (drop i (take k b ++ r))) (sym front_len) ∙ (ap (take 6) (drop-append_seam (take k b) r) ∙ take-append_seam (option_bytes (jumbo_payload n)) (drop (k + 6) b)))

  -- after the next header is set
  pub option_set : (i x : ℕ) → i < k → slice_set (with_option b k (jumbo_payload n)) i x ≡ with_option (slice_set b i x) k (jumbo_payload n)
  option_set i x less =
      let o : List ℕ = option_bytes (jumbo_payload n) in
      let r : List ℕ = drop (k + 6) b in
      let front : slice_set (take k b) i x ≡ take k (slice_set b i x) = sym (take-set-lt k b i x less) in
      let back : r ≡ drop (k + 6) (slice_set b i x) = sym (drop-set-lt (k + 6) b i x (omega (arith, less))) in
      ap (λ y. slice_set y i x) (append_assoc (take k b) o r)
      ∙ (set-append_left (take k b) (o ++ r) i x (omega (arith, less, front_len)) ∙ (ap (λ y. y ++ (o ++ r)) front ∙ (sym (append_assoc (take k (slice_set b i x)) o r) ∙ ap (λ y. take k (slice_set b i x) ++ o ++ y) back)))

  -- that length and then another one
  pub option_again : (m : ℕ) → with_option (with_option b k (jumbo_payload n)) k (jumbo_payload m) ≡ with_option b k (jumbo_payload m)
  option_again m =
      let o : List ℕ = option_bytes (jumbo_payload n) in
      let r : List ℕ = drop (k + 6) b in
      let w : List ℕ = with_option b k (jumbo_payload n) in
      let front : take k w ≡ take k b =
      ap (take k) (append_assoc (take k b) o r) ∙ (ap (λ i. take i (take k b ++ (o ++ r))) (sym front_len) ∙ take-append_seam (take k b) (o ++ r)) in
      let size : length (take k b ++ o) ≡ k + 6 = omega (arith, front_len, length-append (take k b) o) in
      let back : drop (k + 6) w ≡ r = ap (λ i. drop i (take k b ++ o ++ r)) (sym size) ∙ drop-append_seam (take k b ++ o) r in
      ap (λ x. x ++ option_bytes (jumbo_payload m) ++ drop (k + 6) w) front ∙ ap (λ x. take k b ++ option_bytes (jumbo_payload m) ++ x) back

-- the length that it states already
pub option_as_is : (b : List ℕ) (k n : ℕ) → take 6 (drop k b) ≡ option_bytes (jumbo_payload n) → with_option b k (jumbo_payload n) ≡ b
option_as_is b k n there =
    ap (λ x. take k b ++ x ++ drop (k + 6) b) (sym there)
    ∙ (ap (λ x. take k b ++ take 6 (drop k b) ++ x) (sym (drop-drop 6 k b))
    ∙ (append_assoc (take k b) (take 6 (drop k b)) (drop 6 (drop k b)) ∙ (ap (λ x. take k b ++ x) (take-append-drop 6 (drop k b)) ∙ take-append-drop k b)))

-- one more header
pub offset_first : (n : ℕ) (d : List ExtHeader) (h : ExtHeader) → length d ≡ 0 → stating_offset n (d ++ h ∷ []) ≡ stating_offset n (h ∷ [])
offset_first n [] h none = refl
offset_first n (g ∷ d) h some = absurd (omega (arith, some))
