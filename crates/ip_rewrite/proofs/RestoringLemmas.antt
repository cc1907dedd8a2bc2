-- A packet without the header that was inserted into it.
use Rattle.ip_spec.proofs.Common.{zero, suc, ◌≡◌, ◌≢◌, ℕ, ◌+◌, ◌/◌, ◌%◌, ◌≤◌, ◌<◌, List, [], ◌∷◌, ◌++◌, length, take, inl, inr, false≢true, subst, refl, sym, ◌∙◌, ap, arith, common_steps, Bool, true, false, cases_Bool, eqb-true, eq-eqb, ne_eqb, cond-true, cond-false, if◌then◌else◌, ◌&&◌, ◌==◌, not, nat_lt, list_any, slice_set, slice_index, length-set, Option, Some, None, is_some, ExtHeader, bytes_of}
use Rattle.std.proofs.lemmas.List.{set-set, set_comm, set-get_or}
use Rattle.ip_spec.proofs.HeaderLemmas.{header-least}
use Rattle.ip_base.specs.Ipv4Header.{version, ipv4_header_len, total_len}
use Rattle.ip_base.specs.Ipv6Header.{payload_length}
use Rattle.ip_base.specs.Checksum.{with_word, checksum_of}
use Rattle.ip_dissect.specs.End.{base_end}
use Rattle.ip_dissect.specs.Fragment.{is_fragment_header}
use Rattle.ip_dissect.specs.Dissection.{DissectedParts, ipv4_dissected, ipv6_dissected, dissected}
use Rattle.ip_dissect.specs.declared.end.End.{End}
use Rattle.ip_dissect.proofs.DissectedLemmas.{BeginIpv4, begin_ipv4, BeginIpv6, begin_ipv6, base_none, base6, picked4}
use Rattle.ip_rewrite.specs.Headers.{number_of_first, linked_headers, is_options}
use Rattle.ip_rewrite.specs.Base.{number_offset, without_checksum, ipv4_stating, length_field, base_stating}
use Rattle.ip_rewrite.specs.Jumbogram.{following_len, is_unstated, stating_offset, jumbo_offset, is_jumbogram, stating_at}
use Rattle.ip_rewrite.specs.Rewritten.{base_for, stating, rewritten_field, rewritten_parts, restated, unstated_fault, room_fault, jumbo_fault}
use Rattle.ip_rewrite.specs.Selection.{kept_from, kept}
use Rattle.ip_rewrite.specs.Without.{packet_fault, without}
use Rattle.ip_rewrite.specs.Insertion.{inserted, is_header, header_fault, insertion_fault}
use Rattle.ip_rewrite.specs.Writing.{HasOption}
use Rattle.ip_rewrite.specs.declared.err.RewriteError.{RewriteError}
use Rattle.ip_rewrite.specs.declared.err.RewriteError.TheVariants.{NoLength, NotAJumbogram, TooLong}
use Rattle.ip_rewrite.specs.declared.which.Which.TheVariants.{Index}
use Rattle.ip_rewrite.specs.declared.which.Authentication.{Authentication}
use Rattle.ip_rewrite.proofs.StatingLemmas.{has_stating, stating_len, stating_first, stating_count, stating_linked, stating_again, stating_inserted, stated_new, any_stating, any_joined, none_inserted}
use Rattle.ip_rewrite.proofs.OptionLemmas.{stated_is}
use Rattle.ip_rewrite.proofs.JumbogramLemmas.{has_option, stating_same, IsJumbogram, jumbogram_is, offset_is, unstated_no_jumbogram, no_fragment_header, no_fragment}
use Rattle.ip_rewrite.proofs.FrontLemmas.{joined_len, first_is, linked_same}
use Rattle.ip_rewrite.proofs.Ipv4Lemmas.{stated as stated4}
use Rattle.ip_rewrite.proofs.Ipv6Lemmas.{stated as stated6}
use Rattle.ip_rewrite.proofs.DissectLemmas.{none_first, field_fits, field_stating, stating_size, IsWholeChain, whole_chain4, whole_chain6, no_base}
use Rattle.ip_rewrite.proofs.InsertionLemmas.{header_is, inserted_len, index_within, has_inserted, insertion_first, inserted_option}

-- the base header, changed twice
pub word_set : (b : List ℕ) (i n j x : ℕ) → i ≢ j → i + 1 ≢ j → slice_set (with_word b i n) j x ≡ with_word (slice_set b j x) i n
word_set b i n j x p q = set_comm (slice_set b i (n / 256)) (i + 1) j (n % 256) x q ∙ ap (λ l. slice_set l (i + 1) (n % 256)) (set_comm b i j (n / 256) x p)

pub word_word : (b : List ℕ) (i n m : ℕ) → with_word (with_word b i n) i m ≡ with_word b i m
word_word b i n m =
    ap (λ l. slice_set l (i + 1) (m % 256)) (set_comm (slice_set b i (n / 256)) (i + 1) i (n % 256) (m / 256) (λ e. omega (arith, e)) ∙ ap (λ l. slice_set l (i + 1) (n % 256)) (set-set b i (n / 256) (m / 256)))
    ∙ set-set (slice_set b i (m / 256)) (i + 1) (n % 256) (m % 256)

words_swap : (b : List ℕ) (i n j m : ℕ) → i ≢ j → i + 1 ≢ j → i ≢ j + 1 → i + 1 ≢ j + 1 → with_word (with_word b i n) j m ≡ with_word (with_word b j m) i n
words_swap b i n j m p q r s = ap (λ l. slice_set l (j + 1) (m % 256)) (word_set b i n j (m / 256) p q) ∙ word_set (slice_set b j (m / 256)) i n (j + 1) (m % 256) r s

twice6 : (b : List ℕ) (k n u t : ℕ) → with_word (slice_set (with_word (slice_set b 6 k) 4 u) 6 n) 4 t ≡ with_word (slice_set b 6 n) 4 t
twice6 b k n u t =
    ap (λ l. with_word l 4 t) (word_set (slice_set b 6 k) 4 u 6 n (λ e. omega (arith, e)) (λ e. omega (arith, e)) ∙ ap (λ l. with_word l 4 u) (set-set b 6 k n)) ∙ word_word (slice_set b 6 n) 4 u t

twice4 : (b : List ℕ) (k n u t : ℕ) → ipv4_stating (slice_set (ipv4_stating (slice_set b 9 k) u) 9 n) t ≡ ipv4_stating (slice_set b 9 n) t
twice4 b k n u t =
    let old : List ℕ = slice_set b 9 k in
    let new : List ℕ = slice_set b 9 n in
    let sum : ℕ = checksum_of (without_checksum old u) in
    let stated : ipv4_stating old u ≡ with_word (with_word old 2 u) 10 sum = word_word (with_word old 2 u) 10 0 sum in
    let named : slice_set (ipv4_stating old u) 9 n ≡ with_word (with_word new 2 u) 10 sum =
    ap (λ l. slice_set l 9 n) stated ∙ (word_set (with_word old 2 u) 10 sum 9 n (λ e. omega (arith, e)) (λ e. omega (arith, e))
    ∙ ap (λ l. with_word l 10 sum) (word_set old 2 u 9 n (λ e. omega (arith, e)) (λ e. omega (arith, e)) ∙ ap (λ l. with_word l 2 u) (set-set b 9 k n))) in
    let same : without_checksum (slice_set (ipv4_stating old u) 9 n) t ≡ without_checksum new t =
    ap (λ l. without_checksum l t) named
    ∙ (ap (λ l. with_word l 10 0) (words_swap (with_word new 2 u) 10 sum 2 t (λ e. omega (arith, e)) (λ e. omega (arith, e)) (λ e. omega (arith, e)) (λ e. omega (arith, e)) ∙ ap (λ l. with_word l 10 sum) (word_word new 2 u t))
    ∙ word_word (with_word new 2 t) 10 sum 0) in
    ap (λ l. with_word l 10 (checksum_of l)) same

twice : (v : ℕ) (b : List ℕ) (k n u t : ℕ) → base_stating v (slice_set (base_stating v (slice_set b (number_offset v) k) u) (number_offset v) n) t ≡ base_stating v (slice_set b (number_offset v) n) t
twice v b k n u t = elim (cases_Bool (v == 4)) [
  | inl s ↦ rw s (twice4 b k n u t)
  | inr s ↦ rw s (twice6 b k n u t)
]

-- Headers that differ in nothing but to which number they lead.
abbrev pub Alike : List ExtHeader → List ExtHeader → Type 0
Alike [] [] = Unit {0}
Alike [] (h ∷ d) = ⊥
Alike (g ∷ c) [] = ⊥
Alike (g ∷ c) (h ∷ d) = (g.number ≡ h.number) × ((x : ℕ) → slice_set g.bytes 0 x ≡ slice_set h.bytes 0 x) × Alike c d

linked_alike : (m : ℕ) (c : List ExtHeader) → Alike (linked_headers m c) c
linked_alike m [] = tt
linked_alike m (h ∷ c) = (refl, λ x. set-set h.bytes 0 (number_of_first c m) x, linked_alike m c)

kept_alike : (i j : ℕ) (c d : List ExtHeader) → Alike c d → Alike (kept_from (Index i) j c) (kept_from (Index i) j d)
kept_alike i j [] [] a = tt
kept_alike i j [] (h ∷ d) a = absurd a
kept_alike i j (g ∷ c) [] a = absurd a
kept_alike i j (g ∷ c) (h ∷ d) a = pick (j == i) (kept_alike i (j + 1) c d a.2)
  where
    pick : (b : Bool) → Alike (kept_from (Index i) (j + 1) c) (kept_from (Index i) (j + 1) d)
        → Alike (if b then kept_from (Index i) (j + 1) c else g ∷ kept_from (Index i) (j + 1) c) (if b then kept_from (Index i) (j + 1) d else h ∷ kept_from (Index i) (j + 1) d)
    pick true r = r
    pick false r = (a.0, a.1, r)

alike_first : (m : ℕ) (c d : List ExtHeader) → Alike c d → number_of_first c m ≡ number_of_first d m
alike_first m [] [] a = refl
alike_first m [] (h ∷ d) a = absurd a
alike_first m (g ∷ c) [] a = absurd a
alike_first m (g ∷ c) (h ∷ d) a = a.0

alike_linked : (m : ℕ) (c d : List ExtHeader) → Alike c d → linked_headers m c ≡ linked_headers m d
alike_linked m [] [] a = refl
alike_linked m [] (h ∷ d) a = absurd a
alike_linked m (g ∷ c) [] a = absurd a
alike_linked m (g ∷ c) (h ∷ d) a =
    let bytes : slice_set g.bytes 0 (number_of_first c m) ≡ slice_set h.bytes 0 (number_of_first d m) = a.1 (number_of_first c m) ∙ ap (slice_set h.bytes 0) (alike_first m c d a.2) in
    ap (λ (n : ℕ). let k : ExtHeader = record { number = n; bytes = slice_set g.bytes 0 (number_of_first c m) } in k ∷ linked_headers m c) a.0
    ∙ (ap (λ (b : List ℕ). let k : ExtHeader = record { number = h.number; bytes = b } in k ∷ linked_headers m c) bytes
    ∙ ap (λ x. record { number = h.number; bytes = slice_set h.bytes 0 (number_of_first d m) } ∷ x) (alike_linked m c d a.2))

-- the header at an index isn't kept
kept_later : (i j : ℕ) (c : List ExtHeader) → i < j → kept_from (Index i) j c ≡ c
kept_later i j [] less = refl
kept_later i j (h ∷ c) less =
    cond-false (j == i) (kept_from (Index i) (j + 1) c) (h ∷ kept_from (Index i) (j + 1) c) (ne_eqb j i (λ e. omega (arith, e, less))) ∙ ap (λ x. h ∷ x) (kept_later i (j + 1) c (omega (arith, less)))

kept_index : (i j n : ℕ) (h : ExtHeader) (c : List ExtHeader) → i ≡ j + n → n ≤ length c → kept_from (Index i) j (inserted n h c) ≡ c
kept_index i j zero h c at within =
    cond-true (j == i) (kept_from (Index i) (j + 1) c) (h ∷ kept_from (Index i) (j + 1) c) (eq-eqb j i (omega (arith, at))) ∙ kept_later i (j + 1) c (omega (arith, at))
kept_index i j (suc n) h [] at within = absurd (omega (arith, within))
kept_index i j (suc n) h (g ∷ c) at within =
    cond-false (j == i) (kept_from (Index i) (j + 1) (inserted n h c)) (g ∷ kept_from (Index i) (j + 1) (inserted n h c)) (ne_eqb j i (λ e. omega (arith, e, at)))
    ∙ ap (λ x. g ∷ x) (kept_index i (j + 1) n h c (omega (arith, at)) (omega (arith, within)))

-- An option in the first of such headers is in the first of the others.
alike_has : (o : Option ℕ) (c d : List ExtHeader) → Alike c d → HasOption o d → HasOption o c
alike_has None c d a x = tt
alike_has (Some k) [] [] a x = x
alike_has (Some k) [] (h ∷ d) a x = absurd a
alike_has (Some k) (g ∷ c) [] a x = absurd a
alike_has (Some k) (g ∷ c) (h ∷ d) a x = (ap (λ n. n == 0) a.0 ∙ x.0, x.1, omega (arith, x.2, ap length (a.1 0), length-set g.bytes 0 0, length-set h.bytes 0 0))

-- the packet without the header
module _ (i : ℕ) (h : ExtHeader) (p : DissectedParts) (chain : IsWholeChain p) (within : i ≤ length p.headers) (first : i ≡ 0 → list_any is_options (take 1 p.headers) ≡ false) where
  abbrev pub new : DissectedParts
  new = rewritten_parts p (inserted i h p.headers) p.number p.payload

  abbrev pub left : List ExtHeader
  left = kept (Index i) new.headers

  abbrev byte : ℕ
  byte = slice_index p.base (number_offset p.version)

  -- how many bytes follow the base header with the new one, and the old headers with this length
  abbrev pub longer : ℕ
  longer = length (bytes_of (inserted i h p.headers)) + length p.payload

  abbrev pub old : List ExtHeader
  old = stating_at (jumbo_offset p) longer p.headers

  has : HasOption (jumbo_offset p) p.headers
  has = has_option p

  pub headers_are : new.headers ≡ linked_headers p.number (inserted i h old)
  headers_are = ap (linked_headers p.number) (stating_inserted (jumbo_offset p) longer i h p.headers has first)

  pub inside : i ≤ length old
  inside = omega (arith, within, stating_count (jumbo_offset p) longer p.headers)

  pub alike : Alike left old
  alike =
      subst (λ c. Alike (kept (Index i) c) old) (sym headers_are)
      (subst (Alike (kept (Index i) (linked_headers p.number (inserted i h old)))) (kept_index i 0 i h old (omega arith) inside) (kept_alike i 0 (linked_headers p.number (inserted i h old)) (inserted i h old) (linked_alike p.number (inserted i h old))))

  pub has_left : HasOption (jumbo_offset p) left
  has_left = alike_has (jumbo_offset p) left old alike (has_stating (jumbo_offset p) longer p.headers has)

  same : linked_headers p.number p.headers ≡ p.headers
  same = ap (λ m. linked_headers m p.headers) chain.number ∙ linked_same byte p.headers chain.chain.links

  links : linked_headers p.number left ≡ old
  links = alike_linked p.number left old alike ∙ (stating_linked (jumbo_offset p) longer p.number p.headers has ∙ ap (stating_at (jumbo_offset p) longer) same)

  back : linked_headers p.number (stating_at (jumbo_offset p) (following_len p) left) ≡ p.headers
  back =
      stating_linked (jumbo_offset p) (following_len p) p.number left has_left
      ∙ (ap (stating_at (jumbo_offset p) (following_len p)) links ∙ (stating_again (jumbo_offset p) longer (following_len p) p.headers has ∙ stating_same p))

  number : number_of_first left p.number ≡ byte
  number = alike_first p.number left old alike ∙ (stating_first (jumbo_offset p) longer p.number p.headers ∙ (ap (number_of_first p.headers) chain.number ∙ first_is byte p.headers chain.chain.links))

  pub size : length (bytes_of left) ≡ length (bytes_of p.headers)
  size = sym (joined_len left p.number) ∙ (ap (λ c. length (bytes_of c)) links ∙ stating_len (jumbo_offset p) longer p.headers has)

  -- the headers with the new one
  abbrev all : List ExtHeader
  all = stating p (inserted i h p.headers) p.payload

  pub has_all : HasOption (jumbo_offset p) (inserted i h p.headers)
  has_all = has_inserted (jumbo_offset p) i h p.headers has first

  pub new_len : following_len new ≡ longer
  new_len = omega (arith, joined_len all p.number, stating_len (jumbo_offset p) longer (inserted i h p.headers) has_all)

  pub base_size : length new.base ≡ length p.base
  base_size = stating_size p.version (slice_set p.base (number_offset p.version) (number_of_first all p.number)) (rewritten_field p all p.payload) ∙ length-set p.base (number_offset p.version) (number_of_first all p.number)

  pub field : is_unstated new ≡ is_unstated p → rewritten_field new left p.payload ≡ rewritten_field p p.headers p.payload
  field same = field_same p.version (is_unstated new) (is_unstated p) new.base p.base (length (bytes_of left) + length p.payload) (length (bytes_of p.headers) + length p.payload) same base_size (omega (arith, size))
    where
      field_same : (v : ℕ) (x y : Bool) (b d : List ℕ) (n k : ℕ) → x ≡ y → length b ≡ length d → n ≡ k → length_field v x b n ≡ length_field v y d k
      field_same v x y b d n k e f g = rw (e, f, g) refl

  module _ (states : is_unstated new ≡ is_unstated p) (jumbo : jumbo_offset new ≡ jumbo_offset p) where
    pub has_new : HasOption (jumbo_offset new) left
    has_new = subst (λ o. HasOption o left) (sym jumbo) has_left

    base : base_for new (stating new left p.payload) p.number p.payload ≡ base_stating p.version p.base (rewritten_field p p.headers p.payload)
    base =
        let t : ℕ = rewritten_field p p.headers p.payload in
        let o : ℕ = number_offset p.version in
        let first_number : number_of_first (stating new left p.payload) p.number ≡ byte = stating_first (jumbo_offset new) (length (bytes_of left) + length p.payload) p.number left ∙ number in
        ap (λ n. base_stating p.version (slice_set new.base o n) (rewritten_field new (stating new left p.payload) p.payload)) first_number
        ∙ (ap (base_stating p.version (slice_set new.base o byte)) (field_stating new left p.payload has_new ∙ field states)
        ∙ (twice p.version p.base (number_of_first all p.number) byte (rewritten_field p all p.payload) t
        ∙ ap (λ l. base_stating p.version l t) (set-get_or p.base o 0)))

    headers : linked_headers p.number (stating new left p.payload) ≡ p.headers
    headers = ap (λ o. linked_headers p.number (stating_at o (length (bytes_of left) + length p.payload) left)) jumbo ∙ (ap (λ n. linked_headers p.number (stating_at (jumbo_offset p) (n + length p.payload) left)) size ∙ back)

    pub restored : without (Index i) new ≡ restated p
    restored = ap (λ b. b ++ bytes_of (linked_headers p.number (stating new left p.payload)) ++ p.payload) base ∙ ap (λ c. base_stating p.version p.base (rewritten_field p p.headers p.payload) ++ bytes_of c ++ p.payload) headers

-- whether the packet states its length
unstated_is : (b : Bool) (f l k n : ℕ) (o : Option ℕ) → f ≡ (if b then 0 else l) → 0 < l → o ≡ (if f == 0 then None else Some k) → 0 < n → (not (is_some o) && not (n == 0)) ≡ b
unstated_is true f l k n o is more stated some = rw (stated, is, ne_eqb n 0 (λ e. omega (arith, e, some))) refl
unstated_is false f l k n o is more stated some = rw (stated, is, ne_eqb l 0 (λ e. omega (arith, e, more))) refl

inserted_some : (i : ℕ) (h : ExtHeader) (c : List ExtHeader) → is_header h.number h.bytes ≡ true → 0 < length (bytes_of (inserted i h c))
inserted_some i h c whole = omega (arith, inserted_len i c h, header-least h.number h.bytes (header_is h.number h.bytes whole))

pub record IsInsertable (a : Authentication) (i : ℕ) (h : ExtHeader) (p : DissectedParts) (room : ℕ) : Type 0 where
  pub whole : packet_fault p ≡ None
  pub header : is_header h.number h.bytes ≡ true
  pub first : i ≡ 0 → list_any is_options (take 1 p.headers) ≡ false
  pub jumbo : jumbo_fault (is_fragment_header h) p ≡ None
  pub fits : room_fault p (inserted i h p.headers) p.payload room ≡ None
  pub small : rewritten_field p (stating p (inserted i h p.headers) p.payload) p.payload < 65536

is_one : (a : Authentication) (i : ℕ) (h : ExtHeader) (p : DissectedParts) → header_fault a i h p ≡ None → is_header h.number h.bytes ≡ true
is_one a i h p e = grind (arith, common_steps)

insertable : (a : Authentication) (i : ℕ) (h : ExtHeader) (p : DissectedParts) (room : ℕ) → insertion_fault a i h p room ≡ None → IsInsertable a i h p room
insertable a i h p room e =
    let first = none_first (packet_fault p) _ e in
    let second = none_first (header_fault a i h p) _ first.1 in
    let third = none_first (jumbo_fault (is_fragment_header h) p) _ second.1 in
    record {
      whole = first.0;
      header = is_one a i h p second.0;
      first = insertion_first a i h p second.0;
      jumbo = third.0;
      fits = third.1;
      small = omega (arith, field_fits p (inserted i h p.headers) p.payload room third.1, field_stating p (inserted i h p.headers) p.payload (inserted_option a i h p room e));
    }

-- why the length of a packet whose length field is 0 can change
same_len : (jumbo same long fits : Bool) → jumbo ≡ false → (let o : Option RewriteError = if not jumbo then (if same then None else Some NoLength) else if not long then Some NotAJumbogram else if not fits then Some TooLong else None in o) ≡ None → same ≡ true
same_len true same long fits none e = absurd (false≢true (sym none))
same_len false true long fits none e = refl
same_len false false long fits none e = absurd (cc)

pub jumbo_len : (jumbo same long fits : Bool) → jumbo ≡ true → (let o : Option RewriteError = if not jumbo then (if same then None else Some NoLength) else if not long then Some NotAJumbogram else if not fits then Some TooLong else None in o) ≡ None → (long ≡ true) × (fits ≡ true)
jumbo_len false same long fits is e = absurd (false≢true is)
jumbo_len true same true true is e = (refl, refl)
jumbo_len true same true false is e = absurd (cc)
jumbo_len true same false fits is e = absurd (cc)

pub unstated_none : (p : DissectedParts) (c : List ExtHeader) (q : List ℕ) (room : ℕ) → is_unstated p ≡ true → room_fault p c q room ≡ None → unstated_fault p (length (bytes_of c) + length q) ≡ None
unstated_none p c q room u e =
    let first = none_first (if is_unstated p then unstated_fault p (length (bytes_of c) + length q) else None) _ e in
    sym (cond-true (is_unstated p) (unstated_fault p (length (bytes_of c) + length q)) None u) ∙ first.0

not_both : (b d : Bool) → (let o : Option RewriteError = if b && d then Some NotAJumbogram else None in o) ≡ None → d ≡ true → b ≡ false
not_both true true e is = absurd (cc)
not_both true false e is = absurd (false≢true is)
not_both false d e is = refl

-- The packet with the new header is a jumbogram if the old one is, and has the option at the same place.
module _ (a : Authentication) (i : ℕ) (h : ExtHeader) (room : ℕ) (p : DissectedParts) (chain : IsWholeChain p) (within : i ≤ length p.headers) (x : IsInsertable a i h p room) where
  abbrev changed : DissectedParts
  changed = new i h p chain within x.first

  abbrev length_with : ℕ
  length_with = longer i h p chain within x.first

  more : following_len p < length_with
  more = omega (arith, inserted_len i p.headers h, header-least h.number h.bytes (header_is h.number h.bytes x.header))

  pub must_state : is_unstated p ≡ true → is_jumbogram p ≡ false → ⊥
  must_state u none =
      let same : (length_with == following_len p) ≡ true =
      same_len (is_jumbogram p) (length_with == following_len p) (nat_lt 0xffff length_with) (nat_lt length_with 0x1_0000_0000) none (unstated_none p (inserted i h p.headers) p.payload room u x.fits) in
      omega (arith, eqb-true length_with (following_len p) same, more)

  module _ (states : is_unstated changed ≡ is_unstated p) (unfragmented : (k : ℕ) → jumbo_offset p ≡ Some k → is_some changed.fragment ≡ false) where
    offset_new : (o : Option ℕ) → jumbo_offset p ≡ o → jumbo_offset changed ≡ o
    offset_new None e = elim (cases_Bool (is_unstated p)) [
      | inl u ↦ absurd (must_state u (ap is_some e))
      | inr s ↦ unstated_no_jumbogram changed (states ∙ s)
    ]
    offset_new (Some k) e =
        let j : IsJumbogram p k = jumbogram_is p k e in
        let fits = jumbo_len (is_jumbogram p) (length_with == following_len p) (nat_lt 0xffff length_with) (nat_lt length_with 0x1_0000_0000) (ap is_some e) (unstated_none p (inserted i h p.headers) p.payload room j.unstated x.fits) in
        let len : following_len changed ≡ length_with = new_len i h p chain within x.first in
        let at : stating_offset length_with changed.headers ≡ Some k =
        ap (λ o. stating_offset length_with (linked_headers p.number (stating_at o length_with (inserted i h p.headers)))) e ∙ stated_new (following_len p) length_with k p.number i h p.headers (stated_is (following_len p) k p.headers j.stated) x.first in
        offset_is changed k (record {
          unstated = states ∙ j.unstated;
          whole = unfragmented k e;
          long = ap (nat_lt 0xffff) len ∙ fits.0;
          fits = ap (λ n. nat_lt n 0x1_0000_0000) len ∙ fits.1;
          stated = ap (λ n. stating_offset n changed.headers) len ∙ at;
        })

    pub offset_same : jumbo_offset changed ≡ jumbo_offset p
    offset_same = offset_new (jumbo_offset p) refl

module _ (a : Authentication) (i : ℕ) (h : ExtHeader) (room : ℕ) where
  abbrev StatesAsBefore : DissectedParts → Type 0
  StatesAsBefore p = insertion_fault a i h p room ≡ None → is_unstated (rewritten_parts p (inserted i h p.headers) p.number p.payload) ≡ is_unstated p

  abbrev StaysWhole : DissectedParts → Type 0
  StaysWhole p = insertion_fault a i h p room ≡ None → (k : ℕ) → jumbo_offset p ≡ Some k → is_some (rewritten_parts p (inserted i h p.headers) p.number p.payload).fragment ≡ false

  stays6 : (s b : List ℕ) → BeginIpv6 s b → StaysWhole (ipv6_dissected b s)
  stays6 s b v e k is =
      let p : DissectedParts = ipv6_dissected b s in
      let c : List ExtHeader = inserted i h p.headers in
      let none : list_any is_fragment_header p.headers ≡ false = no_fragment_header p.headers (jumbogram_is p k is).whole in
      let other : is_fragment_header h ≡ false = not_both (is_fragment_header h) (is_jumbogram p) (insertable a i h p room e).jumbo (ap is_some is) in
      no_fragment (linked_headers p.number (stating p c p.payload))
      (any_joined is_fragment_header p.number (stating p c p.payload) (λ _ _. refl) ∙ (any_stating is_fragment_header (jumbo_offset p) (length (bytes_of c) + length p.payload) c (λ _ _. refl)
      ∙ none_inserted is_fragment_header i h p.headers none other))

  stays4 : (s b : List ℕ) → BeginIpv4 s b → StaysWhole (ipv4_dissected b s)
  stays4 s b v e k is = (jumbogram_is (ipv4_dissected b s) k is).whole

  states6 : (s b : List ℕ) → BeginIpv6 s b → StatesAsBefore (ipv6_dissected b s)
  states6 s b v e =
      let p : DissectedParts = ipv6_dissected b s in
      let c : List ExtHeader = stating p (inserted i h p.headers) p.payload in
      let new : IsInsertable a i h p room = insertable a i h p room e in
      let t : ℕ = rewritten_field p c p.payload in
      let stated : payload_length (base_for p c p.number p.payload) ≡ t = stated6 b v.header c p.number t p.payload new.small in
      let long : length (bytes_of c) ≡ length (bytes_of (inserted i h p.headers)) = stating_len (jumbo_offset p) (length (bytes_of (inserted i h p.headers)) + length p.payload) (inserted i h p.headers) (inserted_option a i h p room e) in
      let some : 0 < length (bytes_of c) = omega (arith, long, inserted_some i h p.headers new.header) in
      let size : length (bytes_of (linked_headers p.number c)) ≡ length (bytes_of c) = joined_len c p.number in
      unstated_is (is_unstated p) t (length (bytes_of c) + length p.payload) (40 + t) (length (bytes_of (linked_headers p.number c)) + length p.payload) (rewritten_parts p (inserted i h p.headers) p.number p.payload).stated refl (omega (arith, some))
      (ap (λ (n : ℕ). let o : Option ℕ = if n == 0 then None else Some (40 + n) in o) stated) (omega (arith, some, size))

  states4 : (s b : List ℕ) → BeginIpv4 s b → StatesAsBefore (ipv4_dissected b s)
  states4 s b v e =
      let p : DissectedParts = ipv4_dissected b s in
      let c : List ExtHeader = stating p (inserted i h p.headers) p.payload in
      let new : IsInsertable a i h p room = insertable a i h p room e in
      let t : ℕ = rewritten_field p c p.payload in
      let stated : total_len (base_for p c p.number p.payload) ≡ t = stated4 b v.header c p.number t p.payload new.small in
      let long : length (bytes_of c) ≡ length (bytes_of (inserted i h p.headers)) = stating_len (jumbo_offset p) (length (bytes_of (inserted i h p.headers)) + length p.payload) (inserted i h p.headers) (inserted_option a i h p room e) in
      let some : 0 < length (bytes_of c) = omega (arith, long, inserted_some i h p.headers new.header) in
      let size : length (bytes_of (linked_headers p.number c)) ≡ length (bytes_of c) = joined_len c p.number in
      unstated_is (is_unstated p) t (length b + (length (bytes_of c) + length p.payload)) t (length (bytes_of (linked_headers p.number c)) + length p.payload) (rewritten_parts p (inserted i h p.headers) p.number p.payload).stated refl (omega (arith, some))
      (ap (λ (n : ℕ). let o : Option ℕ = if n == 0 then None else Some n in o) stated) (omega (arith, some, size))

  -- by the version
  version4 : (s : List ℕ) → base_end s ≡ None → version s ≡ 4 → (dissected s).version ≡ 4
  unfolding dissected
  version4 s none four = ap (λ (p : DissectedParts). p.version) (picked4 s (base_end s) (version s) _ _ none four)

  version6 : (s : List ℕ) → base_end s ≡ None → version s ≡ 6 → (dissected s).version ≡ 6
  unfolding dissected
  version6 s none six = rw (none, six) refl

  -- what is known of the packet
  pub record IsKnown (s : List ℕ) : Type 0 where
    pub insertable : IsInsertable a i h (dissected s) room
    pub chain : IsWholeChain (dissected s)
    pub states : is_unstated (rewritten_parts (dissected s) (inserted i h (dissected s).headers) (dissected s).number (dissected s).payload) ≡ is_unstated (dissected s)
    pub jumbo : jumbo_offset (rewritten_parts (dissected s) (inserted i h (dissected s).headers) (dissected s).number (dissected s).payload) ≡ jumbo_offset (dissected s)

  known_whole : (s : List ℕ) → IsWholeChain (dissected s) → StatesAsBefore (dissected s) → StaysWhole (dissected s) → insertion_fault a i h (dissected s) room ≡ None → IsKnown s
  known_whole s chain states stays e =
      let new : IsInsertable a i h (dissected s) room = insertable a i h (dissected s) room e in
      record {
        insertable = new;
        chain = chain;
        states = states e;
        jumbo = offset_same a i h room (dissected s) chain (index_within a i h (dissected s) room e) new (states e) (stays e);
      }

  known_based : (s : List ℕ) → base_end s ≡ None → insertion_fault a i h (dissected s) room ≡ None → IsKnown s
  known_based s none e =
      let whole : packet_fault (dissected s) ≡ None = (insertable a i h (dissected s) room e).whole in
      elim (cases_Bool (version s == 4)) [
        | inl four ↦
            let b : List ℕ = take (ipv4_header_len s) s in
            let v = begin_ipv4 s (version4 s none (eqb-true (version s) 4 four)) in
            known_whole s (whole_chain4 s b v whole) (subst StatesAsBefore (sym v.is) (states4 s b v)) (subst StaysWhole (sym v.is) (stays4 s b v)) e
        | inr other ↦
            let b : List ℕ = take 40 s in
            let six : version s ≡ 6 = (base6 s none (λ four. false≢true (sym other ∙ eq-eqb (version s) 4 four))).0 in
            let v = begin_ipv6 s (version6 s none six) in
            known_whole s (whole_chain6 s b v whole) (subst StatesAsBefore (sym v.is) (states6 s b v)) (subst StaysWhole (sym v.is) (stays6 s b v)) e
      ]

  known_by : (s : List ℕ) (o : Option End) → base_end s ≡ o → insertion_fault a i h (dissected s) room ≡ None → IsKnown s
  known_by s None none e = known_based s none e
  known_by s (Some x) some e = absurd (no_base s (base_none s (λ none. cc)) (insertable a i h (dissected s) room e).whole)

  pub known : (s : List ℕ) → insertion_fault a i h (dissected s) room ≡ None → IsKnown s
  known s e = known_by s (base_end s) refl e

  pub restores : (s : List ℕ) → insertion_fault a i h (dissected s) room ≡ None
      → without (Index i) (rewritten_parts (dissected s) (inserted i h (dissected s).headers) (dissected s).number (dissected s).payload) ≡ restated (dissected s)
  restores s e =
      let k : IsKnown s = known s e in
      restored i h (dissected s) k.chain (index_within a i h (dissected s) room e) k.insertable.first k.states k.jumbo
