-- A packet that is rewritten twice, of which the first rewriting leaves no trace.
use Rattle.ip_spec.proofs.Common.{◌≡◌, ◌≢◌, ℕ, ◌+◌, ◌/◌, ◌%◌, List, length, length-set, inl, inr, refl, sym, ◌∙◌, ap, arith, Bool, true, false, cases_Bool, if◌then◌else◌, ◌==◌, slice_set, Option, None, ExtHeader, bytes_of, cleared_chain}
use Rattle.std.proofs.lemmas.List.{set-set}
use Rattle.ip_base.specs.Checksum.{with_word, checksum_of}
use Rattle.ip_dissect.specs.Extent.{ipv4_stated, ipv6_stated}
use Rattle.ip_dissect.specs.Fragment.{ipv6_fragment}
use Rattle.ip_dissect.specs.declared.fragment.Fragment.{Fragment}
use Rattle.ip_dissect.specs.Dissection.{DissectedParts, dissected}
use Rattle.ip_rewrite.specs.Base.{number_offset, without_checksum, ipv4_stating, length_field, base_stating, base_before}
use Rattle.ip_rewrite.specs.Headers.{number_of_first, linked_headers}
use Rattle.ip_rewrite.specs.Insertion.{inserted}
use Rattle.ip_rewrite.specs.Jumbogram.{is_unstated, stating_at}
use Rattle.ip_rewrite.specs.Order.{in_order}
use Rattle.ip_rewrite.specs.Rewritten.{joined_parts, rewritten_parts, rewritten_field, base_for, stating, room_fault}
use Rattle.ip_rewrite.specs.Selection.{kept}
use Rattle.ip_rewrite.specs.Without.{packet_fault}
use Rattle.ip_rewrite.specs.declared.which.Which.{Which}
use Rattle.ip_rewrite_laws.specs.Stating.{StateAlike}
use Rattle.ip_rewrite.proofs.DissectLemmas.{stating_size}
use Rattle.ip_rewrite.proofs.FrontLemmas.{joined_len}
use Rattle.ip_rewrite.proofs.Ipv6Lemmas.{same_parts}
use Rattle.ip_rewrite.proofs.JumbogramLemmas.{unstated_no_jumbogram}
use Rattle.ip_rewrite.proofs.RestoringLemmas.{word_set, word_word}
use Rattle.ip_rewrite_laws.proofs.ClearedLemmas.{linked_cleared}
use Rattle.ip_rewrite_laws.proofs.InsertedLemmas.{first_linked, linked_again, linked_inserted}
use Rattle.ip_rewrite_laws.proofs.OrderedLemmas.{linked_ordered}
use Rattle.ip_rewrite_laws.proofs.SelectionLemmas.{linked_kept}
use Rattle.ip_rewrite_laws.proofs.StatedLemmas.{still_states}

-- base headers that are changed twice
words_swap : (b : List ℕ) (i n j m : ℕ) → i ≢ j → i + 1 ≢ j → i ≢ j + 1 → i + 1 ≢ j + 1 → with_word (with_word b i n) j m ≡ with_word (with_word b j m) i n
words_swap b i n j m p q r s = ap (λ l. slice_set l (j + 1) (m % 256)) (word_set b i n j (m / 256) p q) ∙ word_set (slice_set b j (m / 256)) i n (j + 1) (m % 256) r s

twice6 : (b : List ℕ) (k n u t : ℕ) → with_word (slice_set (with_word (slice_set b 6 k) 4 u) 6 n) 4 t ≡ with_word (slice_set b 6 n) 4 t
twice6 b k n u t =
    ap (λ l. with_word l 4 t) (word_set (slice_set b 6 k) 4 u 6 n (λ e. omega (arith, e)) (λ e. omega (arith, e)) ∙ ap (λ l. with_word l 4 u) (set-set b 6 k n)) ∙ word_word (slice_set b 6 n) 4 u t

twice4 : (b : List ℕ) (k n u t : ℕ) → ipv4_stating (slice_set (ipv4_stating (slice_set b 9 k) u) 9 n) t ≡ ipv4_stating (slice_set b 9 n) t
twice4 b k n u t =
    let old : List ℕ = slice_set b 9 k in
    let new : List ℕ = slice_set b 9 n in
    let sum : ℕ = checksum_of (without_checksum old u) in
    let stated : ipv4_stating old u ≡ with_word (with_word old 2 u) 10 sum = word_word (with_word old 2 u) 10 0 sum in
    let named : slice_set (ipv4_stating old u) 9 n ≡ with_word (with_word new 2 u) 10 sum =
    ap (λ l. slice_set l 9 n) stated ∙ (word_set (with_word old 2 u) 10 sum 9 n (λ e. omega (arith, e)) (λ e. omega (arith, e))
    ∙ ap (λ l. with_word l 10 sum) (word_set old 2 u 9 n (λ e. omega (arith, e)) (λ e. omega (arith, e)) ∙ ap (λ l. with_word l 2 u) (set-set b 9 k n))) in
    let same : without_checksum (slice_set (ipv4_stating old u) 9 n) t ≡ without_checksum new t =
    ap (λ l. without_checksum l t) named
    ∙ (ap (λ l. with_word l 10 0) (words_swap (with_word new 2 u) 10 sum 2 t (λ e. omega (arith, e)) (λ e. omega (arith, e)) (λ e. omega (arith, e)) (λ e. omega (arith, e)) ∙ ap (λ l. with_word l 10 sum) (word_word new 2 u t))
    ∙ word_word (with_word new 2 t) 10 sum 0) in
    ap (λ l. with_word l 10 (checksum_of l)) same

twice : (v : ℕ) (b : List ℕ) (k n u t : ℕ) → base_stating v (slice_set (base_stating v (slice_set b (number_offset v) k) u) (number_offset v) n) t ≡ base_stating v (slice_set b (number_offset v) n) t
twice v b k n u t = elim (cases_Bool (v == 4)) [
  | inl s ↦ rw s (twice4 b k n u t)
  | inr s ↦ rw s (twice6 b k n u t)
]

base_again : (v : ℕ) (x y : Bool) (b : List ℕ) (i j k l t : ℕ) → x ≡ y → j ≡ k → base_before v x (base_stating v (slice_set b (number_offset v) i) t) j l ≡ base_before v y b k l
base_again v x y b i j k l t states first =
    let o : ℕ = number_offset v in
    let old : List ℕ = base_stating v (slice_set b o i) t in
    let size : length old ≡ length b = stating_size v (slice_set b o i) t ∙ length-set b o i in
    let field : length_field v y old l ≡ length_field v y b l = ap (λ n. if y then 0 else if v == 4 then n + l else l) size in
    rw (states, first) (ap (base_stating v (slice_set old o k)) field ∙ twice v b i k t (length_field v y b l))

fragment_again : (four : Bool) (x a b d : Option Fragment) → b ≡ d → (if four then (if four then x else a) else b) ≡ (if four then x else d)
fragment_again true x a b d e = refl
fragment_again false x a b d e = e

-- headers that are linked alike
first_same : (n : ℕ) (d e : List ExtHeader) → linked_headers n d ≡ linked_headers n e → number_of_first d n ≡ number_of_first e n
first_same n d e a = sym (first_linked n n d) ∙ (ap (λ c. number_of_first c n) a ∙ first_linked n n e)

len_same : (n : ℕ) (d e : List ExtHeader) → linked_headers n d ≡ linked_headers n e → length (bytes_of d) ≡ length (bytes_of e)
len_same n d e a = sym (joined_len d n) ∙ (ap (λ c. length (bytes_of c)) a ∙ joined_len e n)

-- The packet with the parts p gets the headers c and the payload q, and then others.
module _ (p : DissectedParts) (c : List ExtHeader) (m : ℕ) (q : List ℕ) where
  joined_again : (d e : List ExtHeader) (n : ℕ) (y : List ℕ) → is_unstated (joined_parts p c m q) ≡ is_unstated p → linked_headers n d ≡ linked_headers n e
      → joined_parts (joined_parts p c m q) d n y ≡ joined_parts p e n y
  joined_again d e n y states alike =
      let r : DissectedParts = joined_parts p c m q in
      let base : base_for r d n y ≡ base_for p e n y =
      ap (λ k. base_before p.version (is_unstated r) r.base (number_of_first d n) (k + length y)) (len_same n d e alike)
      ∙ base_again p.version (is_unstated r) (is_unstated p) p.base (number_of_first c m) (number_of_first d n) (number_of_first e n) (length (bytes_of e) + length y) (rewritten_field p c q) states (first_same n d e alike) in
      same_parts (joined_parts r d n y) (joined_parts p e n y) refl base (ap (λ b. if p.version == 4 then ipv4_stated b else ipv6_stated b) base) alike refl refl
      (fragment_again (p.version == 4) p.fragment (ipv6_fragment (linked_headers m c)) (ipv6_fragment (linked_headers n d)) (ipv6_fragment (linked_headers n e)) (ap ipv6_fragment alike)) refl refl refl

-- no option states the length of such a packet
plain : (p : DissectedParts) (c : List ExtHeader) (m : ℕ) (q : List ℕ) → is_unstated p ≡ false → rewritten_parts p c m q ≡ joined_parts p c m q
plain p c m q e = ap (λ (o : Option ℕ). joined_parts p (stating_at o (length (bytes_of c) + length q) c) m q) (unstated_no_jumbogram p e)

pub stated : (s : List ℕ) (c : List ExtHeader) (m : ℕ) (q : List ℕ) (room : ℕ) → packet_fault (dissected s) ≡ None → is_unstated (dissected s) ≡ false → room_fault (dissected s) c q room ≡ None
    → is_unstated (rewritten_parts (dissected s) c m q) ≡ false
stated s c m q room whole states fits = ap is_unstated (plain (dissected s) c m q states) ∙ still_states c m q room s whole states fits

module _ (p : DissectedParts) (c : List ExtHeader) (m : ℕ) (q : List ℕ) (n : ℕ) (y : List ℕ) where
  abbrev first : DissectedParts
  first = rewritten_parts p c m q

  pub again : (d : List ExtHeader) → StateAlike p first → rewritten_parts first d n y ≡ rewritten_parts p d n y
  again d s =
      ap (λ (o : Option ℕ). joined_parts first (stating_at o (length (bytes_of d) + length y) d) n y) s.option
      ∙ joined_again p (stating p c q) m q (stating p d y) (stating p d y) n y s.field refl

  module _ (old : is_unstated p ≡ false) (new : is_unstated first ≡ false) where
    pub headers_again : (d e : List ExtHeader) → linked_headers n d ≡ linked_headers n e → rewritten_parts first d n y ≡ rewritten_parts p e n y
    headers_again d e alike = plain first d n y new ∙ (joined_again p (stating p c q) m q d e n y (new ∙ sym old) alike ∙ sym (plain p e n y old))

    -- its own headers are those that it was given
    own : first.headers ≡ linked_headers m c
    own = ap (λ (r : DissectedParts). r.headers) (plain p c m q old)

    changed : (f : List ExtHeader → List ExtHeader) → linked_headers n (f (linked_headers m c)) ≡ linked_headers n (f c) → rewritten_parts first (f first.headers) n y ≡ rewritten_parts p (f c) n y
    changed f alike = headers_again (f first.headers) (f c) (ap (λ d. linked_headers n (f d)) own ∙ alike)

    pub without_again : (w : Which) → rewritten_parts first (kept w first.headers) n y ≡ rewritten_parts p (kept w c) n y
    without_again w = changed (kept w) (linked_kept w 0 m n c)

    pub inserted_again : (i : ℕ) (h : ExtHeader) → rewritten_parts first (inserted i h first.headers) n y ≡ rewritten_parts p (inserted i h c) n y
    inserted_again i h = changed (inserted i h) (linked_inserted i m n h c)

    pub cleared_again : rewritten_parts first (cleared_chain first.headers) n y ≡ rewritten_parts p (cleared_chain c) n y
    cleared_again = changed cleared_chain (linked_cleared m n c)

    pub ordered_again : rewritten_parts first (in_order first.headers) n y ≡ rewritten_parts p (in_order c) n y
    ordered_again = changed in_order (linked_ordered m n c)

    pub payload_again : rewritten_parts first first.headers n y ≡ rewritten_parts p c n y
    payload_again = changed (λ d. d) (linked_again m n c)
