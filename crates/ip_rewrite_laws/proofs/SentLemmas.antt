-- An IPv6 packet with other headers before the fragmented part can be fragmented there, as it was before.
use Rattle.ip_spec.proofs.Common.{◌≡◌, ◌≢◌, ℕ, zero, suc, ◌+◌, ◌-◌, ◌/◌, ◌%◌, ◌≤◌, ◌<◌, List, [], ◌∷◌, ◌++◌, length, take, drop, refl, sym, ◌∙◌, ap, subst, arith, inl, inr, Bool, true, false, false≢true, cases_Bool, eq-eqb, ◌==◌, ◌||◌, if◌then◌else◌, list_any, take-append-drop, raw, fragment, auth, unreserved_bits, cleared_header, cleared_chain, slice_set, slice_index, length-set, length-append, take-append_seam, drop-append_seam, get_or_append_left, get_or-set_other, get_or-set_same, All-append, All-set, All-take, All-drop, AllByRecursion, AreBytes, IsHeader, IsChain, AreLinked, next_header, ExtHeader, bytes_of, leads_to}
use Rattle.std.proofs.lemmas.Bool.{or_from, or_left, or_parts}
use Rattle.std.proofs.lemmas.Nat.{and_le_r}
use Rattle.ip_base.specs.Checksum.{with_word}
use Rattle.ip_base.specs.Ipv6Header.{IsIpv6Header, payload_length}
use Rattle.ip_spec.proofs.HeaderLemmas.{header-least}
use Rattle.ip_dissect.specs.Fragment.{is_fragment_header}
use Rattle.ip_defragmenter.specs.Sent.{IsSentIpv6}
use Rattle.ip_defragmenter.specs.Split.{link_after}
use Rattle.ip_defragmenter_laws.specs.Ipv6.{IsIpv6Part}
use Rattle.ip_rewrite.specs.Headers.{is_options, number_of_first, linked_headers}
use Rattle.ip_rewrite.specs.Insertion.{inserted}
use Rattle.ip_rewrite.specs.Selection.{selects, kept_from}
use Rattle.ip_rewrite.specs.Writing.{front_with, link_of}
use Rattle.ip_rewrite.specs.declared.which.Which.{Which}
use Rattle.ip_rewrite.proofs.ChainLemmas.{AreHeaders, NoZero, joined_chain}
use Rattle.ip_rewrite.proofs.FieldLemmas.{range_same}
use Rattle.ip_rewrite.proofs.FrontLemmas.{front_len, link_less}
use Rattle.ip_rewrite.proofs.InsertionLemmas.{all_inserted}
use Rattle.ip_rewrite.proofs.StatingLemmas.{any_joined}
use Rattle.ip_rewrite_laws.proofs.MadeLemmas.{link_is, taken, dropped}

-- numbers and bytes of headers are bytes
abbrev pub HasBytes : ExtHeader → Type 0
HasBytes h = (h.number < 256) × AreBytes h.bytes

first_bytes : (b r : List ℕ) → AreBytes (b ++ r) → AreBytes b
first_bytes b r bytes = subst AreBytes (take-append_seam b r) (All-take (λ x. x < 256) (length b) (b ++ r) bytes)

last_bytes : (b r : List ℕ) → AreBytes (b ++ r) → AreBytes r
last_bytes b r bytes = subst AreBytes (drop-append_seam b r) (All-drop (λ x. x < 256) (length b) (b ++ r) bytes)

next_small : (h : ExtHeader) → IsHeader h.number h.bytes → AreBytes h.bytes → next_header h.bytes < 256
next_small h is bytes = bytes 0 0 (omega (arith, header-least h.number h.bytes is))

pub have_bytes : (n : ℕ) (c : List ExtHeader) → n < 256 → AreHeaders c → AreLinked n c → AreBytes (bytes_of c) → AllByRecursion HasBytes c
have_bytes n [] small are links bytes = tt
have_bytes n (h ∷ c) small are links bytes =
    let own : AreBytes h.bytes = first_bytes h.bytes (bytes_of c) bytes in
    ((omega (arith, links.0, small), own), have_bytes (next_header h.bytes) c (next_small h are.0 own) are.1 links.1 (last_bytes h.bytes (bytes_of c) bytes))

pub leads_small : (n : ℕ) (c : List ExtHeader) → n < 256 → AreHeaders c → AllByRecursion HasBytes c → leads_to n c < 256
leads_small n [] small are have = small
leads_small n (h ∷ c) small are have = leads_small (next_header h.bytes) c (next_small h are.0 have.0.1) are.1 have.1

first_small : (g : ℕ) (c : List ExtHeader) → g < 256 → AllByRecursion HasBytes c → number_of_first c g < 256
first_small g [] small have = small
first_small g (h ∷ c) small have = have.0.0

linked_bytes : (g : ℕ) (c : List ExtHeader) → g < 256 → AllByRecursion HasBytes c → AreBytes (bytes_of (linked_headers g c))
linked_bytes g [] small have = λ k d less. absurd (omega (arith, less))
linked_bytes g (h ∷ c) small have =
    All-append (λ x. x < 256) (slice_set h.bytes 0 (number_of_first c g)) (bytes_of (linked_headers g c))
    (All-set (λ x. x < 256) h.bytes 0 (number_of_first c g) (first_small g c small have.1) have.0.1) (linked_bytes g c small have.1)

pub front_bytes : (b : List ℕ) (v g : ℕ) (c : List ExtHeader) (r : List ℕ) → AreBytes b → v < 65536 → g < 256 → AllByRecursion HasBytes c → AreBytes r → AreBytes (front_with 6 (with_word b 4 v) c g ++ r)
front_bytes b v g c r base fits small have rest =
    let P : ℕ → Type 0 = λ x. x < 256 in
    let word : AreBytes (with_word b 4 v) = All-set P (slice_set b 4 (v / 256)) 5 (v % 256) (omega arith) (All-set P b 4 (v / 256) (omega (arith, fits)) base) in
    let first : AreBytes (slice_set (with_word b 4 v) 6 (number_of_first c g)) = All-set P (with_word b 4 v) 6 (number_of_first c g) (first_small g c small have) word in
    All-append P (front_with 6 (with_word b 4 v) c g) r (All-append P (slice_set (with_word b 4 v) 6 (number_of_first c g)) (bytes_of (linked_headers g c)) first (linked_bytes g c small have)) rest

-- no fragment header is among headers that are kept
pub none_among : (t : ExtHeader → Bool) (w : Which) (i : ℕ) (c : List ExtHeader) → list_any t c ≡ false → list_any t (kept_from w i c) ≡ false
none_among t w i [] e = refl
none_among t w i (h ∷ c) e =
    let parts = or_parts (t h) (list_any t c) e in
    pick (selects w i h) parts.0 (none_among t w (i + 1) c parts.1)
  where
    pick : (b : Bool) → t h ≡ false → list_any t (kept_from w (i + 1) c) ≡ false → list_any t (if b then kept_from w (i + 1) c else h ∷ kept_from w (i + 1) c) ≡ false
    pick true own rest = rest
    pick false own rest = rw (own, rest) refl

-- or among headers with one more
pub none_inserted : (t : ExtHeader → Bool) (i : ℕ) (c : List ExtHeader) (h : ExtHeader) → t h ≡ false → list_any t c ≡ false → list_any t (inserted i h c) ≡ false
none_inserted t i c h own none = joined (take i c) (drop i c) (ap (list_any t) (take-append-drop i c) ∙ none)
  where
    joined : (d e : List ExtHeader) → list_any t (d ++ e) ≡ false → list_any t (d ++ h ∷ e) ≡ false
    joined [] e rest = or_from (t h) (list_any t e) own rest
    joined (g ∷ d) e rest = (let parts = or_parts (t g) (list_any t (d ++ e)) rest in or_from (t g) (list_any t (d ++ h ∷ e)) parts.0 (joined d e parts.1))

-- or among cleared ones
pub none_cleared : (c : List ExtHeader) → list_any is_fragment_header (cleared_chain c) ≡ list_any is_fragment_header c
none_cleared [] = refl
none_cleared (h ∷ c) = ap (λ b. is_fragment_header h || b) (none_cleared c)

-- Hop-by-hop options come first among headers with one more.
pub zero_inserted : (i : ℕ) (h : ExtHeader) (c d : List ExtHeader) (m : ℕ) → NoZero (drop 1 c) → (i ≡ 0 → list_any is_options (take 1 (linked_headers m c ++ d)) ≡ false) → ((i ≡ 0 → ⊥) → is_options h ≡ false)
    → NoZero (drop 1 (inserted i h c))
zero_inserted zero h [] d m are first later = tt
zero_inserted zero h (g ∷ c) d m are first later = (λ e. false≢true (sym (first refl) ∙ or_left (is_options g) false (eq-eqb g.number 0 e)), are)
zero_inserted (suc i) h [] d m are first later = tt
zero_inserted (suc i) h (g ∷ c) d m are first later = all_inserted (λ (k : ExtHeader). k.number ≢ 0) i c h are (λ e. false≢true (sym (later (λ z. omega (arith, z))) ∙ eq-eqb h.number 0 e))

-- cleared headers consist of bytes
cleared_byte : (n : ℕ) (b : List ℕ) → AreBytes b → AreBytes (cleared_header n b)
cleared_byte n b bytes =
    let P : ℕ → Type 0 = λ x. x < 256 in
    let low : ℕ = unreserved_bits (slice_index b 3) in
    elim (cases_Bool (n == 44)) [
      | inl s ↦ rw s (All-set P (slice_set b 1 0) 3 low (omega (arith, and_le_r (slice_index b 3) 0xf9)) (All-set P b 1 0 (omega arith) bytes))
      | inr s ↦ elim (cases_Bool (n == 51)) [
        | inl t ↦ rw (s, t) (All-set P (slice_set b 2 0) 3 0 (omega arith) (All-set P b 2 0 (omega arith) bytes))
        | inr t ↦ rw (s, t) bytes
      ]
    ]

pub cleared_bytes : (c : List ExtHeader) → AllByRecursion HasBytes c → AllByRecursion HasBytes (cleared_chain c)
cleared_bytes [] have = tt
cleared_bytes (h ∷ c) have = ((have.0.0, cleared_byte h.number h.bytes have.0.1), cleared_bytes c have.1)

pub header_small : (n : ℕ) (b : List ℕ) → IsHeader n b → n < 256
header_small n b (raw (inl e) is) = omega (arith, e)
header_small n b (raw (inr (inl e)) is) = omega (arith, e)
header_small n b (raw (inr (inr e)) is) = omega (arith, e)
header_small n b (fragment e is) = omega (arith, e)
header_small n b (auth e is) = omega (arith, e)

-- The packet s has the base header b, the headers k and the bytes r.
module _ (s b : List ℕ) (k : List ExtHeader) (g : ℕ) (r : List ℕ) (is : s ≡ front_with 6 b k g ++ r) (header : IsIpv6Header b) (headers : AreHeaders k) (states : payload_length b ≡ length (bytes_of k) + length r) where
  abbrev n : ℕ
  n = 40 + length (bytes_of k)

  abbrev link : ℕ
  link = link_after 40 k

  abbrev base : List ℕ
  base = slice_set b 6 (number_of_first k g)

  base_len : length base ≡ 40
  base_len = length-set b 6 (number_of_first k g) ∙ header.len

  front_size : length (front_with 6 b k g) ≡ n
  front_size = front_len 6 b k g ∙ ap (λ x. x + length (bytes_of k)) header.len

  size : length s ≡ n + length r
  size = ap length is ∙ (length-append (front_with 6 b k g) r ∙ ap (λ x. x + length r) front_size)

  byte : (j : ℕ) → j < 40 → slice_index s j ≡ slice_index base j
  byte j less =
      ap (λ x. slice_index x j) is
      ∙ (get_or_append_left (front_with 6 b k g) r 0 j (omega (arith, less, front_size))
      ∙ get_or_append_left base (bytes_of (linked_headers g k)) 0 j (omega (arith, less, base_len)))

  other : (j : ℕ) → j < 40 → (j ≡ 6 → ⊥) → slice_index s j ≡ slice_index b j
  other j less d = byte j less ∙ get_or-set_other b 6 j (number_of_first k g) 0 d

  far : (c : List ExtHeader) → 6 ≤ link_after 40 c
  far [] = omega arith
  far (h ∷ c) = omega arith

  pub is_sent : AreBytes s → IsSentIpv6 s n link
  is_sent bytes = record {
    bytes = bytes;
    version = ap (λ x. x / 16) (other 0 (omega arith) (λ e. cc)) ∙ header.version;
    base = omega arith;
    within = omega (arith, size);
    number = far k;
    field = omega (arith, link_is b k header.len, link_less 6 b k (omega (arith, header.len)) headers, header.len);
    stated = omega (arith, range_same b s 4 (other 4 (omega arith) (λ e. cc)) (other 5 (omega arith) (λ e. cc)), states, size);
  }

  led_link : link_after 40 (linked_headers g k) ≡ link
  led_link = link_is b (linked_headers g k) header.len ∙ (same k 6 b b refl ∙ sym (link_is b k header.len))
    where
      same : (c : List ExtHeader) (l : ℕ) (x y : List ℕ) → length x ≡ length y → link_of l x (linked_headers g c) ≡ link_of l y c
      same [] l x y e = refl
      same (h ∷ c) l x y e = omega (arith, e, same c 0 (slice_set h.bytes 0 (number_of_first c g)) h.bytes (length-set h.bytes 0 (number_of_first c g)))

  -- It is fragmented as another packet.
  pub is_part : (id start end m l : ℕ) (t : List ℕ) (c : List ExtHeader) → IsIpv6Part t m l id start end c → drop m t ≡ r → length (bytes_of k) + 8 + (end - start) ≤ 65535
      → NoZero (drop 1 k) → list_any is_fragment_header k ≡ false → IsIpv6Part s n link id start end (linked_headers g k)
  is_part id start end m l t c part same fits later none =
      let rest : drop n s ≡ r = dropped s b k g r is header.len headers in
      let long : length (drop n s) ≡ length (drop m t) = ap length (rest ∙ sym same) in
      record {
        units = part.units;
        order = part.order;
        within = omega (arith, part.within, long);
        several = λ first. (let less : end < length (drop m t) = part.several first in omega (arith, less, long));
        fits = omega (arith, fits);
        identification = part.identification;
        chain = subst (λ (x : ℕ). IsChain x (linked_headers g k)) (sym (byte 6 (omega arith) ∙ get_or-set_same b 6 (number_of_first k g) 0 (omega (arith, header.len)))) (joined_chain g k headers later);
        headers =
            let whole : drop 40 (take n s) ≡ bytes_of (linked_headers g k) =
            ap (drop 40) (taken s b k g r is header.len headers) ∙ (ap (λ x. drop x (front_with 6 b k g)) (sym base_len) ∙ drop-append_seam base (bytes_of (linked_headers g k))) in
            sym whole;
        none = any_joined is_fragment_header g k (λ _ _. refl) ∙ none;
        place = led_link;
      }
