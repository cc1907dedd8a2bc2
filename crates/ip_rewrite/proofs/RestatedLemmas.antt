-- A packet whose length and checksum are stated anew.
use Rattle.ip_spec.proofs.Common.{◌≡◌, ℕ, ◌+◌, ◌-◌, ◌*◌, ◌/◌, ◌%◌, ◌≤◌, ◌<◌, List, ◌++◌, length, take, drop, inl, inr, subst, refl, sym, ◌∙◌, ap, arith, common_steps, Bool, true, false, false≢true, cases_Bool, eqb-true, ne_eqb, cond-false, if◌then◌else◌, ◌&&◌, ◌==◌, not, nat_lt, slice_set, slice_index, length-append, length-drop, length-take-le, length-take, get_or-take, Option, Some, None, is_some, AreBytes, bytes_of, from_be_bytes}
use Rattle.std.specs.Prelude.{max}
use Rattle.std.specs.Int.{w16}
use Rattle.std.proofs.lemmas.List.{set-get_or}
use Rattle.ip_base.specs.Ipv4Header.{ipv4_header_len, total_len, protocol}
use Rattle.ip_base.specs.Ipv6Header.{payload_length, ipv6_next_header}
use Rattle.ip_base.specs.BaseHeaderFields.{ipv4_checksum}
use Rattle.ip_base.specs.Checksum.{with_word, checksum_of}
use Rattle.ip_dissect.specs.Extent.{packet_bytes, missing_of, ipv4_stated, ipv6_stated, ipv4_chain, ipv6_chain}
use Rattle.ip_dissect.specs.End.{has_error, is_too_short}
use Rattle.ip_dissect.specs.Dissection.{DissectedParts, ipv4_dissected, ipv6_dissected, dissected}
use Rattle.ip_dissect.specs.declared.end.End.{End}
use Rattle.ip_dissect.proofs.JoinedLemmas.{joined}
use Rattle.ip_dissect.proofs.LaterLemmas.{chain_to_later-longest}
use Rattle.ip_dissect.proofs.Ipv4Lemmas.{ipv4_prefix}
use Rattle.ip_dissect.proofs.DissectedLemmas.{BeginIpv4, begin_ipv4, BeginIpv6, begin_ipv6}
use Rattle.ip_rewrite.specs.Base.{length_field, base_stating}
use Rattle.ip_rewrite.specs.Rewritten.{rewritten_field, restated}
use Rattle.ip_rewrite.specs.Without.{packet_fault}
use Rattle.ip_rewrite.proofs.FieldLemmas.{word_bytes}
use Rattle.ip_rewrite.proofs.RestoringLemmas.{word_word}
use Rattle.ip_rewrite.proofs.DissectLemmas.{whole_packet}

-- a word that is stored where it was
word_value : (b : List ℕ) (i : ℕ) → from_be_bytes w16 (take 2 (drop i b)) ≡ 256 * slice_index b i + slice_index b (i + 1)
word_value b i =
    let high : slice_index (take 2 (drop i b)) 0 ≡ slice_index b i = word_bytes b i 0 (omega arith) ∙ ap (slice_index b) (omega arith) in
    omega (arith, high, word_bytes b i 1 (omega arith))

word_same : (b : List ℕ) (i n : ℕ) → slice_index b (i + 1) < 256 → n ≡ from_be_bytes w16 (take 2 (drop i b)) → with_word b i n ≡ b
word_same b i n small is =
    let high : n / 256 ≡ slice_index b i = omega (arith, is, word_value b i, small) in
    let low : n % 256 ≡ slice_index b (i + 1) = omega (arith, is, word_value b i, small) in
    ap (λ x. slice_set (slice_set b i x) (i + 1) (n % 256)) high ∙ (ap (λ l. slice_set l (i + 1) (n % 256)) (set-get_or b i 0) ∙ (ap (slice_set b (i + 1)) low ∙ set-get_or b (i + 1) 0))

-- a byte of the base header
first_small : (s : List ℕ) (k j : ℕ) → AreBytes s → j < k → j < length s → slice_index (take k s) j < 256
first_small s k j bytes less within = let same : slice_index (take k s) j ≡ slice_index s j = get_or-take k s j 0 less in omega (arith, same, bytes j 0 within)

-- how many bytes follow the base header, if a length of k bytes is stated
follow : (b s : List ℕ) (k n r : ℕ) (o : Option ℕ) → o ≡ Some k → missing_of o (length s) ≡ 0 → length b ≤ k → length b + n + r ≡ length s → r ≡ length s - length (packet_bytes b o s) → length b + n ≡ k
follow b s k n r o is none least all rest =
    let here : k - length s ≡ 0 = ap (λ (t : Option ℕ). missing_of t (length s)) (sym is) ∙ none in
    let most : max k (length b) ≡ k = omega (arith, least) in
    let size : length (packet_bytes b o s) ≡ k = ap (λ (t : Option ℕ). length (packet_bytes b t s)) is ∙ (ap (λ j. length (take j s)) most ∙ length-take-le k s (omega (arith, here))) in
    omega (arith, size, all, rest, here)

-- the length field
field6 : (t n : ℕ) (b : List ℕ) (o : Option ℕ) → o ≡ (if t == 0 then None else Some (40 + t)) → ((t ≡ 0 → ⊥) → n ≡ t) → length_field 6 (not (is_some o) && not (n == 0)) b n ≡ t
field6 t n b o is follows = elim (cases_Bool (t == 0)) [
  | inl s ↦ none (n == 0) (eqb-true t 0 s) (is ∙ ap (λ (x : Bool). let r : Option ℕ = if x then None else Some (40 + t) in r) s) refl
  | inr s ↦ ap (λ (r : Option ℕ). length_field 6 (not (is_some r) && not (n == 0)) b n) (is ∙ ap (λ (x : Bool). let r : Option ℕ = if x then None else Some (40 + t) in r) s) ∙ follows (λ e. false≢true (sym s ∙ ap (λ k. k == 0) e))
]
  where
    none : (z : Bool) → t ≡ 0 → o ≡ None → (n == 0) ≡ z → length_field 6 (not (is_some o) && not (n == 0)) b n ≡ t
    none true zero unstated e = rw (unstated, e) (eqb-true n 0 e ∙ sym zero)
    none false zero unstated e = rw (unstated, e) (sym zero)

module _ (s b : List ℕ) (v : BeginIpv6 s b) (whole : packet_fault (ipv6_dissected b s) ≡ None) where
  abbrev p6 : DissectedParts
  p6 = ipv6_dissected b s

  parts6 : p6.base ++ bytes_of p6.headers ++ p6.payload ++ p6.padding ≡ s
  parts6 = joined b s (ipv6_stated b) (ipv6_next_header b) (ipv6_chain b s) v.prefix (chain_to_later-longest _ _).has.0.prefix

  sizes6 : length b + (length (bytes_of p6.headers) + length p6.payload) + length p6.padding ≡ length s
  sizes6 = omega (arith, ap length (sym parts6), length-append (b ++ bytes_of p6.headers ++ p6.payload) p6.padding, length-append (b ++ bytes_of p6.headers) p6.payload, length-append b (bytes_of p6.headers))

  length6 : rewritten_field p6 p6.headers p6.payload ≡ payload_length b
  length6 = field6 (payload_length b) (length (bytes_of p6.headers) + length p6.payload) b (ipv6_stated b) refl (λ some.
      let is : ipv6_stated b ≡ Some (40 + payload_length b) = cond-false (payload_length b == 0) None (Some (40 + payload_length b)) (ne_eqb (payload_length b) 0 some) in
      let all : length b + (length (bytes_of p6.headers) + length p6.payload) ≡ 40 + payload_length b =
      follow b s (40 + payload_length b) (length (bytes_of p6.headers) + length p6.payload) (length p6.padding) (ipv6_stated b) is (whole_packet p6 whole).all_here (omega (arith, v.header.len)) sizes6 (length-drop (length (packet_bytes b (ipv6_stated b) s)) s) in
      omega (arith, all, v.header.len))

  same6 : slice_index b 5 < 256 → restated p6 ++ p6.padding ≡ s
  same6 small = ap (λ l. l ++ bytes_of p6.headers ++ p6.payload ++ p6.padding) (word_same b 4 (rewritten_field p6 p6.headers p6.payload) small length6) ∙ parts6

field4 : (t n : ℕ) (b : List ℕ) (o : Option ℕ) → o ≡ Some t → length b + n ≡ t → length_field 4 (not (is_some o) && not (n == 0)) b n ≡ t
field4 t n b o is follows = ap (λ (r : Option ℕ). length_field 4 (not (is_some r) && not (n == 0)) b n) is ∙ follows

long_enough : (short : Bool) (x y : End) → has_error x ≡ true → has_error (if short then x else y) ≡ false → short ≡ false
long_enough true x y wrong none = absurd (false≢true (sym none ∙ wrong))
long_enough false x y wrong none = refl

not_short : (t k : ℕ) → (not (t == 0) && nat_lt t k) ≡ false → (t ≡ 0 → ⊥) → k ≤ t
not_short t k e some = grind (arith, common_steps)

is_stated : (t : ℕ) → is_some (let o : Option ℕ = if t == 0 then None else Some t in o) ≡ true → t ≡ 0 → ⊥
is_stated t e zero = false≢true (sym (ap (λ (n : ℕ). is_some (let o : Option ℕ = if n == 0 then None else Some n in o)) zero) ∙ e)

module _ (s b : List ℕ) (v : BeginIpv4 s b) (whole : packet_fault (ipv4_dissected b s) ≡ None) (stated : is_some (ipv4_stated b) ≡ true) where
  abbrev p4 : DissectedParts
  p4 = ipv4_dissected b s

  parts4 : p4.base ++ bytes_of p4.headers ++ p4.payload ++ p4.padding ≡ s
  parts4 = joined b s (ipv4_stated b) (protocol b) (ipv4_chain b s) v.prefix (ipv4_prefix b _).prefix

  sizes4 : length b + (length (bytes_of p4.headers) + length p4.payload) + length p4.padding ≡ length s
  sizes4 = omega (arith, ap length (sym parts4), length-append (b ++ bytes_of p4.headers ++ p4.payload) p4.padding, length-append (b ++ bytes_of p4.headers) p4.payload, length-append b (bytes_of p4.headers))

  least : length b ≤ total_len b
  least = not_short (total_len b) (length b) (long_enough (is_too_short b) _ _ refl (whole_packet p4 whole).no_error) (is_stated (total_len b) stated)

  length4 : rewritten_field p4 p4.headers p4.payload ≡ total_len b
  length4 =
      let is : ipv4_stated b ≡ Some (total_len b) = cond-false (total_len b == 0) None (Some (total_len b)) (ne_eqb (total_len b) 0 (is_stated (total_len b) stated)) in
      field4 (total_len b) (length (bytes_of p4.headers) + length p4.payload) b (ipv4_stated b) is
      (follow b s (total_len b) (length (bytes_of p4.headers) + length p4.payload) (length p4.padding) (ipv4_stated b) is (whole_packet p4 whole).all_here least sizes4 (length-drop (length (packet_bytes b (ipv4_stated b) s)) s))

  same4 : slice_index b 3 < 256 → slice_index b 11 < 256 → ipv4_checksum b ≡ checksum_of (with_word b 10 0) → restated p4 ++ p4.padding ≡ s
  same4 small low right =
      let t : ℕ = rewritten_field p4 p4.headers p4.payload in
      let len : with_word b 2 t ≡ b = word_same b 2 t small length4 in
      let sum : with_word b 10 (checksum_of (with_word b 10 0)) ≡ b = word_same b 10 (checksum_of (with_word b 10 0)) low (sym right) in
      let base : base_stating 4 b t ≡ b = ap (λ l. with_word (with_word l 10 0) 10 (checksum_of (with_word l 10 0))) len ∙ (word_word b 10 0 (checksum_of (with_word b 10 0)) ∙ sum) in
      ap (λ l. l ++ bytes_of p4.headers ++ p4.payload ++ p4.padding) base ∙ parts4

pub restated6 : (s : List ℕ) → AreBytes s → packet_fault (dissected s) ≡ None → (dissected s).version ≡ 6 → restated (dissected s) ++ (dissected s).padding ≡ s
restated6 s bytes whole six =
    let b : List ℕ = take 40 s in
    let v : BeginIpv6 s b = begin_ipv6 s six in
    let size : length b ≡ 40 = v.header.len in
    let within : 40 ≤ length s = omega (arith, size, length-take 40 s) in
    subst (λ (p : DissectedParts). packet_fault p ≡ None → restated p ++ p.padding ≡ s) (sym v.is) (λ e. same6 s b v e (first_small s 40 5 bytes (omega arith) (omega (arith, within)))) whole

pub restated4 : (s : List ℕ) → AreBytes s → packet_fault (dissected s) ≡ None → (dissected s).version ≡ 4 → is_some (dissected s).stated ≡ true
    → ipv4_checksum (dissected s).base ≡ checksum_of (with_word (dissected s).base 10 0) → restated (dissected s) ++ (dissected s).padding ≡ s
restated4 s bytes whole four stated right =
    let k : ℕ = ipv4_header_len s in
    let b : List ℕ = take k s in
    let v : BeginIpv4 s b = begin_ipv4 s four in
    let least : 20 ≤ length b = omega (arith, v.header.least, v.header.len) in
    let size : length b ≡ length (take k s) = refl in
    let enough : 20 ≤ k = omega (arith, least, length-take k s) in
    let small : (j : ℕ) → j < 20 → slice_index b j < 256 = λ j less. first_small s k j bytes (omega (arith, less, enough)) (omega (arith, less, least, length-take k s)) in
    subst (λ (p : DissectedParts). packet_fault p ≡ None → is_some p.stated ≡ true → ipv4_checksum p.base ≡ checksum_of (with_word p.base 10 0) → restated p ++ p.padding ≡ s) (sym v.is)
    (λ e t r. same4 s b v e t (small 3 (omega arith)) (small 11 (omega arith)) r) whole stated right
