-- The fragments that are made of an IPv4 packet.
use Rattle.ip_spec.proofs.Common.{◌≡◌, ◌≢◌, ℕ, ◌+◌, ◌*◌, ◌/◌, ◌%◌, ◌-◌, ◌≤◌, ◌<◌, ◌++◌, List, Bool, true, false, length, take, drop, sym, ap, ◌∙◌, arith, eq-eqb, ne_eqb, eqb-true, lt-ltb, length-take, length-drop, length-append, length-set, append_assoc, take-append-drop, ◌==◌, get_or-set_same, get_or-set_other, get_or_append_left, get_or-take}
use Rattle.std.specs.Prelude.{slice_index, slice_set, bit_and, not, ◌||◌, nat_lt, if◌then◌else◌}
use Rattle.std.proofs.lemmas.Bool.{or_parts, not-false, not_from_false, not_from_true}
use Rattle.std.proofs.lemmas.Grind.{same_number_lists}
use Rattle.std.proofs.lemmas.List.{get_or-drop, take-take}
use Rattle.std.proofs.lemmas.Nat.{and_mask}
use Rattle.std.proofs.lemmas.Nat.Bits.{and_high}
use Rattle.std.specs.Int.{from_be_bytes, w16}
use Rattle.ip_base.specs.Checksum.{with_word, checksum_of}
use Rattle.ip_base.proofs.ChecksumLemmas.{word_len, word_other}
use Rattle.ip_base.specs.Ipv4Header.{IsIpv4Header, ipv4_header_len, total_len, ipv4_fragment_offset, ipv4_more_fragments}
use Rattle.ip_dissect.specs.Dissection.{dissected}
use Rattle.ip_dissect.specs.End.{has_error}
use Rattle.ip_defragmenter.specs.Sent.{IsSentIpv4, ipv4_base, ipv4_first}
use Rattle.ip_defragmenter_laws.specs.Ipv4.{IsIpv4Fragment, IsIpv4Part, ipv4_fragment_bytes, ipv4_fragment_header, ipv4_payload, with_options, with_place}
use Rattle.ip_defragmenter_laws.specs.Piece.{piece_from}
use Rattle.ip_defragmenter_laws.proofs.Ipv4Lemmas.{payload4, short4}
use Rattle.ip_defragmenter_laws.proofs.MarkedLemmas.{set_same}
use Rattle.ip_defragmenter_laws.proofs.ReadKeyLemmas.{word_is}

-- A word that was set.
pub word_high : (b : List ℕ) (i n : ℕ) → i < length b → slice_index (with_word b i n) i ≡ n / 256
word_high b i n less = get_or-set_other (slice_set b i (n / 256)) (i + 1) i (n % 256) 0 (λ e. omega (arith, e)) ∙ get_or-set_same b i (n / 256) 0 less

pub word_low : (b : List ℕ) (i n : ℕ) → i + 1 < length b → slice_index (with_word b i n) (i + 1) ≡ n % 256
word_low b i n less = get_or-set_same (slice_set b i (n / 256)) (i + 1) (n % 256) 0 (omega (arith, less, length-set b i (n / 256)))

-- Ranges of equal bytes are equal.
pub same_range : (a b : List ℕ) (n i : ℕ) → i + n ≤ length a → i + n ≤ length b → ((j : ℕ) → i ≤ j → j < i + n → slice_index a j ≡ slice_index b j) → take n (drop i a) ≡ take n (drop i b)
same_range a b n i in_a in_b same =
    let len_a : length (take n (drop i a)) ≡ n = omega (arith, length-take n (drop i a), length-drop i a, in_a) in
    let len_b : length (take n (drop i b)) ≡ n = omega (arith, length-take n (drop i b), length-drop i b, in_b) in
    same_number_lists (take n (drop i a)) (take n (drop i b)) (len_a ∙ sym len_b) (λ j less.
    let within : j < n = omega (arith, less, len_a) in
    get_or-take n (drop i a) j 0 within ∙ (get_or-drop i a j 0 ∙ (same (i + j) (omega arith) (omega (arith, within)) ∙ (sym (get_or-drop i b j 0) ∙ sym (get_or-take n (drop i b) j 0 within)))))

flags_clear : (high low : ℕ) → (not (bit_and high 0x20 == 0) || not (256 * bit_and high 0x1f + low == 0)) ≡ false → (high % 64 ≡ 0) × (low ≡ 0)
flags_clear high low e =
    let both = or_parts (not (bit_and high 0x20 == 0)) (not (256 * bit_and high 0x1f + low == 0)) e in
    let flag : bit_and high 0x20 ≡ 0 = eqb-true (bit_and high 0x20) 0 (not-false (bit_and high 0x20 == 0) both.0) in
    let offset : 256 * bit_and high 0x1f + low ≡ 0 = eqb-true (256 * bit_and high 0x1f + low) 0 (not-false (256 * bit_and high 0x1f + low == 0) both.1) in
    let one : bit_and high 0x20 ≡ (high / 32 % 2) * 32 = and_high high 1 5 in
    let five : bit_and high 0x1f ≡ high % 32 = and_mask high 5 in
    (omega (arith, flag, offset, one, five), omega (arith, offset))

-- The flag and the offset that are read.
flag_is : (high offset : ℕ) (more : Bool) → high % 64 ≡ 0 → offset / 256 < 32 → not (bit_and (high + (if more then 32 else 0) + offset / 256) 0x20 == 0) ≡ more
flag_is high offset true clear small =
    let one : bit_and (high + 32 + offset / 256) 0x20 ≡ ((high + 32 + offset / 256) / 32 % 2) * 32 = and_high (high + 32 + offset / 256) 1 5 in
    not_from_false (bit_and (high + 32 + offset / 256) 0x20 == 0) (ne_eqb (bit_and (high + 32 + offset / 256) 0x20) 0 (λ e. omega (arith, e, one, clear, small)))
flag_is high offset false clear small =
    let one : bit_and (high + 0 + offset / 256) 0x20 ≡ ((high + 0 + offset / 256) / 32 % 2) * 32 = and_high (high + 0 + offset / 256) 1 5 in
    not_from_true (bit_and (high + 0 + offset / 256) 0x20 == 0) (eq-eqb (bit_and (high + 0 + offset / 256) 0x20) 0 (omega (arith, one, clear, small)))

offset_is : (high offset : ℕ) (more : Bool) → high % 64 ≡ 0 → offset / 256 < 32 → bit_and (high + (if more then 32 else 0) + offset / 256) 0x1f ≡ offset / 256
offset_is high offset true clear small = (let five : bit_and (high + 32 + offset / 256) 0x1f ≡ (high + 32 + offset / 256) % 32 = and_mask (high + 32 + offset / 256) 5 in omega (arith, five, clear, small))
offset_is high offset false clear small = (let five : bit_and (high + 0 + offset / 256) 0x1f ≡ (high + 0 + offset / 256) % 32 = and_mask (high + 0 + offset / 256) 5 in omega (arith, five, clear, small))

module _ (s options : List ℕ) (start end : ℕ) (sent : IsSentIpv4 s) (is : IsIpv4Part s options start end) where
  abbrev t : ℕ
  t = 20 + length options + (end - start)

  abbrev more : Bool
  more = nat_lt end (length (ipv4_payload s))

  abbrev o : ℕ
  o = start / 8

  abbrev a0 : List ℕ
  a0 = take 20 s ++ options

  abbrev a1 : List ℕ
  a1 = slice_set a0 0 (69 + length options / 4)

  abbrev a2 : List ℕ
  a2 = with_options s options t

  abbrev v6 : ℕ
  v6 = slice_index a2 6 + (if more then 32 else 0) + o / 256

  abbrev a3 : List ℕ
  a3 = slice_set a2 6 v6

  abbrev a4 : List ℕ
  a4 = with_place a2 more o

  abbrev x : ℕ
  x = checksum_of (with_word a4 10 0)

  abbrev b : List ℕ
  b = ipv4_fragment_header s options start (end - start) more

  long : 20 ≤ length s
  long = omega (arith, sent.least, sent.within)

  clear : (slice_index s 6 % 64 ≡ 0) × (slice_index s 7 ≡ 0)
  clear = flags_clear (slice_index s 6) (slice_index s 7) sent.alone

  len0 : length a0 ≡ 20 + length options
  len0 = omega (arith, length-append (take 20 s) options, length-take 20 s, long)

  len1 : length a1 ≡ 20 + length options
  len1 = length-set a0 0 (69 + length options / 4) ∙ len0

  len2 : length a2 ≡ 20 + length options
  len2 = word_len a1 2 t ∙ len1

  len3 : length a3 ≡ 20 + length options
  len3 = length-set a2 6 v6 ∙ len2

  len4 : length a4 ≡ 20 + length options
  len4 = length-set a3 7 (o % 256) ∙ len3

  len : length b ≡ 20 + length options
  len = word_len a4 10 x ∙ len4

  -- bytes that stay
  at0 : (j : ℕ) → j < 20 → slice_index a0 j ≡ slice_index s j
  at0 j less = get_or_append_left (take 20 s) options 0 j (omega (arith, less, length-take 20 s, long)) ∙ get_or-take 20 s j 0 less

  at2 : (j : ℕ) → j < 20 → j ≢ 0 → j ≢ 2 → j ≢ 3 → slice_index a2 j ≡ slice_index s j
  at2 j less d0 d2 d3 = word_other a1 2 t j d2 (λ e. d3 (omega (arith, e))) ∙ (get_or-set_other a0 0 j (69 + length options / 4) 0 d0 ∙ at0 j less)

  from2 : (j : ℕ) → j ≢ 6 → j ≢ 7 → j ≢ 10 → j ≢ 11 → slice_index b j ≡ slice_index a2 j
  from2 j d6 d7 d10 d11 = word_other a4 10 x j d10 (λ e. d11 (omega (arith, e))) ∙ (get_or-set_other a3 7 j (o % 256) 0 d7 ∙ get_or-set_other a2 6 j v6 0 d6)

  byte0 : slice_index b 0 ≡ 69 + length options / 4
  byte0 = from2 0 (λ e. cc) (λ e. cc) (λ e. cc) (λ e. cc) ∙ (word_other a1 2 t 0 (λ e. cc) (λ e. cc) ∙ get_or-set_same a0 0 (69 + length options / 4) 0 (omega (arith, len0)))

  few : length options ≤ 40
  few = omega (arith, is.fewer)

  header : IsIpv4Header b
  header = record {
    version = omega (arith, byte0, few);
    least = omega (arith, byte0, few);
    len = omega (arith, len, byte0, few, is.words);
  }

  total : total_len b ≡ t
  total =
      let high : slice_index b 2 ≡ t / 256 = from2 2 (λ e. cc) (λ e. cc) (λ e. cc) (λ e. cc) ∙ word_high a1 2 t (omega (arith, len1)) in
      let low : slice_index b 3 ≡ t % 256 = from2 3 (λ e. cc) (λ e. cc) (λ e. cc) (λ e. cc) ∙ word_low a1 2 t (omega (arith, len1)) in
      omega (arith, word_is b 2, high, low)

  byte6 : slice_index b 6 ≡ slice_index s 6 + (if more then 32 else 0) + o / 256
  byte6 =
      word_other a4 10 x 6 (λ e. cc) (λ e. cc) ∙ (get_or-set_other a3 7 6 (o % 256) 0 (λ e. cc) ∙ (get_or-set_same a2 6 v6 0 (omega (arith, len2))
      ∙ ap (λ (k : ℕ). k + (if more then 32 else 0) + o / 256) (at2 6 (omega arith) (λ e. cc) (λ e. cc) (λ e. cc))))

  byte7 : slice_index b 7 ≡ o % 256
  byte7 = word_other a4 10 x 7 (λ e. cc) (λ e. cc) ∙ get_or-set_same a3 7 (o % 256) 0 (omega (arith, len3))

  small : o / 256 < 32
  small = omega (arith, is.order, is.within, payload4 s sent, short4 s sent)

  more_is : ipv4_more_fragments b ≡ more
  more_is = ap (λ (k : ℕ). not (bit_and k 0x20 == 0)) byte6 ∙ flag_is (slice_index s 6) o more clear.0 small

  place : 8 * ipv4_fragment_offset b ≡ start
  place =
      let high : bit_and (slice_index b 6) 0x1f ≡ o / 256 = ap (λ (k : ℕ). bit_and k 0x1f) byte6 ∙ offset_is (slice_index s 6) o more clear.0 small in
      omega (arith, high, byte7, is.units)

  stay : (j : ℕ) → j < 20 → j ≢ 0 → j ≢ 2 → j ≢ 3 → j ≢ 6 → j ≢ 7 → j ≢ 10 → j ≢ 11 → slice_index b j ≡ slice_index s j
  stay j less d0 d2 d3 d6 d7 d10 d11 = from2 j d6 d7 d10 d11 ∙ at2 j less d0 d2 d3

  range : (n i : ℕ) → 12 ≤ i → i + n ≤ 20 → take n (drop i b) ≡ take n (drop i s)
  range n i low high = same_range b s n i (omega (arith, high, len)) (omega (arith, high, long)) (λ j from to. stay j (omega (arith, to, high))
      (λ e. omega (arith, e, from, low)) (λ e. omega (arith, e, from, low)) (λ e. omega (arith, e, from, low)) (λ e. omega (arith, e, from, low)) (λ e. omega (arith, e, from, low)) (λ e. omega (arith, e, from, low)) (λ e. omega (arith, e, from, low)))

  identification : take 2 (drop 4 b) ≡ take 2 (drop 4 s)
  identification = same_range b s 2 4 (omega (arith, len)) (omega (arith, long)) (λ j from to. stay j (omega (arith, to))
      (λ e. omega (arith, e, from)) (λ e. omega (arith, e, from)) (λ e. omega (arith, e, from)) (λ e. omega (arith, e, to)) (λ e. omega (arith, e, to)) (λ e. omega (arith, e, to)) (λ e. omega (arith, e, to)))

  bytes_len : length (take (end - start) (drop start (ipv4_payload s))) ≡ end - start
  bytes_len = omega (arith, length-take (end - start) (drop start (ipv4_payload s)), length-drop start (ipv4_payload s), is.within, is.order)

  -- The first one.
  base_len : length (ipv4_base s) ≡ ipv4_header_len s
  base_len = length-take (ipv4_header_len s) s ∙ omega (arith, sent.within)

  whole_base : start ≡ 0 → a0 ≡ ipv4_base s
  whole_base zero_start =
      let n : ℕ = ipv4_header_len s in
      let front : take 20 s ≡ take 20 (take n s) = sym (take-take 20 n s (omega (arith, sent.least))) in
      ap (λ (y : List ℕ). y ++ options) front ∙ (ap (λ (y : List ℕ). take 20 (take n s) ++ y) (is.first zero_start) ∙ take-append-drop 20 (take n s))

  first : start ≡ 0 → b ≡ ipv4_first s t x
  first zero_start =
      let n : ℕ = ipv4_header_len s in
      let size : 20 + length options ≡ n = sym len0 ∙ (ap length (whole_base zero_start) ∙ base_len) in
      let v0 : slice_index a0 0 ≡ 69 + length options / 4 = at0 0 (omega arith) ∙ omega (arith, size, sent.version, sent.least) in
      let first1 : a1 ≡ ipv4_base s = set_same a0 0 (69 + length options / 4) (omega (arith, len0)) v0 ∙ whole_base zero_start in
      let flag : v6 ≡ slice_index s 6 + 32 =
      ap (λ (c : Bool). slice_index a2 6 + (if c then 32 else 0) + o / 256) (lt-ltb end (length (ipv4_payload s)) (is.several zero_start))
      ∙ omega (arith, at2 6 (omega arith) (λ e. cc) (λ e. cc) (λ e. cc), zero_start) in
      let seven : slice_index a3 7 ≡ o % 256 = get_or-set_other a2 6 7 v6 0 (λ e. cc) ∙ (at2 7 (omega arith) (λ e. cc) (λ e. cc) (λ e. cc) ∙ omega (arith, clear.1, zero_start)) in
      ap (λ (y : List ℕ). with_word y 10 x) (set_same a3 7 (o % 256) (omega (arith, len3)) seven
      ∙ (ap (slice_set a2 6) flag ∙ ap (λ (y : List ℕ). slice_set (with_word y 2 t) 6 (slice_index s 6 + 32)) first1))

  pub ipv4_made : (padding : List ℕ) → (start ≡ 0 → has_error (dissected (ipv4_fragment_bytes s options start end ++ padding)).end ≡ false)
      → IsIpv4Fragment s (piece_from (ipv4_payload s) start end) (ipv4_fragment_bytes s options start end ++ padding)
  ipv4_made padding whole = record {
    base = b;
    padding = padding;
    joined = append_assoc b (take (end - start) (drop start (ipv4_payload s))) padding;
    header = header;
    options = omega (arith, byte0, few, is.fewer);
    stated = omega (arith, total, len, bytes_len);
    source = range 4 12 (omega arith) (omega arith);
    destination = range 4 16 (omega arith) (omega arith);
    number = stay 9 (omega arith) (λ e. cc) (λ e. cc) (λ e. cc) (λ e. cc) (λ e. cc) (λ e. cc) (λ e. cc);
    identification = ap (from_be_bytes w16) identification;
    ecn = ap (λ (k : ℕ). k % 4) (stay 1 (omega arith) (λ e. cc) (λ e. cc) (λ e. cc) (λ e. cc) (λ e. cc) (λ e. cc) (λ e. cc));
    offset = place;
    more = more_is;
    first = λ zero_start. (t, (x, first zero_start));
    whole = whole;
  }
