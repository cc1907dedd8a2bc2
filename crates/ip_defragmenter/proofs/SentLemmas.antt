-- The headers of a first fragment, changed back.
use Rattle.std.proofs.Common.{◌≡◌, ◌≢◌, inl, inr, ℕ, ◌+◌, ◌-◌, ◌*◌, ◌/◌, ◌%◌, ◌≤◌, ◌<◌, List, take, drop, length, refl, sym, ap, ◌∙◌, arith}
use Rattle.std.specs.Prelude.{slice_set, slice_index, bit_and, ◌==◌, ◌||◌, not, false}
use Rattle.std.proofs.lemmas.Bool.{cond-true, cond-false, eq-eqb, ne_eqb, cases_eq, or_parts, eqb-true, not-false}
use Rattle.std.proofs.lemmas.Grind.{same_number_lists, and_high_numeral}
use Rattle.std.proofs.lemmas.Nat.{and_mask}
use Rattle.std.proofs.lemmas.Nat.Bits.{and_high}
use Rattle.std.proofs.lemmas.List.{get_or-take, length-set, length-take, get_or-set_other, get_or-set_same, get_or-drop}
use Rattle.ip_base.specs.Checksum.{with_word, checksum_of}
use Rattle.ip_base.proofs.ChecksumLemmas.{word_len, word_other}
use Rattle.ip_base.specs.Ipv4Header.{version, ipv4_header_len, total_len}
use Rattle.ip_base.specs.BaseHeaderFields.{ipv4_checksum}
use Rattle.ip_base.specs.Ipv6Header.{payload_length}
use Rattle.std.specs.Int.{from_be_bytes, w16}
use Rattle.ip_defragmenter.specs.Whole.{unchecked, ipv4_whole, ipv6_whole, whole_headers}
use Rattle.ip_defragmenter.specs.Sent.{IsSentIpv4, IsSentIpv6, ipv4_first, ipv6_first}

-- A byte of a list in which a word is changed, by its index.
word_high : (b : List ℕ) (i n : ℕ) → i < length b → slice_index (with_word b i n) i ≡ n / 256
word_high b i n less = get_or-set_other (slice_set b i (n / 256)) (i + 1) i (n % 256) 0 (λ e. omega (arith, e)) ∙ get_or-set_same b i (n / 256) 0 less

word_low : (b : List ℕ) (i n : ℕ) → i + 1 < length b → slice_index (with_word b i n) (i + 1) ≡ n % 256
word_low b i n less = get_or-set_same (slice_set b i (n / 256)) (i + 1) (n % 256) 0 (omega (arith, less, length-set b i (n / 256)))

-- A word of 16 bits by its two bytes.
word_bytes : (b : List ℕ) (i j : ℕ) → j < 2 → slice_index (take 2 (drop i b)) j ≡ slice_index b (i + j)
word_bytes b i j less = get_or-take 2 (drop i b) j 0 less ∙ get_or-drop i b j 0

word_is : (b : List ℕ) (i : ℕ) → from_be_bytes w16 (take 2 (drop i b)) ≡ 256 * slice_index b i + slice_index b (i + 1)
word_is b i =
    let high : slice_index (take 2 (drop i b)) 0 ≡ slice_index b i = word_bytes b i 0 (omega arith) ∙ ap (slice_index b) (omega arith) in
    omega (arith, high, word_bytes b i 1 (omega arith))

-- The two high bits of a byte alone may be set if the others aren't.
flags_clear : (high low : ℕ) → (not (bit_and high 0x20 == 0) || not (256 * bit_and high 0x1f + low == 0)) ≡ false → (high % 64 ≡ 0) × (low ≡ 0)
flags_clear high low e =
    let both = or_parts (not (bit_and high 0x20 == 0)) (not (256 * bit_and high 0x1f + low == 0)) e in
    let flag : bit_and high 0x20 ≡ 0 = eqb-true (bit_and high 0x20) 0 (not-false (bit_and high 0x20 == 0) both.0) in
    let offset : 256 * bit_and high 0x1f + low ≡ 0 = eqb-true (256 * bit_and high 0x1f + low) 0 (not-false (256 * bit_and high 0x1f + low == 0) both.1) in
    let one : bit_and high 0x20 ≡ (high / 32 % 2) * 32 = and_high high 1 5 in
    let five : bit_and high 0x1f ≡ high % 32 = and_mask high 5 in
    (omega (arith, flag, offset, one, five), omega (arith, offset))

module _ (s : List ℕ) (n link t : ℕ) (sent : IsSentIpv6 s n link) where
  lengths : payload_length s ≡ 256 * slice_index s 4 + slice_index s 5
  lengths = word_is s 4

  byte : slice_index s 5 < 256
  byte = sent.bytes 5 0 (omega (arith, sent.base, sent.within))

  front : List ℕ
  front = take n s

  size : length (take n s) ≡ n
  size = length-take n s ∙ omega (arith, sent.within)

  abbrev h : List ℕ
  h = ipv6_first s n link t

  h_len : length h ≡ n
  h_len = length-set (with_word (take n s) 4 t) link 44 ∙ (word_len (take n s) 4 t ∙ size)

  abbrev w : List ℕ
  w = ipv6_whole h link (slice_index s link) (length s - n)

  w_len : length w ≡ n
  w_len = length-set (with_word h 4 (length h - 40 + (length s - n))) link (slice_index s link) ∙ (word_len h 4 (length h - 40 + (length s - n)) ∙ h_len)

  length_is : length h - 40 + (length s - n) ≡ payload_length s
  length_is = omega (arith, h_len, sent.base, sent.within, sent.stated)

  at : (j : ℕ) → j < n → slice_index w j ≡ slice_index (take n s) j
  at j less = elim (cases_eq j link) [
    | inl e ↦ ap (slice_index w) e ∙ (get_or-set_same (with_word h 4 (length h - 40 + (length s - n))) link (slice_index s link) 0 (omega (arith, word_len h 4 (length h - 40 + (length s - n)), h_len, sent.field))
        ∙ (sym (get_or-take n s link 0 sent.field) ∙ ap (slice_index (take n s)) (sym e)))
    | inr d ↦ get_or-set_other (with_word h 4 (length h - 40 + (length s - n))) link j (slice_index s link) 0 d ∙ elim (cases_eq j 4) [
      | inl e ↦ ap (slice_index (with_word h 4 (length h - 40 + (length s - n)))) e ∙ (word_high h 4 (length h - 40 + (length s - n)) (omega (arith, h_len, sent.base))
          ∙ (omega (arith, length_is, byte, lengths) ∙ (sym (get_or-take n s 4 0 (omega (arith, sent.base))) ∙ ap (slice_index (take n s)) (sym e))))
      | inr d4 ↦ elim (cases_eq j 5) [
        | inl e ↦ ap (slice_index (with_word h 4 (length h - 40 + (length s - n)))) e ∙ (word_low h 4 (length h - 40 + (length s - n)) (omega (arith, h_len, sent.base))
            ∙ (omega (arith, length_is, byte, lengths) ∙ (sym (get_or-take n s 5 0 (omega (arith, sent.base))) ∙ ap (slice_index (take n s)) (sym e))))
        | inr d5 ↦ word_other h 4 (length h - 40 + (length s - n)) j d4 d5 ∙ (get_or-set_other (with_word (take n s) 4 t) link j 44 0 d ∙ word_other (take n s) 4 t j d4 d5)
      ]
    ]
  ]

  pub back6 : w ≡ take n s
  back6 = same_number_lists w (take n s) (w_len ∙ sym size) (λ j less. at j (omega (arith, less, w_len)))

  not4 : version h ≡ 6
  not4 = ap (λ x. x / 16) (get_or-set_other (with_word (take n s) 4 t) link 0 44 0 (λ e. omega (arith, e, sent.number)) ∙ (word_other (take n s) 4 t 0 (λ e. cc) (λ e. cc) ∙ get_or-take n s 0 0 (omega (arith, sent.base)))) ∙ sent.version

  pub whole6 : whole_headers h link (slice_index s link) (length s - n) ≡ take n s
  whole6 = cond-false (version h == 4) (ipv4_whole h (length s - n)) w (ne_eqb (version h) 4 (λ e. omega (arith, e, not4))) ∙ back6

module _ (s : List ℕ) (t x q : ℕ) (sent : IsSentIpv4 s) (all : q ≡ length s - ipv4_header_len s) where
  abbrev n : ℕ
  n = ipv4_header_len s

  least : 20 ≤ ipv4_header_len s
  least = omega (arith, sent.least)

  clear : (slice_index s 6 % 64 ≡ 0) × (slice_index s 7 ≡ 0)
  clear = flags_clear (slice_index s 6) (slice_index s 7) sent.alone

  totals : total_len s ≡ 256 * slice_index s 2 + slice_index s 3
  totals = word_is s 2

  sums : ipv4_checksum s ≡ 256 * slice_index s 10 + slice_index s 11
  sums = word_is s 10

  size4 : length (take n s) ≡ n
  size4 = length-take n s ∙ omega (arith, sent.within)

  abbrev marked : List ℕ
  marked = slice_set (with_word (take n s) 2 t) 6 (slice_index s 6 + 32)

  abbrev g : List ℕ
  g = ipv4_first s t x

  g_len : length g ≡ n
  g_len = word_len marked 10 x ∙ (length-set (with_word (take n s) 2 t) 6 (slice_index s 6 + 32) ∙ (word_len (take n s) 2 t ∙ size4))

  old : (j : ℕ) → j < n → j ≢ 2 → j ≢ 3 → j ≢ 6 → j ≢ 10 → j ≢ 11 → slice_index g j ≡ slice_index s j
  old j less p r u v y = word_other marked 10 x j v (λ e. y (omega (arith, e))) ∙ (get_or-set_other (with_word (take n s) 2 t) 6 j (slice_index s 6 + 32) 0 u ∙ (word_other (take n s) 2 t j p (λ e. r (omega (arith, e))) ∙ get_or-take n s j 0 less))

  flags_is : slice_index g 6 ≡ slice_index s 6 + 32
  flags_is = word_other marked 10 x 6 (λ e. cc) (λ e. cc) ∙ get_or-set_same (with_word (take n s) 2 t) 6 (slice_index s 6 + 32) 0 (omega (arith, word_len (take n s) 2 t, size4, least))

  cleared : bit_and (slice_index g 6) 0xc0 ≡ slice_index s 6
  cleared =
      let small : slice_index s 6 < 256 = sent.bytes 6 0 (omega (arith, least, sent.within)) in
      let fits : slice_index s 6 + 32 < 256 = omega (arith, small, clear.0) in
      ap (λ k. bit_and k 0xc0) flags_is ∙ omega (arith, and_high_numeral (slice_index s 6 + 32) 0xbf refl fits, clear.0)

  stated4 : length g + q ≡ total_len s
  stated4 = omega (arith, g_len, all, sent.within, sent.stated)

  abbrev first4 : List ℕ
  first4 = with_word g 2 (length g + q)

  abbrev second4 : List ℕ
  second4 = slice_set first4 6 (bit_and (slice_index g 6) 0xc0)

  abbrev third4 : List ℕ
  third4 = slice_set second4 7 0

  first4_len : length first4 ≡ n
  first4_len = word_len g 2 (length g + q) ∙ g_len

  second4_len : length second4 ≡ n
  second4_len = length-set first4 6 (bit_and (slice_index g 6) 0xc0) ∙ first4_len

  third4_len : length third4 ≡ n
  third4_len = length-set second4 7 0 ∙ second4_len

  byte3 : slice_index s 3 < 256
  byte3 = sent.bytes 3 0 (omega (arith, least, sent.within))

  third_at : (j : ℕ) → j < n → j ≢ 10 → j ≢ 11 → slice_index third4 j ≡ slice_index s j
  third_at j less p r = elim (cases_eq j 7) [
    | inl e ↦ ap (slice_index third4) e ∙ (get_or-set_same second4 7 0 0 (omega (arith, second4_len, least)) ∙ (sym clear.1 ∙ ap (slice_index s) (sym e)))
    | inr d7 ↦ get_or-set_other second4 7 j 0 0 d7 ∙ elim (cases_eq j 6) [
      | inl e ↦ ap (slice_index second4) e ∙ (get_or-set_same first4 6 (bit_and (slice_index g 6) 0xc0) 0 (omega (arith, first4_len, least)) ∙ (cleared ∙ ap (slice_index s) (sym e)))
      | inr d6 ↦ get_or-set_other first4 6 j (bit_and (slice_index g 6) 0xc0) 0 d6 ∙ elim (cases_eq j 2) [
        | inl e ↦ ap (slice_index first4) e ∙ (word_high g 2 (length g + q) (omega (arith, g_len, least)) ∙ (omega (arith, stated4, byte3, totals) ∙ ap (slice_index s) (sym e)))
        | inr d2 ↦ elim (cases_eq j 3) [
          | inl e ↦ ap (slice_index first4) e ∙ (word_low g 2 (length g + q) (omega (arith, g_len, least)) ∙ (omega (arith, stated4, byte3, totals) ∙ ap (slice_index s) (sym e)))
          | inr d3 ↦ word_other g 2 (length g + q) j d2 d3 ∙ old j less d2 d3 d6 p r
        ]
      ]
    ]
  ]

  base_len : (b : List ℕ) (k : ℕ) → length b ≡ n → length (with_word b 10 k) ≡ n
  base_len b k e = word_len b 10 k ∙ e

  -- With the checksum 0 it is the header that was sent, with the checksum 0.
  unchecked_is : unchecked g q ≡ with_word (take n s) 10 0
  unchecked_is = same_number_lists (with_word third4 10 0) (with_word (take n s) 10 0) (base_len third4 0 third4_len ∙ sym (base_len (take n s) 0 size4)) (λ j less.
      let within : j < n = omega (arith, less, base_len third4 0 third4_len) in
      elim (cases_eq j 10) [
        | inl e ↦ ap (slice_index (with_word third4 10 0)) e ∙ (word_high third4 10 0 (omega (arith, third4_len, least)) ∙ (sym (word_high (take n s) 10 0 (omega (arith, size4, least))) ∙ ap (slice_index (with_word (take n s) 10 0)) (sym e)))
        | inr d10 ↦ elim (cases_eq j 11) [
          | inl e ↦ ap (slice_index (with_word third4 10 0)) e ∙ (word_low third4 10 0 (omega (arith, third4_len, least)) ∙ (sym (word_low (take n s) 10 0 (omega (arith, size4, least))) ∙ ap (slice_index (with_word (take n s) 10 0)) (sym e)))
          | inr d11 ↦ word_other third4 10 0 j d10 d11 ∙ (third_at j within d10 d11 ∙ (sym (get_or-take n s j 0 within) ∙ sym (word_other (take n s) 10 0 j d10 d11)))
        ]
      ])

  abbrev zeroed : List ℕ
  zeroed = with_word (take n s) 10 0

  zeroed_len : length zeroed ≡ n
  zeroed_len = base_len (take n s) 0 size4

  checked_is : with_word zeroed 10 (checksum_of zeroed) ≡ take n s
  checked_is = same_number_lists (with_word zeroed 10 (checksum_of zeroed)) (take n s) (base_len zeroed (checksum_of zeroed) zeroed_len ∙ sym size4) (λ j less.
      let within : j < n = omega (arith, less, base_len zeroed (checksum_of zeroed) zeroed_len) in
      let byte11 : slice_index s 11 < 256 = sent.bytes 11 0 (omega (arith, least, sent.within)) in
      elim (cases_eq j 10) [
        | inl e ↦ ap (slice_index (with_word zeroed 10 (checksum_of zeroed))) e ∙ (word_high zeroed 10 (checksum_of zeroed) (omega (arith, zeroed_len, least)) ∙ (omega (arith, sent.checksum, byte11, sums) ∙ (sym (get_or-take n s 10 0 (omega (arith, least))) ∙ ap (slice_index (take n s)) (sym e))))
        | inr d10 ↦ elim (cases_eq j 11) [
          | inl e ↦ ap (slice_index (with_word zeroed 10 (checksum_of zeroed))) e ∙ (word_low zeroed 10 (checksum_of zeroed) (omega (arith, zeroed_len, least)) ∙ (omega (arith, sent.checksum, byte11, sums) ∙ (sym (get_or-take n s 11 0 (omega (arith, least))) ∙ ap (slice_index (take n s)) (sym e))))
          | inr d11 ↦ word_other zeroed 10 (checksum_of zeroed) j d10 d11 ∙ word_other (take n s) 10 0 j d10 d11
        ]
      ])

  is4 : version g ≡ 4
  is4 = ap (λ k. k / 16) (old 0 (omega (arith, least)) (λ e. cc) (λ e. cc) (λ e. cc) (λ e. cc) (λ e. cc)) ∙ sent.version

  pub whole4 : (link number : ℕ) → whole_headers g link number q ≡ take n s
  whole4 link number = cond-true (version g == 4) (ipv4_whole g q) (ipv6_whole g link number q) (eq-eqb (version g) 4 is4) ∙ (ap (λ b. with_word b 10 (checksum_of b)) unchecked_is ∙ checked_is)
