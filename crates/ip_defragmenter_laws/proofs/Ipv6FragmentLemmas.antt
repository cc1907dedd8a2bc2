-- The fragments that are made of an IPv6 packet.
use Rattle.ip_spec.proofs.Common.{◌≡◌, ◌≢◌, ℕ, ◌+◌, ◌*◌, ◌/◌, ◌%◌, ◌-◌, ◌≤◌, ◌<◌, ◌++◌, List, [], ◌∷◌, suc, Bool, true, false, length, take, drop, refl, sym, ap, ◌∙◌, subst, arith, inl, inr, ExtHeader, bytes_of, AllByRecursion, eq-eqb, ne_eqb, lt-ltb, length-take, length-drop, length-append, length-set, append_assoc, append-nil, take-append-drop, ◌==◌, get_or-set_same, get_or-set_other, get_or-take, cases_eq}
use Rattle.std.specs.Prelude.{slice_index, slice_set, bit_and, ◌||◌, nat_lt, if◌then◌else◌}
use Rattle.std.specs.List.{list_any}
use Rattle.std.proofs.lemmas.Bool.{not_from_false, not_from_true}
use Rattle.std.proofs.lemmas.Grind.{same_number_lists}
use Rattle.std.proofs.lemmas.List.{get_or-drop, set-append_right}
use Rattle.std.proofs.lemmas.Nat.{and_mask, from_be_bytes-to_be_bytes_4}
use Rattle.std.proofs.lemmas.Nat.Bits.{and_high}
use Rattle.ip_base.specs.Checksum.{with_word}
use Rattle.ip_base.proofs.ChecksumLemmas.{word_len, word_other}
use Rattle.ip_base.specs.Ipv6Header.{payload_length, ipv6_next_header}
use Rattle.ip_spec.specs.Chain.{AreLinked, IsChain}
use Rattle.ip_spec.specs.Fields.{flag_bit, next_header, offset_bits}
use Rattle.ip_spec.specs.Header.{IsHeader, raw, fragment, auth}
use Rattle.ip_spec.proofs.HeaderLemmas.{header-least}
use Rattle.ip_spec.proofs.StepLemmas.{all_more}
use Rattle.ip_dissect.specs.Dissection.{dissected}
use Rattle.ip_dissect.specs.End.{has_error}
use Rattle.ip_dissect.specs.Fragment.{is_fragment_header}
use Rattle.ip_defragmenter.specs.Sent.{IsSentIpv6, ipv6_first}
use Rattle.ip_defragmenter.specs.Split.{link_after}
use Rattle.ip_defragmenter_laws.specs.Ipv6.{IsIpv6Fragment, IsIpv6Part, fragment_header_bytes, ipv6_fragment_bytes}
use Rattle.ip_defragmenter_laws.specs.Piece.{piece_from}
use Rattle.ip_defragmenter_laws.proofs.Ipv4FragmentLemmas.{same_range, word_high, word_low}
use Rattle.ip_defragmenter_laws.proofs.ReadKeyLemmas.{word_is}

abbrev AreHeaders : List ExtHeader → Type 0
AreHeaders c = AllByRecursion (λ h. IsHeader h.number h.bytes) c

abbrev NoZero : List ExtHeader → Type 0
NoZero c = AllByRecursion (λ h. h.number ≢ 0) c

-- the headers, of which the last one leads to this number
abbrev lead : ℕ → ExtHeader → ExtHeader
lead m h = record { number = h.number; bytes = slice_set h.bytes 0 m }

abbrev leading_to : ℕ → List ExtHeader → List ExtHeader
leading_to m [] = []
leading_to m (h ∷ []) = lead m h ∷ []
leading_to m (h ∷ g ∷ c) = h ∷ leading_to m (g ∷ c)

header_leading : (n : ℕ) (b : List ℕ) (m : ℕ) → IsHeader n b → IsHeader n (slice_set b 0 m)
header_leading n b m (raw k h) = raw k (record { len = length-set b 0 m ∙ (h.len ∙ ap (λ (x : ℕ). 8 * (x + 1)) (sym (get_or-set_other b 0 1 m 0 (λ e. cc)))) })
header_leading n b m (fragment k h) = fragment k (record { len = length-set b 0 m ∙ h.len })
header_leading n b m (auth k h) =
    let same : slice_index (slice_set b 0 m) 1 ≡ slice_index b 1 = get_or-set_other b 0 1 m 0 (λ e. cc) in
    auth k (record { not_zero = omega (arith, same, h.not_zero); len = length-set b 0 m ∙ (h.len ∙ ap (λ (x : ℕ). 4 * (x + 2)) (sym same)) })

led_headers : (m : ℕ) (c : List ExtHeader) → AreHeaders c → AreHeaders (leading_to m c)
led_headers m [] are = tt
led_headers m (h ∷ []) are = (header_leading h.number h.bytes m are.0, tt)
led_headers m (h ∷ g ∷ c) are = (are.0, led_headers m (g ∷ c) are.1)

led_links : (n m : ℕ) (h : ExtHeader) (c : List ExtHeader) (x : ExtHeader) → AreHeaders (h ∷ c) → x.number ≡ m → AreLinked n (h ∷ c) → AreLinked n (leading_to m (h ∷ c) ++ x ∷ [])
led_links n m h [] x are number links =
    let first : next_header (slice_set h.bytes 0 m) ≡ m = get_or-set_same h.bytes 0 m 0 (omega (arith, header-least h.number h.bytes are.0)) in
    (links.0, (number ∙ sym first, tt))
led_links n m h (g ∷ c) x are number links = (links.0, led_links (next_header h.bytes) m g c x are.1 number links.1)

no_zero : (m : ℕ) (c : List ExtHeader) (x : ExtHeader) → x.number ≢ 0 → NoZero c → NoZero (leading_to m c ++ x ∷ [])
no_zero m [] x own are = (own, tt)
no_zero m (h ∷ []) x own are = (are.0, (own, tt))
no_zero m (h ∷ g ∷ c) x own are = (are.0, no_zero m (g ∷ c) x own are.1)

led_zero : (m : ℕ) (c : List ExtHeader) (x : ExtHeader) → x.number ≢ 0 → NoZero (drop 1 c) → NoZero (drop 1 (leading_to m c ++ x ∷ []))
led_zero m [] x own are = tt
led_zero m (h ∷ []) x own are = (own, tt)
led_zero m (h ∷ g ∷ c) x own are = no_zero m (g ∷ c) x own are

led_none : (m : ℕ) (c : List ExtHeader) → list_any is_fragment_header (leading_to m c) ≡ list_any is_fragment_header c
led_none m [] = refl
led_none m (h ∷ []) = refl
led_none m (h ∷ g ∷ c) = ap (λ (b : Bool). is_fragment_header h || b) (led_none m (g ∷ c))

-- the offset of the last header
abbrev last_at : List ExtHeader → ℕ
last_at [] = 0
last_at (h ∷ []) = 0
last_at (h ∷ g ∷ c) = length h.bytes + last_at (g ∷ c)

one_less : (h g : ExtHeader) (c : List ExtHeader) → length (h ∷ g ∷ c) - 1 ≡ suc (length (g ∷ c) - 1)
one_less h g c = omega arith

before_last : (c : List ExtHeader) → length (bytes_of (take (length c - 1) c)) ≡ last_at c
before_last [] = refl
before_last (h ∷ []) = refl
before_last (h ∷ g ∷ c) =
    ap (λ (k : ℕ). length (bytes_of (take k (h ∷ g ∷ c)))) (one_less h g c)
    ∙ (length-append h.bytes (bytes_of (take (length (g ∷ c) - 1) (g ∷ c))) ∙ ap (λ (k : ℕ). length h.bytes + k) (before_last (g ∷ c)))

led_at : (m : ℕ) (c : List ExtHeader) → last_at (leading_to m c) ≡ last_at c
led_at m [] = refl
led_at m (h ∷ []) = refl
led_at m (h ∷ g ∷ []) = refl
led_at m (h ∷ g ∷ f ∷ c) = ap (λ (k : ℕ). length h.bytes + k) (led_at m (g ∷ f ∷ c))

led_link : (m k : ℕ) (c : List ExtHeader) → link_after k (leading_to m c) ≡ link_after k c
led_link m k [] = refl
led_link m k (h ∷ []) = refl
led_link m k (h ∷ g ∷ c) = ap (λ (x : ℕ). k + x) (before_last (leading_to m (h ∷ g ∷ c)) ∙ (led_at m (h ∷ g ∷ c) ∙ sym (before_last (h ∷ g ∷ c))))

led_bytes : (m : ℕ) (h : ExtHeader) (c : List ExtHeader) → bytes_of (leading_to m (h ∷ c)) ≡ slice_set (bytes_of (h ∷ c)) (last_at (h ∷ c)) m
led_bytes m h [] = append-nil (slice_set h.bytes 0 m) ∙ ap (λ (b : List ℕ). slice_set b 0 m) (sym (append-nil h.bytes))
led_bytes m h (g ∷ c) =
    ap (λ (b : List ℕ). h.bytes ++ b) (led_bytes m g c)
    ∙ sym (set-append_right h.bytes (bytes_of (g ∷ c)) (length h.bytes) (length h.bytes + last_at (g ∷ c)) m refl (omega arith)
    ∙ ap (λ (k : ℕ). h.bytes ++ slice_set (bytes_of (g ∷ c)) k m) (let e : length h.bytes + last_at (g ∷ c) - length h.bytes ≡ last_at (g ∷ c) = omega arith in e))

-- The fragment header's fields.
pub flag_is : (start : ℕ) (more : Bool) → start % 8 ≡ 0 → flag_bit (start % 256 + (if more then 1 else 0)) ≡ more
flag_is start true units =
    let low : bit_and (start % 256 + 1) 0x01 ≡ (start % 256 + 1) % 2 = and_mask (start % 256 + 1) 1 in
    not_from_false (bit_and (start % 256 + 1) 0x01 == 0) (ne_eqb (bit_and (start % 256 + 1) 0x01) 0 (λ e. omega (arith, e, low, units)))
flag_is start false units =
    let low : bit_and (start % 256 + 0) 0x01 ≡ (start % 256 + 0) % 2 = and_mask (start % 256 + 0) 1 in
    not_from_true (bit_and (start % 256 + 0) 0x01 == 0) (eq-eqb (bit_and (start % 256 + 0) 0x01) 0 (omega (arith, low, units)))

pub offset_is : (start : ℕ) (more : Bool) → start % 8 ≡ 0 → 8 * offset_bits (start / 256) (start % 256 + (if more then 1 else 0)) ≡ start
offset_is start true units = (let high : bit_and (start % 256 + 1) 0xf8 ≡ ((start % 256 + 1) / 8 % 32) * 8 = and_high (start % 256 + 1) 5 3 in omega (arith, high, units))
offset_is start false units = (let high : bit_and (start % 256 + 0) 0xf8 ≡ ((start % 256 + 0) / 8 % 32) * 8 = and_high (start % 256 + 0) 5 3 in omega (arith, high, units))

-- The headers up to the fragment header.
module _ (s : List ℕ) (n link t : ℕ) (sent : IsSentIpv6 s n link) where
  abbrev w : List ℕ
  w = with_word (take n s) 4 t

  abbrev a : List ℕ
  a = ipv6_first s n link t

  pub taken_len : length (take n s) ≡ n
  taken_len = length-take n s ∙ omega (arith, sent.within)

  pub first_len : length a ≡ n
  first_len = length-set w link 44 ∙ (word_len (take n s) 4 t ∙ taken_len)

  pub stay : (j : ℕ) → j < n → j ≢ link → j ≢ 4 → j ≢ 5 → slice_index a j ≡ slice_index s j
  stay j less d d4 d5 = get_or-set_other w link j 44 0 d ∙ (word_other (take n s) 4 t j d4 (λ e. d5 (omega (arith, e))) ∙ get_or-take n s j 0 less)

  pub changed : slice_index a link ≡ 44
  changed = get_or-set_same w link 44 0 (omega (arith, word_len (take n s) 4 t, taken_len, sent.field))

  pub stated : payload_length a ≡ t
  stated =
      let high : slice_index a 4 ≡ t / 256 = get_or-set_other w link 4 44 0 (λ e. omega (arith, e, sent.number)) ∙ word_high (take n s) 4 t (omega (arith, taken_len, sent.base)) in
      let low : slice_index a 5 ≡ t % 256 = get_or-set_other w link 5 44 0 (λ e. omega (arith, e, sent.number)) ∙ word_low (take n s) 4 t (omega (arith, taken_len, sent.base)) in
      omega (arith, word_is a 4, high, low)

  dropped_at : (j : ℕ) → 40 + j < n → 40 + j ≢ link → slice_index (drop 40 a) j ≡ slice_index (drop 40 (take n s)) j
  dropped_at j less d =
      get_or-drop 40 a j 0 ∙ (stay (40 + j) less d (λ e. omega (arith, e)) (λ e. omega (arith, e)) ∙ (sym (get_or-take n s (40 + j) 0 less) ∙ sym (get_or-drop 40 (take n s) j 0)))

  pub dropped_len : length (drop 40 (take n s)) ≡ n - 40
  dropped_len = length-drop 40 (take n s) ∙ ap (λ (k : ℕ). k - 40) taken_len

  -- the extension headers, changed
  pub dropped : (c : List ExtHeader) → bytes_of c ≡ drop 40 (take n s) → link_after 40 c ≡ link → drop 40 a ≡ bytes_of (leading_to 44 c)
  dropped [] bytes place =
      let none : n - 40 ≡ 0 = sym dropped_len ∙ ap length (sym bytes) in
      same_number_lists (drop 40 a) [] (omega (arith, length-drop 40 a, first_len, none)) (λ j less. absurd (omega (arith, less, length-drop 40 a, first_len, none)))
  dropped (h ∷ c) bytes place =
      let i : ℕ = last_at (h ∷ c) in
      let at : 40 + i ≡ link = ap (λ (k : ℕ). 40 + k) (sym (before_last (h ∷ c))) ∙ place in
      let x : List ℕ = bytes_of (h ∷ c) in
      let size : length x ≡ n - 40 = ap length bytes ∙ dropped_len in
      let size_a : length (drop 40 a) ≡ n - 40 = length-drop 40 a ∙ ap (λ (k : ℕ). k - 40) first_len in
      same_number_lists (drop 40 a) (slice_set x i 44) (size_a ∙ sym (length-set x i 44 ∙ size)) (λ j less.
      let within : 40 + j < n = omega (arith, less, size_a) in
      elim (cases_eq j i) [
        | inl same ↦ ap (slice_index (drop 40 a)) same ∙ (get_or-drop 40 a i 0 ∙ (ap (slice_index a) at ∙ (changed
            ∙ sym (ap (slice_index (slice_set x i 44)) same ∙ get_or-set_same x i 44 0 (omega (arith, same, within, size))))))
        | inr other ↦ dropped_at j within (λ e. other (omega (arith, e, at)))
            ∙ (ap (λ (y : List ℕ). slice_index y j) (sym bytes) ∙ sym (get_or-set_other x i j 44 0 other))
      ])
      ∙ sym (led_bytes 44 h c)

  -- the first link
  pub begins : (c : List ExtHeader) (x : ExtHeader) → x.number ≡ 44 → AreHeaders c → AreLinked (ipv6_next_header s) c → link_after 40 c ≡ link → AreLinked (ipv6_next_header (take 40 a)) (leading_to 44 c ++ x ∷ [])
  begins [] x number are links place =
      let six : slice_index (take 40 a) 6 ≡ 44 = get_or-take 40 a 6 0 (omega arith) ∙ (ap (slice_index a) place ∙ changed) in
      (number ∙ sym six, tt)
  begins (h ∷ c) x number are links place =
      let far : 40 ≤ link = omega (arith, place) in
      let six : slice_index (take 40 a) 6 ≡ slice_index s 6 = get_or-take 40 a 6 0 (omega arith) ∙ stay 6 (omega (arith, sent.base)) (λ e. omega (arith, e, far)) (λ e. cc) (λ e. cc) in
      let P : ℕ → Type 0 = λ k. AreLinked k (leading_to 44 (h ∷ c) ++ x ∷ []) in
      subst P (sym six) (led_links (ipv6_next_header s) 44 h c x are number links)

apart_from : (c : List ExtHeader) (link : ℕ) → link_after 40 c ≡ link → (j : ℕ) → j < 40 → j ≢ 6 → j ≢ link
apart_from [] link place j less d = λ e. d (e ∙ sym place)
apart_from (h ∷ c) link place j less d = λ e. omega (arith, e, place, less)

module _ (s : List ℕ) (n link id start end : ℕ) (c : List ExtHeader) (sent : IsSentIpv6 s n link) (is : IsIpv6Part s n link id start end c) where
  abbrev size : ℕ
  size = n - 40 + 8 + (end - start)

  abbrev full : List ℕ
  full = ipv6_first s n link size

  abbrev more : Bool
  more = nat_lt end (length (drop n s))

  abbrev x : ExtHeader
  x = record { number = 44; bytes = fragment_header_bytes (slice_index s link) start more id }

  abbrev base : List ℕ
  base = take 40 full

  full_len : length full ≡ n
  full_len = first_len s n link size sent

  base_len : length base ≡ 40
  base_len = length-take 40 full ∙ omega (arith, full_len, sent.base)

  after_base : bytes_of (leading_to 44 c) ≡ drop 40 full
  after_base = sym (dropped s n link size sent c is.headers is.place)

  led_len : length (bytes_of (leading_to 44 c)) ≡ n - 40
  led_len = ap length after_base ∙ (length-drop 40 full ∙ ap (λ (k : ℕ). k - 40) full_len)

  base_at : (j : ℕ) → j < 40 → j ≢ 4 → j ≢ 5 → j ≢ 6 → slice_index base j ≡ slice_index s j
  base_at j less d4 d5 d6 = get_or-take 40 full j 0 less ∙ stay s n link size sent j (omega (arith, less, sent.base)) (apart_from c link is.place j less d6) d4 d5

  range : (k i : ℕ) → 8 ≤ i → i + k ≤ 40 → take k (drop i base) ≡ take k (drop i s)
  range k i low high = same_range base s k i (omega (arith, high, base_len)) (omega (arith, high, sent.base, sent.within)) (λ j from to.
      base_at j (omega (arith, to, high)) (λ e. omega (arith, e, from, low)) (λ e. omega (arith, e, from, low)) (λ e. omega (arith, e, from, low)))

  bytes_len : length (take (end - start) (drop start (drop n s))) ≡ end - start
  bytes_len = omega (arith, length-take (end - start) (drop start (drop n s)), length-drop start (drop n s), is.within, is.order)

  base_stated : payload_length base ≡ size
  base_stated =
      let high : slice_index base 4 ≡ slice_index full 4 = get_or-take 40 full 4 0 (omega arith) in
      let low : slice_index base 5 ≡ slice_index full 5 = get_or-take 40 full 5 0 (omega arith) in
      omega (arith, word_is base 4, word_is full 4, high, low, stated s n link size sent)

  chain : IsChain (ipv6_next_header base) (leading_to 44 c ++ x ∷ [])
  chain = record {
    headers = all_more (λ (g : ExtHeader). IsHeader g.number g.bytes) (leading_to 44 c) x (led_headers 44 c is.chain.headers) (fragment refl (record { len = refl }));
    links = begins s n link size sent c x refl is.chain.headers is.chain.links is.place;
    zero_only_first = led_zero 44 c x (λ e. cc) is.chain.zero_only_first;
  }

  whole_front : base ++ bytes_of (leading_to 44 c) ≡ full
  whole_front = ap (λ (y : List ℕ). base ++ y) after_base ∙ take-append-drop 40 full

  pub ipv6_made : (padding : List ℕ) → (start ≡ 0 → has_error (dissected (ipv6_fragment_bytes s n link id start end ++ padding)).end ≡ false)
      → IsIpv6Fragment s n link id (piece_from (drop n s) start end) (ipv6_fragment_bytes s n link id start end ++ padding)
  ipv6_made padding whole = record {
    base = base;
    before = leading_to 44 c;
    header = x;
    padding = padding;
    joined =
        let p : List ℕ = take (end - start) (drop start (drop n s)) in
        append_assoc full (x.bytes ++ p) padding
        ∙ (ap (λ (y : List ℕ). full ++ y) (append_assoc x.bytes p padding)
        ∙ (ap (λ (y : List ℕ). y ++ (x.bytes ++ (p ++ padding))) (sym whole_front)
        ∙ append_assoc base (bytes_of (leading_to 44 c)) (x.bytes ++ (p ++ padding))));
    is_base = record {
      version = ap (λ (k : ℕ). k / 16) (base_at 0 (omega arith) (λ e. cc) (λ e. cc) (λ e. cc)) ∙ sent.version;
      len = base_len;
    };
    chain = chain;
    number = refl;
    one = led_none 44 c ∙ is.none;
    headers = omega (arith, base_len, led_len, sent.base);
    stated = base_stated ∙ (let e : length x.bytes ≡ 8 = refl in omega (arith, e, bytes_len, led_len));
    source = range 16 8 (omega arith) (omega arith);
    destination = range 16 24 (omega arith) (omega arith);
    identification = from_be_bytes-to_be_bytes_4 id is.identification;
    ecn =
        ap (λ (k : ℕ). (16 * (k % 16) + slice_index base 1 / 16) % 4) (base_at 0 (omega arith) (λ e. cc) (λ e. cc) (λ e. cc))
        ∙ ap (λ (k : ℕ). (16 * (slice_index s 0 % 16) + k / 16) % 4) (base_at 1 (omega arith) (λ e. cc) (λ e. cc) (λ e. cc));
    offset = offset_is start more is.units;
    more = flag_is start more is.units;
    first = λ zero_start. (size, whole_front);
    place = λ zero_start. led_link 44 40 c ∙ is.place;
    next = λ zero_start. refl;
    several = λ zero_start. lt-ltb end (length (drop n s)) (is.several zero_start);
    whole = whole;
  }
