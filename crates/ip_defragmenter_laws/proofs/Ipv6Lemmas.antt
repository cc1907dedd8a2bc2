-- The fragments of an IPv6 packet, as they are read.
use Rattle.ip_spec.proofs.Common.{◌≡◌, ℕ, ◌+◌, ◌*◌, ◌/◌, ◌%◌, ◌-◌, ◌≤◌, ◌<◌, ◌++◌, List, [], ◌∷◌, Bool, true, false, length, take, drop, refl, sym, ap, ◌∙◌, arith, inl, inr, Option, Some, None, Ok, ExtHeader, find, bytes_of, cases_Bool, cond, cond-true, cond-false, eq-eqb, ne_eqb, eqb-true, le-leb, lt-ltb, length-take, length-drop, length-append, length-set, get_or_append_left, append_assoc, append-nil, append_cancel_left, take-append_seam, drop-append_seam, take-append-drop, flat_map-append, false≢true, ◌==◌, IsPrefix, rest_after, headers_within}
use Rattle.std.specs.Prelude.{slice_index, max, not, ◌&&◌, ◌||◌, leb, nat_lt}
use Rattle.std.specs.List.{list_any}
use Rattle.std.specs.Option.{option_map}
use Rattle.std.proofs.lemmas.Bool.{and_from, not_from_false, or_left, or_right}
use Rattle.ip_base.specs.Checksum.{with_word}
use Rattle.ip_base.proofs.ChecksumLemmas.{word_len}
use Rattle.ip_base.specs.Ipv4Header.{version}
use Rattle.ip_base.specs.BaseHeaderFields.{ipv4_ecn, ipv6_traffic_class}
use Rattle.ip_base.specs.Ipv6Header.{payload_length, ipv6_next_header}
use Rattle.ip_spec.specs.Chain.{IsChain}
use Rattle.ip_spec.specs.Header.{IsHeader}
use Rattle.ip_spec.proofs.HeaderLemmas.{header-least}
use Rattle.ip_spec.proofs.StepLemmas.{all_next}
use Rattle.ip_spec.specs.Fields.{fragment_fields, is_fragmenting}
use Rattle.ip_spec.specs.Numbers.{FRAGMENT}
use Rattle.ip_spec.proofs.PrefixLemmas.{prefix-append, prefix_of-append}
use Rattle.ip_spec.proofs.UnderLemmas.{one_longest_under, whole_longest_under}
use Rattle.ip_dissect.specs.Dissection.{DissectedParts, dissected, ipv6_dissected}
use Rattle.ip_dissect.specs.End.{has_error, ipv6_end}
use Rattle.ip_dissect.specs.Extent.{after_base, ipv6_chain, ipv6_stated, missing_of}
use Rattle.ip_dissect.specs.Fragment.{fragments, is_fragment_header}
use Rattle.ip_dissect.specs.Later.{chain_to_later}
use Rattle.ip_dissect.specs.LaterDemand.{NothingAfterLater, has_later, is_later, nothing_after_later}
use Rattle.ip_dissect.proofs.DissectedLemmas.{begun6}
use Rattle.ip_dissect.proofs.JoinedLemmas.{chain_to_later-shorter}
use Rattle.ip_dissect.proofs.LaterLemmas.{chain_to_later-longest, may_follow}
use Rattle.ip_reassembly.specs.Fragment.{Fragment, end_of, is_same, is_unaligned}
use Rattle.ip_reassembly.specs.Split.{IsSplit}
use Rattle.ip_reassembly.proofs.SplitLemmas.{IsPiece, member_piece}
use Rattle.ip_defragmenter.specs.FragmentOf.{FragmentParts, fragmented, ipv6_fragment_parts_by, packet_fragment, unusable}
use Rattle.ip_defragmenter.specs.Key.{IsKey}
use Rattle.ip_defragmenter.specs.Memory.{own_refusal, piece_of, first_of}
use Rattle.ip_defragmenter.specs.Sent.{IsSentIpv6, ipv6_first}
use Rattle.ip_defragmenter.specs.Split.{after_fragment, before_fragment, link_after}
use Rattle.ip_defragmenter.specs.Whole.{are_headers, stated_by, whole_headers, whole_packet}
use Rattle.ip_defragmenter.specs.declared.key.FragmentKey.TheVariants as key
use Rattle.ip_defragmenter.proofs.ReadLemmas.{is_fragment}
use Rattle.ip_defragmenter.proofs.SentLemmas.{whole6}
use Rattle.ip_defragmenter_laws.specs.Ipv6.{IsIpv6Fragment, ipv6_key}
use Rattle.ip_defragmenter_laws.proofs.PartLemmas.{IsFirst}
use Rattle.ip_defragmenter_laws.proofs.ReadKeyLemmas.{long_range, word_is}
use Rattle.ip_defragmenter_laws.proofs.RunLemmas.{IsReadAs}
use Rattle.ip_defragmenter_laws.proofs.Ipv4Lemmas.{same_fragment, sound_by, usable_by}

-- A packet fits its length field.
pub short6 : (s : List ℕ) (n link : ℕ) → IsSentIpv6 s n link → length s ≤ 40 + 65535
short6 s n link sent =
    let long : 40 ≤ length s = omega (arith, sent.base, sent.within) in
    omega (arith, sent.stated, word_is s 4, sent.bytes 4 0 (omega (arith, long)), sent.bytes 5 0 (omega (arith, long)))

pub is_key6 : (s : List ℕ) (n link id : ℕ) → IsSentIpv6 s n link → IsKey (ipv6_key s id)
is_key6 s n link id sent =
    let long : 40 ≤ length s = omega (arith, sent.base, sent.within) in
    (long_range 16 8 s (omega (arith, long)), long_range 16 24 s (omega (arith, long)))

-- The headers within the first bytes are the first headers.
record Within (j : ℕ) (c : List ExtHeader) : Type 0 where
  rest : List ExtHeader
  is : c ≡ headers_within j c ++ rest

within_by : (b : Bool) (h : ExtHeader) (c d rest : List ExtHeader) → c ≡ d ++ rest → (r : List ExtHeader) × (h ∷ c ≡ cond b [] (h ∷ d) ++ r)
within_by true h c d rest is = (h ∷ c, refl)
within_by false h c d rest is = (rest, ap (λ (x : List ExtHeader). h ∷ x) is)

within : (j : ℕ) (c : List ExtHeader) → Within j c
within j [] = record { rest = []; is = refl }
within j (h ∷ c) =
    let more = within (j - length h.bytes) c in
    let found = within_by (nat_lt j (length h.bytes)) h c (headers_within (j - length h.bytes) c) more.rest more.is in
    record { rest = found.0; is = found.1 }

-- A chain at the start of bytes begins their longest chain.
pub begins_chain : (n : ℕ) (d : List ExtHeader) (r : List ℕ) → IsChain n d → NothingAfterLater d → (rest : List ExtHeader) × (chain_to_later n (bytes_of d ++ r) ≡ d ++ rest)
begins_chain n d r chain meets =
    let x : List ℕ = bytes_of d ++ r in
    let j : ℕ = length (bytes_of d) in
    let c : List ExtHeader = chain_to_later n x in
    let own : chain_to_later n (bytes_of d) ≡ d =
    one_longest_under NothingAfterLater nothing_after_later n (bytes_of d) (chain_to_later n (bytes_of d)) d (chain_to_later-longest n (bytes_of d)) (whole_longest_under NothingAfterLater nothing_after_later n d chain meets) in
    let front : headers_within j c ≡ d = sym (chain_to_later-shorter n j x) ∙ (ap (chain_to_later n) (take-append_seam (bytes_of d) r) ∙ own) in
    let more = within j c in
    (more.rest, more.is ∙ ap (λ (y : List ExtHeader). y ++ more.rest) front)

-- A header that is no fragment header fragments nothing.
first_false : (a b : Bool) → (a || b) ≡ false → a ≡ false
first_false true b is = is
first_false false b is = refl

second_false : (a b : Bool) → (a || b) ≡ false → b ≡ false
second_false true b is = absurd (false≢true (sym is))
second_false false b is = is

and_first : (a b : Bool) → a ≡ false → (a && b) ≡ false
and_first true b is = absurd (false≢true (sym is))
and_first false b is = refl

pub none_later : (c : List ExtHeader) → list_any is_fragment_header c ≡ false → has_later c ≡ false
none_later [] none = refl
none_later (g ∷ c) none =
    let own : is_later g ≡ false = and_first (g.number == FRAGMENT) _ (first_false (is_fragment_header g) (list_any is_fragment_header c) none) in
    let rest : has_later c ≡ false = none_later c (second_false (is_fragment_header g) (list_any is_fragment_header c) none) in
    rw (own, rest) refl

record IsFound (before : List ExtHeader) (h : ExtHeader) (rest c : List ExtHeader) : Type 0 where
  found : find fragments c ≡ Some h
  front : before_fragment c ≡ before
  back : after_fragment c ≡ rest

found_in : (before : List ExtHeader) (h : ExtHeader) (rest : List ExtHeader) → list_any is_fragment_header before ≡ false → fragments h ≡ true → IsFound before h rest (before ++ (h ∷ rest))
found_in [] h rest none own = record {
  found = cond-true (fragments h) (Some h) (find fragments rest) own;
  front = cond-true (fragments h) [] (h ∷ before_fragment rest) own;
  back = cond-true (fragments h) rest (after_fragment rest) own;
}
found_in (g ∷ before) h rest none own =
    let other : fragments g ≡ false = and_first (g.number == FRAGMENT) (is_fragmenting g.bytes) (first_false (is_fragment_header g) (list_any is_fragment_header before) none) in
    let more = found_in before h rest (second_false (is_fragment_header g) (list_any is_fragment_header before) none) own in
    let c : List ExtHeader = before ++ (h ∷ rest) in
    record {
      found = cond-false (fragments g) (Some g) (find fragments c) other ∙ more.found;
      front = cond-false (fragments g) [] (g ∷ before_fragment c) other ∙ ap (λ (x : List ExtHeader). g ∷ x) more.front;
      back = cond-false (fragments g) c (after_fragment c) other ∙ more.back;
    }

later_in : (before : List ExtHeader) (h : ExtHeader) (rest : List ExtHeader) → is_later h ≡ true → has_later (before ++ (h ∷ rest)) ≡ true
later_in [] h rest own = or_left (is_later h) (has_later rest) own
later_in (g ∷ before) h rest own = or_right (is_later g) (has_later (before ++ (h ∷ rest))) (later_in before h rest own)

same_key6 : (a b c d : List ℕ) (i j : ℕ) → a ≡ b → c ≡ d → i ≡ j → key.Ipv6 a c i ≡ key.Ipv6 b d j
same_key6 a b c d i j e f g = rw (e, f, g) refl

module _ (s : List ℕ) (n link id : ℕ) (pieces : List Fragment) (p : Fragment) (f : List ℕ) (sent : IsSentIpv6 s n link) (few : n ≤ 4096) (split : IsSplit (drop n s) pieces) (among : list_any (is_same p) pieces ≡ true) (is : IsIpv6Fragment s n link id p f) where
  abbrev b : List ℕ
  b = is.base

  abbrev h : ExtHeader
  h = is.header

  piece : IsPiece 0 (drop n s) p
  piece = member_piece 0 (drop n s) pieces p split among

  prefix : IsPrefix b f
  prefix = prefix_of-append b (bytes_of is.before ++ (h.bytes ++ (p.bytes ++ is.padding))) f is.joined

  abbrev d : DissectedParts
  d = ipv6_dissected b f

  dissected_is : dissected f ≡ d
  dissected_is = begun6 f b is.is_base prefix

  abbrev front : List ℕ
  front = bytes_of is.before ++ h.bytes

  front_len : length front ≡ length (bytes_of is.before) + length h.bytes
  front_len = length-append (bytes_of is.before) h.bytes

  joined_is : f ≡ (b ++ (front ++ p.bytes)) ++ is.padding
  joined_is = is.joined ∙ sym (append_assoc b (front ++ p.bytes) is.padding
      ∙ ap (λ (x : List ℕ). b ++ x) (append_assoc front p.bytes is.padding ∙ append_assoc (bytes_of is.before) h.bytes (p.bytes ++ is.padding)))

  abbrev t : ℕ
  t = 40 + payload_length b

  whole_len : length (b ++ (front ++ p.bytes)) ≡ t
  whole_len = omega (arith, length-append b (front ++ p.bytes), length-append front p.bytes, front_len, is.stated, is.is_base.len)

  f_len : length f ≡ t + length is.padding
  f_len = ap length joined_is ∙ (length-append (b ++ (front ++ p.bytes)) is.padding ∙ ap (λ (k : ℕ). k + length is.padding) whole_len)

  some_header : 8 ≤ length h.bytes
  some_header = header-least h.number h.bytes (all_next (λ (g : ExtHeader). IsHeader g.number g.bytes) is.before h is.chain.headers)

  stated_is : ipv6_stated b ≡ Some t
  stated_is = cond-false (payload_length b == 0) None (Some t) (ne_eqb (payload_length b) 0 (λ e. omega (arith, e, is.stated, some_header)))

  after_is : after_base b (ipv6_stated b) f ≡ front ++ p.bytes
  after_is =
      let size : max t (length b) ≡ length (b ++ (front ++ p.bytes)) = omega (arith, whole_len, is.is_base.len) in
      ap (λ (o : Option ℕ). after_base b o f) stated_is
      ∙ (ap (λ (k : ℕ). drop (length b) (take k f)) size
      ∙ (ap (λ (x : List ℕ). drop (length b) (take (length (b ++ (front ++ p.bytes))) x)) joined_is
      ∙ (ap (drop (length b)) (take-append_seam (b ++ (front ++ p.bytes)) is.padding) ∙ drop-append_seam b (front ++ p.bytes))))

  known : bytes_of (is.before ++ h ∷ []) ≡ front
  known = flat_map-append (λ (g : ExtHeader). g.bytes) is.before (h ∷ []) ∙ ap (λ (x : List ℕ). bytes_of is.before ++ x) (append-nil h.bytes)

  abbrev c : List ExtHeader
  c = ipv6_chain b f

  begins : (rest : List ExtHeader) × (c ≡ (is.before ++ h ∷ []) ++ rest)
  begins =
      let own = begins_chain (ipv6_next_header b) (is.before ++ h ∷ []) p.bytes is.chain (may_follow is.before h (none_later is.before is.one)) in
      (own.0, ap (chain_to_later (ipv6_next_header b)) (after_is ∙ ap (λ (x : List ℕ). x ++ p.bytes) (sym known)) ∙ own.1)

  abbrev rest : List ExtHeader
  rest = begins.0

  chain_is : c ≡ is.before ++ (h ∷ rest)
  chain_is = begins.1 ∙ append_assoc is.before (h ∷ []) rest

  fragmenting : fragments h ≡ true
  fragmenting = and_from (h.number == FRAGMENT) (is_fragmenting h.bytes) (eq-eqb h.number FRAGMENT is.number) (elim (cases_Bool ((fragment_fields h.bytes).fragment_offset == 0)) [
    | inl start ↦ or_left (fragment_fields h.bytes).more_fragments (not ((fragment_fields h.bytes).fragment_offset == 0))
        (is.more ∙ is.several (omega (arith, is.offset, eqb-true (fragment_fields h.bytes).fragment_offset 0 start)))
    | inr other ↦ or_right (fragment_fields h.bytes).more_fragments (not ((fragment_fields h.bytes).fragment_offset == 0))
        (not_from_false ((fragment_fields h.bytes).fragment_offset == 0) other)
  ])

  abbrev found : IsFound is.before h rest (is.before ++ (h ∷ rest))
  found = found_in is.before h rest is.one fragmenting

  found_is : find fragments c ≡ Some h
  found_is = ap (find fragments) chain_is ∙ found.found

  before_is : before_fragment c ≡ is.before
  before_is = ap before_fragment chain_is ∙ found.front

  after_fragment_is : after_fragment c ≡ rest
  after_fragment_is = ap after_fragment chain_is ∙ found.back

  bytes_is : bytes_of (after_fragment c) ++ rest_after c (after_base b (ipv6_stated b) f) ≡ p.bytes
  bytes_is =
      let x : List ℕ = after_base b (ipv6_stated b) f in
      let left : x ≡ bytes_of c ++ rest_after c x = prefix-append (bytes_of c) x (chain_to_later-longest (ipv6_next_header b) x).has.0.prefix in
      let all : bytes_of c ≡ front ++ bytes_of rest =
      ap bytes_of chain_is ∙ (flat_map-append (λ (g : ExtHeader). g.bytes) is.before (h ∷ rest) ∙ sym (append_assoc (bytes_of is.before) h.bytes (bytes_of rest))) in
      let both : front ++ (bytes_of rest ++ rest_after c x) ≡ front ++ p.bytes =
      sym (append_assoc front (bytes_of rest) (rest_after c x)) ∙ (ap (λ (y : List ℕ). y ++ rest_after c x) (sym all) ∙ (sym left ∙ after_is)) in
      ap (λ (y : List ExtHeader). bytes_of y ++ rest_after c x) after_fragment_is ∙ append_cancel_left front (bytes_of rest ++ rest_after c x) p.bytes both

  right : has_error (ipv6_end b f) ≡ false
  right = elim (cases_Bool ((fragment_fields h.bytes).fragment_offset == 0)) [
    | inl start ↦ ap (λ (q : DissectedParts). has_error q.end) (sym dissected_is) ∙ is.whole (omega (arith, is.offset, eqb-true (fragment_fields h.bytes).fragment_offset 0 start))
    | inr other ↦
        let late : is_later h ≡ true = and_from (h.number == FRAGMENT) (not ((fragment_fields h.bytes).fragment_offset == 0)) (eq-eqb h.number FRAGMENT is.number) (not_from_false ((fragment_fields h.bytes).fragment_offset == 0) other) in
        ap has_error (cond-true (has_later c) _ _ (ap has_later chain_is ∙ later_in is.before h rest late))
  ]

  usable : None ≡ unusable d
  usable = usable_by d t right stated_is (ap (λ (o : Option ℕ). missing_of o (length f)) stated_is ∙ omega (arith, f_len))

  abbrev r : FragmentParts
  r = ipv6_fragment_parts_by d h

  parts_is : Some r ≡ fragmented d
  parts_is = sym (ap (option_map (ipv6_fragment_parts_by d)) found_is)

  read : packet_fragment (dissected f) ≡ Ok (Some r)
  read = ap packet_fragment dissected_is ∙ sym (is_fragment d r parts_is usable)

  piece_is : piece_of r ≡ p
  piece_is = same_fragment (piece_of r) p is.offset is.more bytes_is

  headers_is : r.headers ≡ b ++ bytes_of is.before
  headers_is = ap (λ (x : List ExtHeader). b ++ bytes_of x) before_is

  headers_len : length r.headers ≡ 40 + length (bytes_of is.before)
  headers_len = ap length headers_is ∙ omega (arith, length-append b (bytes_of is.before), is.is_base.len)

  byte : (j : ℕ) → j < 40 → slice_index (b ++ bytes_of is.before) j ≡ slice_index b j
  byte j less = get_or_append_left b (bytes_of is.before) 0 j (omega (arith, less, is.is_base.len))

  six : version r.headers ≡ 6
  six = ap version headers_is ∙ (ap (λ (x : ℕ). x / 16) (byte 0 (omega arith)) ∙ is.is_base.version)

  not_four : (version r.headers == 4) ≡ false
  not_four = ne_eqb (version r.headers) 4 (λ e. omega (arith, e, six))

  stated6 : (k : ℕ) → stated_by r.headers k ≡ length r.headers - 40 + k
  stated6 k = cond-false (version r.headers == 4) (length r.headers + k) (length r.headers - 40 + k) not_four

  link_is : r.link ≡ link_after 40 is.before
  link_is = ap (λ (k : ℕ). link_after k (before_fragment c)) is.is_base.len ∙ ap (link_after 40) before_is

  payload_len : length (drop n s) ≡ length s - n
  payload_len = length-drop n s

  no_longer : length r.headers ≤ n
  no_longer = omega (arith, headers_len, is.headers, is.is_base.len)

  fits6 : stated_by r.headers (end_of (piece_of r)) ≤ 65535
  fits6 = omega (arith, stated6 (end_of (piece_of r)), ap end_of piece_is, piece.high, payload_len, no_longer, headers_len, short6 s n link sent, sent.within)

  start_is : (fragment_fields h.bytes).fragment_offset ≡ 0 → p.offset ≡ 0
  start_is start = omega (arith, is.offset, start)

  first_len : p.offset ≡ 0 → length r.headers ≡ n
  first_len start =
      let own = is.first start in
      ap length headers_is ∙ (ap length own.1 ∙ (length-set (with_word (take n s) 4 own.0) link 44 ∙ (word_len (take n s) 4 own.0 ∙ (length-take n s ∙ omega (arith, sent.within)))))

  headers6 : p.offset ≡ 0 → are_headers r.headers r.link ≡ true
  headers6 start =
      let size : length r.headers ≡ n = first_len start in
      let at : r.link ≡ link = link_is ∙ is.place start in
      cond-false (version r.headers == 4) _ _ not_four
      ∙ (cond-true (version r.headers == 6) _ _ (eq-eqb (version r.headers) 6 six)
      ∙ and_from (leb 40 (length r.headers)) (nat_lt r.link (length r.headers)) (le-leb 40 (length r.headers) (omega (arith, size, sent.base))) (lt-ltb r.link (length r.headers) (omega (arith, at, size, sent.field))))

  sound6 : own_refusal r ≡ None
  sound6 = sound_by r (ap is_unaligned piece_is ∙ piece.aligned) fits6 (λ start. headers6 (start_is start)) (omega (arith, no_longer, few))

  same_whole : (x y : List ℕ) (i j m k : ℕ) → x ≡ y → i ≡ j → m ≡ k → whole_packet x i m (drop n s) ≡ whole_packet y j k (drop n s)
  same_whole x y i j m k e g q = rw (e, g, q) refl

  first6 : r.offset ≡ 0 → IsFirst (ipv6_traffic_class s % 4) (drop n s) s (first_of r)
  first6 zero_offset =
      let start : p.offset ≡ 0 = start_is zero_offset in
      let own = is.first start in
      let k : ℕ = own.0 in
      let size : length r.headers ≡ n = first_len start in
      record {
        headers = headers6 start;
        fits = omega (arith, stated6 (length (drop n s)), payload_len, size, short6 s n link sent, sent.within, sent.base);
        len = omega (arith, size, payload_len, sent.within);
        point_is = cond-false (version r.headers == 4) (ipv4_ecn r.headers) (ipv6_traffic_class r.headers % 4) not_four
            ∙ (ap (λ (x : List ℕ). ipv6_traffic_class x % 4) headers_is
            ∙ (ap (λ (x : ℕ). (16 * (x % 16) + slice_index (b ++ bytes_of is.before) 1 / 16) % 4) (byte 0 (omega arith))
            ∙ (ap (λ (x : ℕ). (16 * (slice_index b 0 % 16) + x / 16) % 4) (byte 1 (omega arith)) ∙ is.ecn)));
        long = omega (arith, size, sent.base);
        whole = same_whole r.headers (ipv6_first s n link k) r.link link r.number (slice_index s link) (headers_is ∙ own.1) (link_is ∙ is.place start) (is.next start)
            ∙ (ap (λ (x : ℕ). whole_headers (ipv6_first s n link k) link (slice_index s link) x ++ drop n s) payload_len
            ∙ (ap (λ (x : List ℕ). x ++ drop n s) (whole6 s n link k sent) ∙ take-append-drop n s));
      }

  pub read_ipv6 : IsReadAs (ipv6_key s id) (ipv6_traffic_class s % 4) (drop n s) s p f
  read_ipv6 = record {
    parts = r;
    read = read;
    key = same_key6 _ _ _ _ _ _ is.source is.destination is.identification;
    part = record { piece = piece_is; sound = sound6; ecn = is.ecn; first = first6 };
  }
