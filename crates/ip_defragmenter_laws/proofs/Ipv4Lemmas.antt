-- The fragments of an IPv4 packet, as they are read.
use Rattle.ip_spec.proofs.Common.{◌≡◌, ℕ, ◌+◌, ◌*◌, ◌/◌, ◌%◌, ◌-◌, ◌≤◌, ◌++◌, List, Bool, true, false, length, take, drop, refl, sym, ap, ◌∙◌, arith, inl, inr, Option, Some, None, is_some, Ok, bytes_of, cases_Bool, cond-true, cond-false, eq-eqb, ne_eqb, eqb-true, le-ltb, le-leb, length-take, length-drop, length-append, length-set, append_assoc, take-append_seam, drop-append_seam, take-append-drop, false≢true, false_from_ne_true, ◌==◌, IsPrefix, rest_after, get_or-set_same}
use Rattle.std.specs.Prelude.{slice_index, slice_set, bit_and, max, not, ◌&&◌, ◌||◌, nat_lt}
use Rattle.std.specs.List.{list_any}
use Rattle.std.proofs.lemmas.Bool.{not_from_true, not_from_false, or_left, or_right}
use Rattle.std.proofs.lemmas.Nat.Bits.{and_high}
use Rattle.ip_base.specs.Checksum.{with_word}
use Rattle.ip_base.proofs.ChecksumLemmas.{word_len, word_other}
use Rattle.ip_base.specs.Ipv4Header.{version, ipv4_header_len, total_len, protocol, ipv4_fragment_offset, ipv4_more_fragments, is_ipv4_fragmenting}
use Rattle.ip_base.specs.BaseHeaderFields.{ipv4_ecn, ipv6_traffic_class}
use Rattle.ip_spec.proofs.PrefixLemmas.{prefix-append, prefix_of-append}
use Rattle.ip_dissect.specs.Dissection.{DissectedParts, dissected, ipv4_dissected}
use Rattle.ip_dissect.specs.End.{has_error, ipv4_end, is_too_short}
use Rattle.ip_dissect.specs.Extent.{after_base, ipv4_chain, ipv4_stated, missing_of, packet_bytes}
use Rattle.ip_dissect.proofs.DissectedLemmas.{begun4}
use Rattle.ip_dissect.proofs.Ipv4Lemmas.{ipv4_prefix}
use Rattle.ip_reassembly.specs.Fragment.{Fragment, end_of, is_same, is_unaligned}
use Rattle.ip_reassembly.specs.Split.{IsSplit}
use Rattle.ip_reassembly.proofs.SplitLemmas.{IsPiece, member_piece}
use Rattle.ip_defragmenter.specs.FragmentOf.{FragmentParts, fragmented, packet_fragment, unusable}
use Rattle.ip_defragmenter.specs.Key.{IsKey}
use Rattle.ip_defragmenter.specs.Memory.{own_refusal, piece_of, first_of}
use Rattle.ip_defragmenter.specs.Sent.{IsSentIpv4, ipv4_base, ipv4_first}
use Rattle.ip_defragmenter.specs.Whole.{are_headers, stated_by, whole_packet}
use Rattle.ip_defragmenter.specs.declared.err.FragmentError.TheVariants.{Headers, NoLength, Missing}
use Rattle.ip_defragmenter.specs.declared.key.FragmentKey.TheVariants as key
use Rattle.ip_defragmenter.proofs.ReadLemmas.{is_fragment}
use Rattle.ip_defragmenter.proofs.SentLemmas.{whole4}
use Rattle.ip_defragmenter_laws.specs.Ipv4.{IsIpv4Fragment, ipv4_key, ipv4_payload}
use Rattle.ip_defragmenter_laws.proofs.PartLemmas.{IsFirst}
use Rattle.ip_defragmenter_laws.proofs.ReadKeyLemmas.{ipv4_is_key, word_is}
use Rattle.ip_defragmenter_laws.proofs.RunLemmas.{IsReadAs}

-- A packet fits its length field.
pub short4 : (s : List ℕ) → IsSentIpv4 s → length s ≤ 65535
short4 s sent =
    let long : 20 ≤ length s = omega (arith, sent.least, sent.within) in
    omega (arith, sent.stated, word_is s 2, sent.bytes 2 0 (omega (arith, long)), sent.bytes 3 0 (omega (arith, long)))

pub payload4 : (s : List ℕ) → IsSentIpv4 s → ipv4_header_len s + length (ipv4_payload s) ≡ length s
payload4 s sent = omega (arith, length-drop (ipv4_header_len s) s, sent.within)

pub is_key4 : (s : List ℕ) → IsSentIpv4 s → IsKey (ipv4_key s)
is_key4 s sent =
    let long : 20 ≤ length s = omega (arith, sent.least, sent.within) in
    ipv4_is_key s long (sent.bytes 4 0 (omega (arith, long))) (sent.bytes 5 0 (omega (arith, long)))

-- The headers of the first fragment.
first_len : (s : List ℕ) (t x : ℕ) → IsSentIpv4 s → length (ipv4_first s t x) ≡ ipv4_header_len s
first_len s t x sent =
    word_len (slice_set (with_word (ipv4_base s) 2 t) 6 (slice_index s 6 + 32)) 10 x
    ∙ (length-set (with_word (ipv4_base s) 2 t) 6 (slice_index s 6 + 32) ∙ (word_len (ipv4_base s) 2 t
    ∙ (length-take (ipv4_header_len s) s ∙ omega (arith, sent.within))))

first_flags : (s : List ℕ) (t x : ℕ) → IsSentIpv4 s → slice_index (ipv4_first s t x) 6 ≡ slice_index s 6 + 32
first_flags s t x sent =
    word_other (slice_set (with_word (ipv4_base s) 2 t) 6 (slice_index s 6 + 32)) 10 x 6 (λ e. cc) (λ e. cc)
    ∙ get_or-set_same (with_word (ipv4_base s) 2 t) 6 (slice_index s 6 + 32) 0
    (omega (arith, word_len (ipv4_base s) 2 t, length-take (ipv4_header_len s) s, sent.within, sent.least))

clear_flag : (high low : ℕ) → (not (bit_and high 0x20 == 0) || not (256 * bit_and high 0x1f + low == 0)) ≡ false → bit_and high 0x20 ≡ 0
clear_flag high low e = elim (cases_Bool (bit_and high 0x20 == 0)) [
  | inl is ↦ eqb-true (bit_and high 0x20) 0 is
  | inr other ↦ absurd (false≢true (sym e ∙ or_left (not (bit_and high 0x20 == 0)) (not (256 * bit_and high 0x1f + low == 0)) (not_from_false (bit_and high 0x20 == 0) other)))
]

first_more : (s : List ℕ) (t x : ℕ) → IsSentIpv4 s → ipv4_more_fragments (ipv4_first s t x) ≡ true
first_more s t x sent =
    let was : bit_and (slice_index s 6) 0x20 ≡ 0 = clear_flag (slice_index s 6) (slice_index s 7) sent.alone in
    let was_bit : bit_and (slice_index s 6) 0x20 ≡ (slice_index s 6 / 32 % 2) * 32 = and_high (slice_index s 6) 1 5 in
    let is_bit : bit_and (slice_index s 6 + 32) 0x20 ≡ ((slice_index s 6 + 32) / 32 % 2) * 32 = and_high (slice_index s 6 + 32) 1 5 in
    let set : bit_and (slice_index s 6 + 32) 0x20 ≡ 32 = omega (arith, was, was_bit, is_bit) in
    not_from_false (bit_and (slice_index (ipv4_first s t x) 6) 0x20 == 0)
    (ne_eqb (bit_and (slice_index (ipv4_first s t x) 6) 0x20) 0 (λ e. (let z : bit_and (slice_index s 6 + 32) 0x20 ≡ 0 = ap (λ (n : ℕ). bit_and n 0x20) (sym (first_flags s t x sent)) ∙ e in omega (arith, z, set))))

pub same_fragment : (f g : Fragment) → f.offset ≡ g.offset → f.more ≡ g.more → f.bytes ≡ g.bytes → f ≡ g
same_fragment f g a b c = rw (a, b, c) refl

same_key4 : (a b c d : List ℕ) (p q i j : ℕ) → a ≡ b → c ≡ d → p ≡ q → i ≡ j → key.Ipv4 a c (record { 0 = p }) i ≡ key.Ipv4 b d (record { 0 = q }) j
same_key4 a b c d p q i j e f g h = rw (e, f, g, h) refl

-- A fragment that isn't refused by itself.
pub sound_by : (f : FragmentParts) → is_unaligned (piece_of f) ≡ false → stated_by f.headers (end_of (piece_of f)) ≤ 65535 → (f.offset ≡ 0 → are_headers f.headers f.link ≡ true) → length f.headers ≤ 4096 → own_refusal f ≡ None
unfolding own_refusal
sound_by f aligned fits are few =
    cond-false (is_unaligned (piece_of f)) _ _ aligned
    ∙ (cond-false (nat_lt 65535 (stated_by f.headers (end_of (piece_of f)))) _ _ (le-ltb 65535 (stated_by f.headers (end_of (piece_of f))) fits)
    ∙ (cond-false ((f.offset == 0) && not (are_headers f.headers f.link)) _ _ (and_when (f.offset == 0) (not (are_headers f.headers f.link)) (λ start. not_from_true (are_headers f.headers f.link) (are (eqb-true f.offset 0 start))))
    ∙ cond-false ((f.offset == 0) && nat_lt 4096 (length f.headers)) _ _ (and_when (f.offset == 0) (nat_lt 4096 (length f.headers)) (λ start. le-ltb 4096 (length f.headers) few)))) where
      and_when : (a b : Bool) → (a ≡ true → b ≡ false) → (a && b) ≡ false
      and_when true b is = is refl
      and_when false b is = refl

pub usable_by : (p : DissectedParts) (t : ℕ) → has_error p.end ≡ false → p.stated ≡ Some t → p.missing ≡ 0 → None ≡ unusable p
usable_by p t right stated all =
    sym (cond-false (has_error p.end) (Some Headers) _ right
    ∙ (cond-false (not (is_some p.stated)) (Some NoLength) _ (ap (λ (o : Option ℕ). not (is_some o)) stated)
    ∙ cond-false (not (p.missing == 0)) (Some Missing) None (not_from_true (p.missing == 0) (eq-eqb p.missing 0 all))))

module _ (s : List ℕ) (pieces : List Fragment) (p : Fragment) (f : List ℕ) (sent : IsSentIpv4 s) (split : IsSplit (ipv4_payload s) pieces) (among : list_any (is_same p) pieces ≡ true) (is : IsIpv4Fragment s p f) where
  abbrev b : List ℕ
  b = is.base

  piece : IsPiece 0 (ipv4_payload s) p
  piece = member_piece 0 (ipv4_payload s) pieces p split among

  long : 20 ≤ length b
  long = omega (arith, is.header.len, is.header.least)

  prefix : IsPrefix b f
  prefix = prefix_of-append b (p.bytes ++ is.padding) f is.joined

  abbrev d : DissectedParts
  d = ipv4_dissected b f

  dissected_is : dissected f ≡ d
  dissected_is = begun4 f b is.header prefix

  stated_is : ipv4_stated b ≡ Some (total_len b)
  stated_is = cond-false (total_len b == 0) None (Some (total_len b)) (ne_eqb (total_len b) 0 (λ e. omega (arith, e, is.stated, long)))

  f_len : length f ≡ length b + (length p.bytes + length is.padding)
  f_len = ap length is.joined ∙ (length-append b (p.bytes ++ is.padding) ∙ ap (λ (n : ℕ). length b + n) (length-append p.bytes is.padding))

  packet_is : packet_bytes b (Some (total_len b)) f ≡ b ++ p.bytes
  packet_is =
      let size : max (total_len b) (length b) ≡ length (b ++ p.bytes) = omega (arith, is.stated, length-append b p.bytes) in
      ap (λ (n : ℕ). take n f) size ∙ (ap (take (length (b ++ p.bytes))) (is.joined ∙ sym (append_assoc b p.bytes is.padding)) ∙ take-append_seam (b ++ p.bytes) is.padding)

  after_is : after_base b (ipv4_stated b) f ≡ p.bytes
  after_is = ap (λ (o : Option ℕ). after_base b o f) stated_is ∙ (ap (drop (length b)) packet_is ∙ drop-append_seam b p.bytes)

  bytes_is : bytes_of (ipv4_chain b f) ++ rest_after (ipv4_chain b f) (after_base b (ipv4_stated b) f) ≡ p.bytes
  bytes_is = sym (prefix-append (bytes_of (ipv4_chain b f)) (after_base b (ipv4_stated b) f) (ipv4_prefix b (after_base b (ipv4_stated b) f)).prefix) ∙ after_is

  not_short : is_too_short b ≡ false
  not_short = false_from_ne_true (is_too_short b) (λ e. false≢true (sym (le-ltb (total_len b) (length b) (omega (arith, is.stated))) ∙ second (not (total_len b == 0)) (nat_lt (total_len b) (length b)) e)) where
    second : (x y : Bool) → (x && y) ≡ true → y ≡ true
    second true y e = e
    second false y e = absurd (false≢true e)

  later : (ipv4_fragment_offset b ≡ 0 → ⊥) → has_error (ipv4_end b f) ≡ false
  later other =
      let is_later : not (ipv4_fragment_offset b == 0) ≡ true = not_from_false (ipv4_fragment_offset b == 0) (ne_eqb (ipv4_fragment_offset b) 0 other) in
      ap has_error (cond-false (is_too_short b) _ _ not_short ∙ cond-true (not (ipv4_fragment_offset b == 0)) _ _ is_later)

  right : has_error (ipv4_end b f) ≡ false
  right = elim (cases_Bool (ipv4_fragment_offset b == 0)) [
    | inl start ↦ ap (λ (q : DissectedParts). has_error q.end) (sym dissected_is) ∙ is.whole (omega (arith, is.offset, eqb-true (ipv4_fragment_offset b) 0 start))
    | inr other ↦ later (λ e. false≢true (sym other ∙ eq-eqb (ipv4_fragment_offset b) 0 e))
  ]

  usable : None ≡ unusable d
  usable = usable_by d (total_len b) right stated_is (ap (λ (o : Option ℕ). missing_of o (length f)) stated_is ∙ omega (arith, f_len, is.stated))

  first_is : p.offset ≡ 0 → ipv4_more_fragments b ≡ true
  first_is start = let own = is.first start in ap ipv4_more_fragments own.1.1 ∙ first_more s own.0 own.1.0 sent

  fragments : is_ipv4_fragmenting b ≡ true
  fragments = elim (cases_Bool (ipv4_fragment_offset b == 0)) [
    | inl start ↦ or_left (ipv4_more_fragments b) (not (ipv4_fragment_offset b == 0)) (first_is (omega (arith, is.offset, eqb-true (ipv4_fragment_offset b) 0 start)))
    | inr other ↦ or_right (ipv4_more_fragments b) (not (ipv4_fragment_offset b == 0)) (not_from_false (ipv4_fragment_offset b == 0) other)
  ]

  abbrev r : FragmentParts
  r = record {
    key = ipv4_key b;
    headers = b;
    link = 9;
    number = protocol b;
    ecn = ipv4_ecn b;
    offset = ipv4_fragment_offset b;
    more = ipv4_more_fragments b;
    bytes = bytes_of (ipv4_chain b f) ++ rest_after (ipv4_chain b f) (after_base b (ipv4_stated b) f);
  }

  parts_is : Some r ≡ fragmented d
  parts_is = sym (cond-true (is_ipv4_fragmenting b) (Some r) None fragments)

  read : packet_fragment (dissected f) ≡ Ok (Some r)
  read = ap packet_fragment dissected_is ∙ sym (is_fragment d r parts_is usable)

  piece_is : piece_of r ≡ p
  piece_is = same_fragment (piece_of r) p is.offset is.more bytes_is

  four : (version b == 4) ≡ true
  four = eq-eqb (version b) 4 is.header.version

  stated4 : (n : ℕ) → stated_by b n ≡ length b + n
  stated4 n = cond-true (version b == 4) (length b + n) (length b - 40 + n) four

  headers4 : are_headers b 9 ≡ true
  headers4 = cond-true (version b == 4) _ _ four ∙ le-leb 20 (length b) long

  no_longer : length b ≤ ipv4_header_len s
  no_longer = omega (arith, is.header.len, is.options)

  fits4 : stated_by b (end_of (piece_of r)) ≤ 65535
  fits4 = omega (arith, stated4 (end_of (piece_of r)), ap end_of piece_is, piece.high, no_longer, payload4 s sent, short4 s sent)

  small4 : length b ≤ 4096
  small4 = omega (arith, is.header.len)

  sound4 : own_refusal r ≡ None
  sound4 = sound_by r (ap is_unaligned piece_is ∙ piece.aligned) fits4 (λ start. headers4) small4

  first4 : ipv4_fragment_offset b ≡ 0 → IsFirst (ipv4_ecn s) (ipv4_payload s) s (first_of r)
  first4 start =
      let own = is.first (omega (arith, is.offset, start)) in
      let t : ℕ = own.0 in
      let x : ℕ = own.1.0 in
      let size : length b ≡ ipv4_header_len s = ap length own.1.1 ∙ first_len s t x sent in
      record {
        headers = headers4;
        fits = omega (arith, stated4 (length (ipv4_payload s)), size, payload4 s sent, short4 s sent);
        len = omega (arith, size, payload4 s sent);
        point_is = cond-true (version b == 4) (ipv4_ecn b) (ipv6_traffic_class b % 4) four ∙ is.ecn;
        long = omega (arith, long);
        whole = ap (λ (h : List ℕ). whole_packet h 9 (protocol b) (ipv4_payload s)) own.1.1
            ∙ (ap (λ (h : List ℕ). h ++ ipv4_payload s) (whole4 s t x (length (ipv4_payload s)) sent (length-drop (ipv4_header_len s) s) 9 (protocol b))
            ∙ take-append-drop (ipv4_header_len s) s);
      }

  pub read_ipv4 : IsReadAs (ipv4_key s) (ipv4_ecn s) (ipv4_payload s) s p f
  read_ipv4 = record {
    parts = r;
    read = read;
    key = same_key4 _ _ _ _ _ _ _ _ is.source is.destination is.number is.identification;
    part = record { piece = piece_is; sound = sound4; ecn = is.ecn; first = first4 };
  }
