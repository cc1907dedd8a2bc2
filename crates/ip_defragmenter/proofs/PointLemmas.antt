-- The ECN code point of a whole packet.
use Rattle.std.proofs.Common.{◌≡◌, ℕ, ◌+◌, ◌*◌, ◌/◌, ◌%◌, ◌≤◌, ◌<◌, ◌++◌, Bool, true, false, List, length, leb, ltb, cond, refl, sym, ap, ◌∙◌, arith, inl, inr}
use Rattle.std.specs.Prelude.{Some, None, Option, slice_index, bit_or, ◌==◌, if◌then◌else◌}
use Rattle.std.specs.Int.{bit_at}
use Rattle.std.proofs.lemmas.Bool.{cases_Bool, cond-true, cond-false, and_parts, leb-true}
use Rattle.std.proofs.lemmas.List.{get_or_append_left, get_or-set_other, get_or-set_same, length-set}
use Rattle.std.proofs.lemmas.Nat.Bits.{bit_at_or, bit_at-lt}
use Rattle.std.proofs.lemmas.Option.{none-some, same_Some}
use Rattle.ip_base.specs.Ipv4Header.{version}
use Rattle.ip_base.proofs.ChecksumLemmas.{word_len, word_other}
use Rattle.ip_reassembly.specs.Marks.{byte_mark}
use Rattle.ip_reassembly.proofs.ByteMarkLemmas.{mark_bits}
use Rattle.ip_defragmenter.specs.Ecn.{are_mixed, is_congested, marked, point_of, whole_point, with_congestion}
use Rattle.ip_defragmenter.specs.Whole.{are_headers, ipv4_whole, ipv6_whole, unchecked, whole_headers, whole_packet}

-- Two bits that are set are 3.
low_point : (b : ℕ) → byte_mark (bit_or b 3) 0 ≡ 3
low_point b =
    let first : bit_at 3 0 ≡ 1 = refl in
    let second : bit_at 3 1 ≡ 1 = refl in
    omega (arith, mark_bits (bit_or b 3) 0, bit_at_or b 3 0, bit_at_or b 3 1, first, second, bit_at-lt b 0, bit_at-lt b 1)

high_point : (b : ℕ) → byte_mark (bit_or b 48) 2 ≡ 3
high_point b =
    let first : bit_at 48 4 ≡ 1 = refl in
    let second : bit_at 48 5 ≡ 1 = refl in
    omega (arith, mark_bits (bit_or b 48) 2, bit_at_or b 48 4, bit_at_or b 48 5, first, second, bit_at-lt b 4, bit_at-lt b 5)

-- The code point by the first two bytes.
abbrev point_by : ℕ → ℕ → ℕ
point_by x y = if x / 16 == 4 then y % 4 else (16 * (x % 16) + y / 16) % 4

-- The first two bytes of a whole packet are those of its headers.
ipv4_len : (b : List ℕ) (n : ℕ) → length (ipv4_whole b n) ≡ length b
ipv4_len b n = word_len (unchecked b n) 10 _ ∙ (word_len _ 10 0 ∙ (length-set _ 7 0 ∙ (length-set _ 6 _ ∙ word_len b 2 (length b + n))))

ipv4_byte : (b : List ℕ) (n j : ℕ) → j < 2 → slice_index (ipv4_whole b n) j ≡ slice_index b j
ipv4_byte b n j less =
    word_other (unchecked b n) 10 _ j (λ e. omega (arith, e, less)) (λ e. omega (arith, e, less))
    ∙ (word_other _ 10 0 j (λ e. omega (arith, e, less)) (λ e. omega (arith, e, less))
    ∙ (get_or-set_other _ 7 j 0 0 (λ e. omega (arith, e, less))
    ∙ (get_or-set_other _ 6 j _ 0 (λ e. omega (arith, e, less))
    ∙ word_other b 2 (length b + n) j (λ e. omega (arith, e, less)) (λ e. omega (arith, e, less)))))

ipv6_len : (b : List ℕ) (link number n : ℕ) → length (ipv6_whole b link number n) ≡ length b
ipv6_len b link number n = length-set _ link number ∙ word_len b 4 _

ipv6_byte : (b : List ℕ) (link number n j : ℕ) → j < 2 → 6 ≤ link → slice_index (ipv6_whole b link number n) j ≡ slice_index b j
ipv6_byte b link number n j less after =
    get_or-set_other _ link j number 0 (λ e. omega (arith, e, less, after))
    ∙ word_other b 4 _ j (λ e. omega (arith, e, less)) (λ e. omega (arith, e, less))

packet_byte : (b payload : List ℕ) (link number j : ℕ) → j < 2 → 6 ≤ link → 2 ≤ length b → slice_index (whole_packet b link number payload) j ≡ slice_index b j
packet_byte b payload link number j less after long =
    let n : ℕ = length payload in
    elim (cases_Bool (version b == 4)) [
      | inl four ↦
          let is : whole_headers b link number n ≡ ipv4_whole b n = cond-true (version b == 4) _ _ four in
          ap (λ (h : List ℕ). slice_index (h ++ payload) j) is
          ∙ (get_or_append_left (ipv4_whole b n) payload 0 j (omega (arith, ipv4_len b n, less, long)) ∙ ipv4_byte b n j less)
      | inr six ↦
          let is : whole_headers b link number n ≡ ipv6_whole b link number n = cond-false (version b == 4) _ _ six in
          ap (λ (h : List ℕ). slice_index (h ++ payload) j) is
          ∙ (get_or_append_left (ipv6_whole b link number n) payload 0 j (omega (arith, ipv6_len b link number n, less, long)) ∙ ipv6_byte b link number n j less after)
    ]

-- There are two bytes of headers.
headers_long : (b : List ℕ) (link : ℕ) → are_headers b link ≡ true → 2 ≤ length b
headers_long b link are = elim (cases_Bool (version b == 4)) [
  | inl four ↦ (let l : 20 ≤ length b = leb-true 20 (length b) (sym (cond-true (version b == 4) _ _ four) ∙ are) in omega (arith, l))
  | inr not_four ↦ elim (cases_Bool (version b == 6)) [
    | inl six ↦
        let both = and_parts (leb 40 (length b)) (ltb link (length b)) (sym (cond-true (version b == 6) _ _ six) ∙ (sym (cond-false (version b == 4) _ _ not_four) ∙ are)) in
        let l : 40 ≤ length b = leb-true 40 (length b) both.0 in
        omega (arith, l)
    | inr other ↦ absurd (let e : false ≡ true = sym (cond-false (version b == 6) _ _ other) ∙ (sym (cond-false (version b == 4) _ _ not_four) ∙ are) in cc)
  ]
]

-- With congestion the code point is 3.
congested_point : (b : List ℕ) → 2 ≤ length b → point_by (slice_index b 0) (slice_index (with_congestion b) 1) ≡ 3
congested_point b long =
    let v : Bool = version b == 4 in
    let byte : slice_index (with_congestion b) 1 ≡ bit_or (slice_index b 1) (cond v 3 48) = get_or-set_same b 1 (bit_or (slice_index b 1) (cond v 3 48)) 0 (omega (arith, long)) in
    ap (point_by (slice_index b 0)) byte ∙ elim (cases_Bool v) [
      | inl four ↦ cond-true v _ _ four ∙ (ap (λ (n : ℕ). bit_or (slice_index b 1) n % 4) (cond-true v 3 48 four) ∙ (let e : byte_mark (bit_or (slice_index b 1) 3) 0 ≡ 3 = low_point (slice_index b 1) in omega (arith, e)))
      | inr six ↦ cond-false v _ _ six ∙ (ap (λ (n : ℕ). (16 * (slice_index b 0 % 16) + bit_or (slice_index b 1) n / 16) % 4) (cond-false v 3 48 six) ∙ (let e : byte_mark (bit_or (slice_index b 1) 48) 2 ≡ 3 = high_point (slice_index b 1) in omega (arith, e)))
    ]

marked_len : (c : Bool) (b : List ℕ) → length (marked c b) ≡ length b
marked_len true b = length-set b 1 _
marked_len false b = refl

marked_first : (c : Bool) (b : List ℕ) → slice_index (marked c b) 0 ≡ slice_index b 0
marked_first true b = get_or-set_other b 1 0 _ 0 (λ e. omega (arith, e))
marked_first false b = refl

marked_point : (c : Bool) (b : List ℕ) (point : ℕ) → 2 ≤ length b → (if c then Some 3 else Some (point_of b)) ≡ Some point → point_by (slice_index b 0) (slice_index (marked c b) 1) ≡ point
marked_point true b point long is = congested_point b long ∙ same_Some 3 point is
marked_point false b point long is = same_Some (point_of b) point is

unmixed : (m : Bool) (o : Option ℕ) (point : ℕ) → (if m then None else o) ≡ Some point → o ≡ Some point
unmixed true o point is = absurd (none-some point is)
unmixed false o point is = is

pub point_is : (b payload points : List ℕ) (link number point : ℕ) → are_headers b link ≡ true → 6 ≤ link → whole_point (point_of b) points ≡ Some point
    → point_of (whole_packet (marked (is_congested points) b) link number payload) ≡ point
point_is b payload points link number point are after is =
    let c : Bool = is_congested points in
    let h : List ℕ = marked c b in
    let long : 2 ≤ length b = headers_long b link are in
    let h_long : 2 ≤ length h = omega (arith, long, marked_len c b) in
    let w : List ℕ = whole_packet h link number payload in
    ap (λ (x : ℕ). point_by x (slice_index w 1)) (packet_byte h payload link number 0 (omega arith) after h_long ∙ marked_first c b)
    ∙ (ap (point_by (slice_index b 0)) (packet_byte h payload link number 1 (omega arith) after h_long)
    ∙ marked_point c b point long (unmixed (are_mixed points) _ point is))
