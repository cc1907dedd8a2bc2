-- The fields of a header, and the header with given fields.
use Rattle.ip_spec.proofs.Common.{◌≡◌, ℕ, ◌+◌, ◌/◌, ◌%◌, ◌^◌, ◌<◌, ◌≤◌, List, [], ◌∷◌, ◌++◌, length, get_or, take, drop, refl, ap, sym, ◌∙◌, arith, subst, rules, slice_range, to_be_bytes, from_be_bytes, w32, append_cancel_left, get_or_past, take_all, take-append-drop, All-from_recursion, recursion_from_All, All-append, All-take, All-drop, be_bytes_4, from_be_bytes-to_be_bytes_4, cases_lt, IsHeader, offset_bits, flag_bit, unreserved_bits, FragmentFields, AuthFields, AreBytes, IsEncoding, IsFragmentEncoding, IsAuthEncoding, IsDecoding}
use Rattle.ip_spec.proofs.HeaderLemmas.{one_header}
use Rattle.ip_spec.proofs.FragmentBitLemmas.{high_byte, low_byte, unpacked_high, unpacked_low}

-- a decoding is unique if each header of the format is one of a number
pub one_decoding_of : {V : Type 0} (n : ℕ) (IsOne : List ℕ → Type 0) (fields_of : List ℕ → V) → ((b : List ℕ) → IsOne b → IsHeader n b)
    → (s : List ℕ) (v w : V) (r q : List ℕ) → IsDecoding IsOne fields_of s v r → IsDecoding IsOne fields_of s w q → (v ≡ w) × (r ≡ q)
one_decoding_of n IsOne fields_of of_number s v w r q x y =
    search (rules, one_header n x.bytes y.bytes r q (of_number x.bytes x.header) (of_number y.bytes y.header) (x.joined ∙ sym y.joined), append_cancel_left)

-- an encoding of fields decodes to them, whatever follows it
pub encoding_is_decoded : {V : Type 0} (IsOne : List ℕ → Type 0) (fields_of : List ℕ → V) (n : ℕ) (v : V) (b r : List ℕ)
    → IsEncoding IsOne fields_of n v b → IsDecoding IsOne fields_of (b ++ r) v r
encoding_is_decoded IsOne fields_of n v b r s = record { bytes = b; header = s.header; fields = s.fields; joined = refl }

-- The first four elements of a list.
pub record FirstFour (b : List ℕ) : Type 0 where
  pub x0 : ℕ
  pub x1 : ℕ
  pub x2 : ℕ
  pub x3 : ℕ
  pub rest : List ℕ
  pub joined : x0 ∷ x1 ∷ x2 ∷ x3 ∷ rest ≡ b

pub first_four : (b : List ℕ) → 4 ≤ length b → FirstFour b
first_four [] l = absurd (omega arith)
first_four (x0 ∷ []) l = absurd (omega arith)
first_four (x0 ∷ x1 ∷ []) l = absurd (omega arith)
first_four (x0 ∷ x1 ∷ x2 ∷ []) l = absurd (omega arith)
first_four (x0 ∷ x1 ∷ x2 ∷ x3 ∷ rest) l = record { x0 = x0; x1 = x1; x2 = x2; x3 = x3; rest = rest; joined = refl }

-- each element of a list of bytes, and the default after them, is a byte
pub byte_at : (b : List ℕ) → AreBytes b → (i : ℕ) → get_or b i 0 < 256
byte_at b h i = search (rules, cases_lt, get_or_past)

-- The encoding of fields. It serves proofs only: the relations define what an encoding is.
abbrev pub fragment_written : FragmentFields → List ℕ
fragment_written v =
    v.next_header ∷ 0 ∷ high_byte v.fragment_offset ∷ low_byte v.fragment_offset v.more_fragments ∷ to_be_bytes w32 v.identification

abbrev pub auth_written : AuthFields → List ℕ
auth_written v =
    v.next_header ∷ (length v.raw_icv / 4 + 1) ∷ 0 ∷ 0 ∷ (to_be_bytes w32 v.spi ++ (to_be_bytes w32 v.sequence_number ++ v.raw_icv))

-- a number in network byte order is bytes
be_bytes-are : (n : ℕ) → AreBytes (to_be_bytes w32 n)
be_bytes-are n = search rules

-- three bytes before bytes
pub three_before : (x1 x2 x3 : ℕ) (rest : List ℕ) → x1 < 256 → x2 < 256 → x3 < 256 → AreBytes rest → AreBytes (x1 ∷ x2 ∷ x3 ∷ rest)
three_before x1 x2 x3 rest b c d e = search rules

-- bytes 2 and 3 with the offset and the flag, and without a reserved bit, make the header with these fields
pub fragment_encodes : (v : FragmentFields) (high low : ℕ) → offset_bits high low ≡ v.fragment_offset → flag_bit low ≡ v.more_fragments → unreserved_bits low ≡ low
    → high < 256 → low < 256 → v.identification < 2 ^ 32 → IsFragmentEncoding v (v.next_header ∷ 0 ∷ high ∷ low ∷ to_be_bytes w32 v.identification)
fragment_encodes v high low offset flag reserved high_byte low_byte small = search rules

pub auth_written_encodes : (v : AuthFields) → length v.raw_icv ≤ 1016 → length v.raw_icv % 4 ≡ 0 → v.spi < 2 ^ 32 → v.sequence_number < 2 ^ 32 → IsAuthEncoding v (auth_written v)
auth_written_encodes v few whole small small' =
    let fields : ℕ → ℕ → AuthFields = λ a b. record { next_header = v.next_header; spi = a; sequence_number = b; raw_icv = v.raw_icv } in
    record {
      header = record { not_zero = omega arith; len = omega arith };
      fields =
          ap (λ a. fields a (from_be_bytes w32 (to_be_bytes w32 v.sequence_number))) (from_be_bytes-to_be_bytes_4 v.spi small)
          ∙ ap (λ b. fields v.spi b) (from_be_bytes-to_be_bytes_4 v.sequence_number small');
      cleared = record {
        reserved = refl;
        bytes =
            three_before (length v.raw_icv / 4 + 1) 0 0 (to_be_bytes w32 v.spi ++ to_be_bytes w32 v.sequence_number)
            (omega (arith, few)) (omega arith) (omega arith)
            (All-append (λ x. x < 256) (to_be_bytes w32 v.spi) (to_be_bytes w32 v.sequence_number) (be_bytes-are v.spi) (be_bytes-are v.sequence_number));
      };
    }

-- and no other bytes do
fragment_only_parts : (v : FragmentFields) (x0 x1 x2 x3 : ℕ) (rest : List ℕ) → AreBytes (x1 ∷ x2 ∷ x3 ∷ take 4 rest)
    → IsFragmentEncoding v (x0 ∷ x1 ∷ x2 ∷ x3 ∷ rest) → x0 ∷ x1 ∷ x2 ∷ x3 ∷ rest ≡ fragment_written v
fragment_only_parts v x0 x1 x2 x3 rest bytes h =
    let whole : take 4 rest ≡ rest = take_all 4 rest (omega (arith, h.header.len)) in
    let id = be_bytes_4 rest v.identification (omega (arith, h.header.len)) (byte_at rest (rw whole at (All-drop (λ x. x < 256) 3 (x1 ∷ x2 ∷ x3 ∷ take 4 rest) bytes))) (cc) in
    cc (unpacked_high x2 x3, unpacked_low x2 x3 (byte_at (x1 ∷ x2 ∷ x3 ∷ take 4 rest) bytes 2) (cc), id)

pub fragment_only : (v : FragmentFields) (b : List ℕ) → IsFragmentEncoding v b → b ≡ fragment_written v
fragment_only v b h =
    let f : FirstFour b = first_four b (omega (arith, h.header.len)) in
    let P : List ℕ → Type 0 = λ l. AreBytes (slice_range l 1 8) → IsFragmentEncoding v l → l ≡ fragment_written v in
    subst P f.joined (fragment_only_parts v f.x0 f.x1 f.x2 f.x3 f.rest) h.cleared.bytes h

module _ (v : AuthFields) (x0 x1 x2 x3 y0 y1 y2 y3 z0 z1 z2 z3 : ℕ) (rest : List ℕ) where
  abbrev twelve : List ℕ
  twelve = x0 ∷ x1 ∷ x2 ∷ x3 ∷ y0 ∷ y1 ∷ y2 ∷ y3 ∷ z0 ∷ z1 ∷ z2 ∷ z3 ∷ rest

  auth_only_parts : AreBytes (slice_range twelve 1 12) → IsAuthEncoding v twelve → twelve ≡ auth_written v
  auth_only_parts bytes h =
      let ys : List ℕ = y0 ∷ y1 ∷ y2 ∷ y3 ∷ [] in
      let zs : List ℕ = z0 ∷ z1 ∷ z2 ∷ z3 ∷ [] in
      let icv : rest ≡ v.raw_icv = ap (λ (w : AuthFields). w.raw_icv) h.fields in
      let len : x1 ≡ length v.raw_icv / 4 + 1 = omega (arith, h.header.len, h.header.not_zero, ap length icv) in
      let index : to_be_bytes w32 v.spi ≡ ys =
      be_bytes_4 ys v.spi refl (λ i. byte_at ys (All-take (λ x. x < 256) 4 (drop 3 (slice_range twelve 1 12)) (All-drop (λ x. x < 256) 3 (slice_range twelve 1 12) bytes)) i) (cc) in
      let sequence : to_be_bytes w32 v.sequence_number ≡ zs =
      be_bytes_4 zs v.sequence_number refl (λ i. byte_at zs (All-take (λ x. x < 256) 4 (drop 7 (slice_range twelve 1 12)) (All-drop (λ x. x < 256) 7 (slice_range twelve 1 12) bytes)) i) (cc) in
      cc

pub auth_only : (v : AuthFields) (b : List ℕ) → IsAuthEncoding v b → b ≡ auth_written v
auth_only v b h =
    let f : FirstFour b = first_four b (omega (arith, h.header.len, h.header.not_zero)) in
    let g : FirstFour f.rest = first_four f.rest (omega (arith, h.header.len, h.header.not_zero, ap length f.joined)) in
    let k : FirstFour g.rest = first_four g.rest (omega (arith, h.header.len, h.header.not_zero, ap length f.joined, ap length g.joined)) in
    let e : twelve v f.x0 f.x1 f.x2 f.x3 g.x0 g.x1 g.x2 g.x3 k.x0 k.x1 k.x2 k.x3 k.rest ≡ b = cc in
    let P : List ℕ → Type 0 = λ l. AreBytes (slice_range l 1 12) → IsAuthEncoding v l → l ≡ auth_written v in
    subst P e (auth_only_parts v f.x0 f.x1 f.x2 f.x3 g.x0 g.x1 g.x2 g.x3 k.x0 k.x1 k.x2 k.x3 k.rest) h.cleared.bytes h

-- if what follows the fixed part is bytes and the next header is one, all are
pub auth_encoding-bytes : (v : AuthFields) (b : List ℕ) → IsAuthEncoding v b → v.next_header < 256 → AreBytes v.raw_icv → AreBytes b
auth_encoding-bytes v [] h small icv = absurd (omega (arith, h.header.len))
auth_encoding-bytes v (x ∷ t) h small icv =
    let number : x ≡ v.next_header = ap (λ (w : AuthFields). w.next_header) h.fields in
    let after : drop 11 t ≡ v.raw_icv = ap (λ (w : AuthFields). w.raw_icv) h.fields in
    let parts : AreBytes (take 11 t ++ drop 11 t) = All-append (λ y. y < 256) (take 11 t) (drop 11 t) h.cleared.bytes (subst AreBytes (sym after) icv) in
    let rest : AreBytes t = subst AreBytes (take-append-drop 11 t) parts in
    All-from_recursion (λ y. y < 256) (x ∷ t) (omega arith, recursion_from_All (λ y. y < 256) t rest)
