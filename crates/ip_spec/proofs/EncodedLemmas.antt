-- Fields determine their header if its reserved bits are zero.
use Rattle.ip_spec.proofs.Common.{◌≡◌, ℕ, ◌+◌, ◌-◌, ◌/◌, ◌^◌, ◌<◌, ◌≤◌, List, ◌∷◌, length, sym, ◌∙◌, arith, rules, IsHeader, IsRawHeader, IsRawNumber, RawFields, FragmentFields, AuthFields, raw_fields, MAX_FRAGMENT_OFFSET, IsPayloadLen, IsIcvLen, AreBytes, IsFragmentEncoding, IsCleared, ExtHeader, HeaderFields, raw_header, fragment_header, auth_header, fields_of, IsEncoded, IsEncodingOf}
use Rattle.ip_spec.proofs.HeaderLemmas.{header_number, by_number}
use Rattle.ip_spec.proofs.EncodingLemmas.{fragment_only, auth_only, fragment_encodes, auth_written_encodes, auth_encoding-bytes, fragment_written, auth_written}
use Rattle.ip_spec.proofs.FragmentBitLemmas.{packed_offset, packed_flag, packed_reserved}

-- the header of number n with bytes b
abbrev pub of_number : ℕ → List ℕ → ExtHeader
of_number n b = record { number = n; bytes = b }

raw_bytes : (b d : List ℕ) → IsRawHeader b → IsRawHeader d → raw_fields b ≡ raw_fields d → b ≡ d
raw_bytes b d h g e = search rules

-- Fields have at most one encoding,
pub one_encoded : (x : HeaderFields) (b d : List ℕ) → IsEncodingOf x b → IsEncodingOf x d → b ≡ d
one_encoded (raw_header v) b d h g = raw_bytes b d h.header g.header (h.fields ∙ sym g.fields)
one_encoded (fragment_header v) b d h g = fragment_only v b h ∙ sym (fragment_only v d g)
one_encoded (auth_header v) b d h g = auth_only v b h ∙ sym (auth_only v d g)

-- and a header whose reserved bits are zero encodes its fields.
pub cleared_is_encoding : (n : ℕ) (b : List ℕ) → IsHeader n b → IsCleared (of_number n b) → IsEncodingOf (fields_of (of_number n b)) b
cleared_is_encoding n b h = grind (arith, by_number, header_number)

pub encoding_is : (n : ℕ) (x : HeaderFields) (h : ExtHeader) (b : List ℕ) → IsEncoded n x h → IsEncodingOf x b → h.bytes ≡ b
encoding_is n x h b e = search (rules, one_encoded, cleared_is_encoding)

pub one_header_says : (h g : ExtHeader) → h.number ≡ g.number → IsHeader h.number h.bytes → IsHeader g.number g.bytes → IsCleared h → IsCleared g → fields_of h ≡ fields_of g → h ≡ g
one_header_says h g e x y p q f = search (rules, one_encoded, cleared_is_encoding)

pub same_fragment : (x y : FragmentFields) → fragment_header x ≡ fragment_header y → x ≡ y
same_fragment x y e = cc

pub same_auth : (x y : AuthFields) → auth_header x ≡ auth_header y → x ≡ y
same_auth x y e = cc

-- Fields within their ranges have an encoding in bytes.
abbrev raw_written : RawFields → List ℕ
raw_written x = x.next_header ∷ ((length x.payload + 2) / 8 - 1) ∷ x.payload

module _ (x : RawFields) (next : x.next_header < 256) (len : IsPayloadLen (length x.payload)) (bytes : AreBytes x.payload) where
  pub raw_encoded : (n : ℕ) → IsRawNumber n → (h : ExtHeader) × IsEncoded n (raw_header x) h
  raw_encoded n k = (of_number n (raw_written x), search rules)

pub fragment_encoded : (x : FragmentFields) → x.next_header < 256 → x.fragment_offset ≤ MAX_FRAGMENT_OFFSET → x.identification < 2 ^ 32 → (h : ExtHeader) × IsEncoded 44 (fragment_header x) h
fragment_encoded x next offset id =
    let e : IsFragmentEncoding x (fragment_written x) =
    search (rules, fragment_encodes, packed_offset, packed_flag, packed_reserved) in search rules

pub auth_encoded : (x : AuthFields) → x.next_header < 256 → IsIcvLen (length x.raw_icv) → AreBytes x.raw_icv → x.spi < 2 ^ 32 → x.sequence_number < 2 ^ 32 → (h : ExtHeader) × IsEncoded 51 (auth_header x) h
auth_encoded x next len icv spi seq =
    let e = auth_written_encodes x len.most len.whole spi seq in
    search (rules, auth_encoding-bytes x (auth_written x) e next icv)
