-- Headers with their reserved bits set to zero, and the header with given fields: the bytes to write.
use Rattle.std.specs.Prelude.{◌≡◌, ◌<◌, ◌++◌, ℕ, List, All, map, slice_index, slice_range, slice_set, ◌==◌, if◌then◌else◌}
use Rattle.ip_spec.specs.Numbers.{HOP_BY_HOP, FRAGMENT, AUTHENTICATION}
use Rattle.ip_spec.specs.Header.{IsRawHeader, IsFragmentHeader, IsAuthHeader}
use Rattle.ip_spec.specs.Fields.{RawFields, FragmentFields, AuthFields, raw_fields, fragment_fields, auth_fields, unreserved_bits}
use Rattle.ip_spec.specs.Chain.{ExtHeader}

-- each number is a byte
abbrev pub AreBytes : List ℕ → Type 0
AreBytes b = All (λ x. x < 256) b

-- the offset of the payload or check value of a header of number n, or of the header's end
abbrev pub fixed_len : ℕ → ℕ
fixed_len n = if n == FRAGMENT then 8 else if n == AUTHENTICATION then 12 else 2

-- A header of number n with its reserved bits set to zero: in a fragment header (RFC 8200, section 4.5) byte 1 and
-- bits of byte 3 are reserved, in an authentication header (RFC 4302, section 2.3) bytes 2 and 3, in others none. The
-- next header and the length are unchanged.
abbrev pub cleared_header : ℕ → List ℕ → List ℕ
cleared_header n b =
    if n == FRAGMENT then slice_set (slice_set b 1 0) 3 (unreserved_bits (slice_index b 3))
    else if n == AUTHENTICATION then slice_set (slice_set b 2 0) 3 0
    else b

-- the reserved bits of h are zero, and the numbers between byte 0 and its payload are bytes
pub record IsCleared (h : ExtHeader) : Type 0 where
  pub reserved : cleared_header h.number h.bytes ≡ h.bytes
  pub bytes : AreBytes (slice_range h.bytes 1 (fixed_len h.number))

-- each header with its reserved bits set to zero; the links and lengths are unchanged
abbrev pub cleared_chain : List ExtHeader → List ExtHeader
cleared_chain c = map (λ h. record { number = h.number; bytes = cleared_header h.number h.bytes }) c

-- Bytes b are a header whose fields are v, and its reserved bits as one of number n are zero.
pub record IsEncoding {V : Type 0} (IsOne : List ℕ → Type 0) (fields_of : List ℕ → V) (n : ℕ) (v : V) (b : List ℕ) : Type 0 where
  pub header : IsOne b
  pub fields : fields_of b ≡ v
  pub cleared : IsCleared (record { number = n; bytes = b })

-- in the uniform format (RFC 6564), in which nothing is reserved: hop-by-hop options and the others
abbrev pub IsRawEncoding : RawFields → List ℕ → Type 0
IsRawEncoding v b = IsEncoding IsRawHeader raw_fields HOP_BY_HOP v b

abbrev pub IsFragmentEncoding : FragmentFields → List ℕ → Type 0
IsFragmentEncoding v b = IsEncoding IsFragmentHeader fragment_fields FRAGMENT v b

abbrev pub IsAuthEncoding : AuthFields → List ℕ → Type 0
IsAuthEncoding v b = IsEncoding IsAuthHeader auth_fields AUTHENTICATION v b

-- new is old followed by bytes with the property P
abbrev pub AppendsOne : (List ℕ → Type 0) → List ℕ → List ℕ → Type 0
AppendsOne P old new = (b : List ℕ) × P b × (new ≡ old ++ b)
