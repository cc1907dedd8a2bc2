-- A header at the start of bytes, with its fields.
use Rattle.std.specs.Prelude.{◌≡◌, ◌++◌, ℕ, List}
use Rattle.ip_spec.specs.Header.{IsRawHeader, IsFragmentHeader, IsAuthHeader}
use Rattle.ip_spec.specs.Fields.{RawFields, FragmentFields, AuthFields, raw_fields, fragment_fields, auth_fields}

-- Bytes s are a header whose fields are v, followed by the rest r.
pub record IsDecoding {V : Type 0} (IsOne : List ℕ → Type 0) (fields_of : List ℕ → V) (s : List ℕ) (v : V) (r : List ℕ) : Type 0 where
  pub bytes : List ℕ
  pub header : IsOne bytes
  pub fields : fields_of bytes ≡ v
  pub joined : bytes ++ r ≡ s

abbrev pub IsRawDecoding : List ℕ → RawFields → List ℕ → Type 0
IsRawDecoding s v r = IsDecoding IsRawHeader raw_fields s v r

abbrev pub IsFragmentDecoding : List ℕ → FragmentFields → List ℕ → Type 0
IsFragmentDecoding s v r = IsDecoding IsFragmentHeader fragment_fields s v r

abbrev pub IsAuthDecoding : List ℕ → AuthFields → List ℕ → Type 0
IsAuthDecoding s v r = IsDecoding IsAuthHeader auth_fields s v r
