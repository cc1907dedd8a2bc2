-- Values whose headers can all be written, and their length in bytes.
use Rattle.std.specs.Prelude.{◌≡◌, ℕ, IsSome, sum_by}
use Rattle.std.specs.Option.{ForSome, option_map_or}
use Rattle.ip_spec.specs.Header.{IsHeader}
use Rattle.ip_spec.specs.Fields.{raw_len, auth_len}
use Rattle.ip_spec.specs.Encoding.{AreBytes, IsCleared}
use Rattle.ip_spec.specs.Chain.{ExtHeader}
use Rattle.ip_spec.specs.Places.{Place, routing, final_destination, places, number_in, HeaderFields, raw_header, fragment_header, auth_header, fields_of}
use Rattle.ip_spec.specs.Walk.{PlacedFields}

-- h is the header of number n with fields x, with its reserved bits zero. `cleared` makes it the only one.
pub record IsEncoded (n : ℕ) (x : HeaderFields) (h : ExtHeader) : Type 0 where
  pub number : h.number ≡ n
  pub header : IsHeader n h.bytes
  pub fields : fields_of h ≡ x
  pub cleared : IsCleared h
  pub bytes : AreBytes h.bytes

-- each place has the fields of some header of that place, and final destination options only come with a routing
-- header
pub record IsEncodable (v : PlacedFields) : Type 0 where
  pub encoded : (p : Place) → ForSome (v p) (λ x. (h : ExtHeader) × IsEncoded (number_in p) x h)
  pub nested : IsSome (v final_destination) → IsSome (v routing)

-- the length in bytes of a header with these fields
abbrev pub fields_len : HeaderFields → ℕ
fields_len (raw_header x) = raw_len x
fields_len (fragment_header x) = 8
fields_len (auth_header x) = auth_len x

-- the length of the headers of all places
abbrev pub placed_len : PlacedFields → ℕ
placed_len v = sum_by (λ p. option_map_or fields_len (v p) 0) places
