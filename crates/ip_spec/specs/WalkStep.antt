-- One step of a walk along the next header numbers.
use Rattle.std.specs.Prelude.{ℕ, List, Bool, ◌==◌, ◌&&◌, not, Option, None, if◌then◌else◌}
use Rattle.ip_spec.specs.Numbers.{HOP_BY_HOP}
use Rattle.ip_spec.specs.Encoding.{IsRawEncoding, IsFragmentEncoding, IsAuthEncoding}
use Rattle.ip_spec.specs.Places.{Place, next_place, HeaderFields, raw_header, fragment_header, auth_header}

-- the place that a header of number m takes next in a chain, where hop-by-hop options are only `first`
abbrev pub next_in_chain : {X : Type 0} → Bool → (Place → Option X) → ℕ → Option Place
next_in_chain first v m = if (m == HOP_BY_HOP) && not first then None else next_place v m

-- the next header
abbrev pub next_of : HeaderFields → ℕ
next_of (raw_header x) = x.next_header
next_of (fragment_header x) = x.next_header
next_of (auth_header x) = x.next_header

-- bytes b encode the fields
abbrev pub IsEncodingOf : HeaderFields → List ℕ → Type 0
IsEncodingOf (raw_header x) b = IsRawEncoding x b
IsEncodingOf (fragment_header x) b = IsFragmentEncoding x b
IsEncodingOf (auth_header x) b = IsAuthEncoding x b
