-- The headers of an IPv6 fragment (RFC 8200, section 4.5): those before its fragment header, and those after it.
use Rattle.std.specs.Prelude.{ℕ, ◌+◌, ◌-◌, List, [], ◌∷◌, length, take, if◌then◌else◌}
use Rattle.ip_spec.specs.Chain.{ExtHeader, bytes_of, is_empty}
use Rattle.ip_dissect.specs.Fragment.{fragments}

-- the headers before the first one that fragments the payload
abbrev pub before_fragment : List ExtHeader → List ExtHeader
before_fragment [] = []
before_fragment (h ∷ c) = if fragments h then [] else h ∷ before_fragment c

-- those after it
abbrev pub after_fragment : List ExtHeader → List ExtHeader
after_fragment [] = []
after_fragment (h ∷ c) = if fragments h then c else after_fragment c

-- The offset of the next header field that has the number of what follows these headers, of which the first is at the
-- offset k: of the last header's first byte, or of byte 6, in the base header, if there are none.
abbrev pub link_after : ℕ → List ExtHeader → ℕ
link_after k c = if is_empty c then 6 else k + length (bytes_of (take (length c - 1) c))
