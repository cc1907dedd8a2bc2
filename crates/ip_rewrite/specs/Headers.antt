-- Extension headers linked to a new chain (RFC 8200, section 4).
use Rattle.std.specs.Prelude.{ℕ, Bool, ◌==◌, List, [], ◌∷◌, slice_set}
use Rattle.ip_spec.specs.Numbers.{HOP_BY_HOP}
use Rattle.ip_spec.specs.Chain.{ExtHeader}

-- the number of the first of some headers, or m if there are none
abbrev pub number_of_first : List ExtHeader → ℕ → ℕ
number_of_first [] m = m
number_of_first (h ∷ c) m = h.number

-- the header with another next header
abbrev pub leading_to : ℕ → ExtHeader → ExtHeader
leading_to m h = record { number = h.number; bytes = slice_set h.bytes 0 m }

-- the headers, each of which leads to the one after it, and the last to m
abbrev pub linked_headers : ℕ → List ExtHeader → List ExtHeader
linked_headers m [] = []
linked_headers m (h ∷ c) = leading_to (number_of_first c m) h ∷ linked_headers m c

-- a header with hop-by-hop options
abbrev pub is_options : ExtHeader → Bool
is_options h = h.number == HOP_BY_HOP
