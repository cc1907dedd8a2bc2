-- Headers linked in the order of their places.
use Rattle.std.specs.Prelude.{ℕ, ◌+◌, List, drop, is_some}
use Rattle.std.specs.List.{find}
use Rattle.std.specs.Option.{option_map, option_map_or}
use Rattle.ip_spec.specs.Places.{Place, places, index, number_in, HeaderFields, raw_header, fragment_header, auth_header}
use Rattle.ip_spec.specs.Walk.{PlacedFields}

-- the fields with another next header
abbrev pub relinked : ℕ → HeaderFields → HeaderFields
relinked m (raw_header x) = raw_header (record x { next_header = m })
relinked m (fragment_header x) = fragment_header (record x { next_header = m })
relinked m (auth_header x) = auth_header (record x { next_header = m })

-- the number of the first of the places in which v has a header, or m if there is none
abbrev pub first_number : PlacedFields → List Place → ℕ → ℕ
first_number v ps m = option_map_or number_in (find (λ p. is_some (v p)) ps) m

-- v with each header leading to the one in the next place that has one, and the last to m
abbrev pub linked : PlacedFields → ℕ → PlacedFields
linked v m p = option_map (relinked (first_number v (drop (index p + 1) places) m)) (v p)
