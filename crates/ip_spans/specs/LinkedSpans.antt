-- Headers linked to one another in the order of an array.
use Rattle.std.specs.Prelude.{ℕ, List, [], ◌∷◌}
use Rattle.ip_spans.specs.declared.header_span.HeaderSpan.{HeaderSpan}

-- the number of the first, or m if there is none
abbrev pub number_of_first_span : ℕ → List HeaderSpan → ℕ
number_of_first_span m [] = m
number_of_first_span m (x ∷ xs) = x.number

-- each leads to the next, and the last to m
abbrev pub linked_spans : ℕ → List HeaderSpan → List HeaderSpan
linked_spans m [] = []
linked_spans m (x ∷ xs) = record x { next_header = number_of_first_span m xs } ∷ linked_spans m xs
