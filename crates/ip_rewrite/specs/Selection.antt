-- The headers that are selected, by the index in the chain or by the number.
use Rattle.std.specs.Prelude.{ℕ, ◌+◌, Bool, false, List, [], ◌∷◌, ◌==◌, ◌||◌, ◌&&◌, if◌then◌else◌}
use Rattle.ip_spec.specs.Chain.{ExtHeader}
use Rattle.ip_dissect.specs.Fragment.{fragments}
use Rattle.ip_spec.specs.Numbers.{HOP_BY_HOP, ROUTING, FRAGMENT, AUTHENTICATION, DESTINATION_OPTIONS}
use Rattle.ip_rewrite.specs.declared.which.HeaderSet.{HeaderSet}
use Rattle.ip_rewrite.specs.declared.which.Which.{Which}
use Rattle.ip_rewrite.specs.declared.which.Which.TheVariants.{Index, Number, Headers}

-- the headers of the number n are in the set
abbrev pub has_number : HeaderSet → ℕ → Bool
has_number s n =
    (n == HOP_BY_HOP) && s.hop_by_hop || (n == ROUTING) && s.routing || (n == FRAGMENT) && s.fragment || (n == AUTHENTICATION) && s.authentication
    || (n == DESTINATION_OPTIONS) && s.destination_options

-- the header h with the index i is selected
abbrev pub selects : Which → ℕ → ExtHeader → Bool
selects (Index j) i h = i == j
selects (Number n) i h = h.number == n.0
selects (Headers s) i h = has_number s h.number

-- of headers whose first has the index i, those that are not selected
abbrev pub kept_from : Which → ℕ → List ExtHeader → List ExtHeader
kept_from w i [] = []
kept_from w i (h ∷ c) = if selects w i h then kept_from w (i + 1) c else h ∷ kept_from w (i + 1) c

-- some header is selected that passes the test
abbrev pub any_selected : (ExtHeader → Bool) → Which → ℕ → List ExtHeader → Bool
any_selected t w i [] = false
any_selected t w i (h ∷ c) = selects w i h && t h || any_selected t w (i + 1) c

-- some header is selected that follows one that fragments the payload; `after` says that one precedes all of them
abbrev pub selects_fragmented : Which → ℕ → Bool → List ExtHeader → Bool
selects_fragmented w i after [] = false
selects_fragmented w i after (h ∷ c) = after && selects w i h || selects_fragmented w (i + 1) (after || fragments h) c

-- the first header is selected
abbrev pub selects_first : Which → List ExtHeader → Bool
selects_first w [] = false
selects_first w (h ∷ c) = selects w 0 h

-- the headers that are not selected
abbrev pub kept : Which → List ExtHeader → List ExtHeader
kept w c = kept_from w 0 c
