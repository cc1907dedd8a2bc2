-- What is known while a packet is written.
use Rattle.std.specs.Prelude.{◌≡◌, ◌<◌, ◌≤◌, nat_lt, nat_le, ℕ, zero, suc, ◌+◌, Bool, ◌==◌, true, false, ◌||◌, ◌&&◌, not, ◌++◌, List, [], ◌∷◌, length, drop, slice_set, slice_index, Option, Some, None, if◌then◌else◌}
use Rattle.std.specs.List.{list_any, AllByRecursion}
use Rattle.ip_spec.specs.Numbers.{FRAGMENT}
use Rattle.ip_spec.specs.Header.{IsHeader}
use Rattle.ip_spec.specs.Chain.{ExtHeader, bytes_of, leads_to}
use Rattle.ip_dissect.specs.Fragment.{fragments}
use Rattle.ip_dissect.specs.End.{has_error}
use Rattle.ip_dissect.specs.Summary.{is_later_end}
use Rattle.ip_dissect.specs.Dissection.{DissectedParts}
use Rattle.ip_header_contents.specs.Options.{OptionFields}
use Rattle.ip_rewrite.specs.Headers.{number_of_first, linked_headers, is_options}
use Rattle.ip_rewrite.specs.Jumbogram.{is_unstated, is_jumbo_payload, only_jumbo_payload}
use Rattle.ip_rewrite.specs.Selection.{selects, kept, any_selected, selects_fragmented}
use Rattle.ip_rewrite.specs.Without.{is_authentication, has_segments, selects_covered}
use Rattle.ip_rewrite.specs.Insertion.{inserted}
use Rattle.ip_rewrite.specs.Order.{is_routing, rank_of}
use Rattle.ip_rewrite.specs.declared.which.Which.{Which}
use Rattle.ip_rewrite.specs.declared.selection.Selection.{Selection}
use Rattle.ip_rewrite.specs.declared.selection.HeaderFacts.{HeaderFacts}

-- what matters of the header h with the index i
abbrev pub facts_of : Which → ℕ → ExtHeader → HeaderFacts
facts_of w i h = record {
  is_selected = selects w i h;
  fragments = fragments h;
  is_fragment_header = h.number == FRAGMENT;
  authenticates = is_authentication h;
  has_segments = has_segments h;
  len = length h.bytes;
}

-- a selection before the first header
abbrev pub empty_selection : Which → Selection
empty_selection w = record {
  which = w;
  selects = false;
  selects_fragmenting = false;
  selects_fragmented = false;
  selects_covered = false;
  selects_segments = false;
  is_fragmented = false;
  has_authentication = false;
  keeps_authentication = false;
  kept_len = 0;
}

-- a selection after one more header
abbrev pub selection_with : Selection → HeaderFacts → Selection
selection_with v s = record v {
  selects = v.selects || s.is_selected;
  selects_fragmenting = v.selects_fragmenting || s.is_selected && s.fragments;
  selects_fragmented = v.selects_fragmented || v.is_fragmented && s.is_selected;
  selects_covered = v.selects_covered || s.is_selected && (v.has_authentication || not s.is_fragment_header);
  selects_segments = v.selects_segments || s.is_selected && s.has_segments;
  is_fragmented = v.is_fragmented || s.fragments;
  has_authentication = v.has_authentication || s.authenticates;
  keeps_authentication = v.keeps_authentication || not s.is_selected && s.authenticates;
  kept_len = if s.is_selected then v.kept_len else v.kept_len + s.len;
}

-- after all headers of a chain
abbrev pub selection_after : Selection → List ExtHeader → Selection
selection_after v c = record v {
  selects = v.selects || any_selected (λ h. true) v.which 0 c;
  selects_fragmenting = v.selects_fragmenting || any_selected fragments v.which 0 c;
  selects_fragmented = v.selects_fragmented || selects_fragmented v.which 0 v.is_fragmented c;
  selects_covered = v.selects_covered || selects_covered v.which 0 v.has_authentication c;
  selects_segments = v.selects_segments || any_selected has_segments v.which 0 c;
  is_fragmented = v.is_fragmented || list_any fragments c;
  has_authentication = v.has_authentication || list_any is_authentication c;
  keeps_authentication = v.keeps_authentication || list_any is_authentication (kept v.which c);
  kept_len = v.kept_len + length (bytes_of (kept v.which c));
}

-- the headers c, with h at its place if that is before the last of them
abbrev pub inserted_so_far : ℕ → ExtHeader → List ExtHeader → List ExtHeader
inserted_so_far i h c = if nat_lt i (length c) then inserted i h c else c

-- the index of the last routing header, or 0 without one
abbrev pub routing_index : List ExtHeader → ℕ
routing_index [] = 0
routing_index (h ∷ c) = if list_any is_routing c then routing_index c + 1 else 0

-- the rank of the header h with the index i, if the last routing header has the index e
abbrev pub rank_at : ℕ → ℕ → ExtHeader → ℕ
rank_at e i h = rank_of h.number (nat_lt i e)

-- of headers whose first has the index i, those of the rank k
abbrev pub of_rank_from : ℕ → ℕ → ℕ → List ExtHeader → List ExtHeader
of_rank_from k e i [] = []
of_rank_from k e i (h ∷ c) = if rank_at e i h == k then h ∷ of_rank_from k e (i + 1) c else of_rank_from k e (i + 1) c

-- the headers of the ranks below k
abbrev pub below_rank : ℕ → ℕ → List ExtHeader → List ExtHeader
below_rank zero e c = []
below_rank (suc k) e c = below_rank k e c ++ of_rank_from k e 0 c

-- the rank of the last header, or k without one
abbrev pub last_rank : ℕ → ℕ → ℕ → List ExtHeader → ℕ
last_rank k e i [] = k
last_rank k e i (h ∷ c) = last_rank (rank_at e i h) e (i + 1) c

-- the ranks after k never fall
abbrev pub rises_at : ℕ → ℕ → ℕ → List ExtHeader → Bool
rises_at k e i [] = true
rises_at k e i (h ∷ c) = nat_le k (rank_at e i h) && rises_at (rank_at e i h) e (i + 1) c

-- the index of the first header of a rank above k
abbrev pub first_above : ℕ → ℕ → ℕ → List ExtHeader → Option ℕ
first_above k e i [] = None
first_above k e i (h ∷ c) = if nat_lt k (rank_at e i h) then Some i else first_above k e (i + 1) c

-- The base header b, in which the number of what follows is at the offset l, and the headers c after it, each of which leads
-- to the next one, and the last to m.
abbrev pub front_with : ℕ → List ℕ → List ExtHeader → ℕ → List ℕ
front_with l b c m = slice_set b l (number_of_first c m) ++ bytes_of (linked_headers m c)

-- the offset of the number of what follows them
abbrev pub link_of : ℕ → List ℕ → List ExtHeader → ℕ
link_of l b [] = l
link_of l b (h ∷ c) = length b + link_of 0 h.bytes c

-- These headers, of which the last leads to what it led to, are written at the front of the buffer `old`.
pub record AreWritten (l : ℕ) (b : List ℕ) (old : List ℕ) (c : List ExtHeader) (new : List ℕ) (size field : ℕ) : Type 0 where
  pub at : l < length b
  pub headers : AllByRecursion (λ h. IsHeader h.number h.bytes) c
  pub bytes : new ≡ front_with l b c (leads_to (slice_index b l) c) ++ drop (length b + length (bytes_of c)) old
  pub len : size ≡ length b + length (bytes_of c)
  pub link : field ≡ link_of l b c

-- The first of the headers c, whose length is `len`, is selected, and no other.
pub record SelectsFirst (w : Which) (c : List ExtHeader) (len : ℕ) : Type 0 where
  pub first : ExtHeader
  pub others : List ExtHeader
  pub all : c ≡ first ∷ others
  pub selected : selects w 0 first ≡ true
  pub alone : any_selected (λ h. true) w 1 others ≡ false
  pub kept : kept w c ≡ others
  pub size : len ≡ length first.bytes

-- The option at this offset is within the first of the headers c, which has hop-by-hop options.
abbrev pub HasOption : Option ℕ → List ExtHeader → Type 0
HasOption None c = Unit {0}
HasOption (Some k) [] = ⊥
HasOption (Some k) (h ∷ c) = (is_options h ≡ true) × (2 ≤ k) × (k + 6 ≤ length h.bytes)

-- of options of which the first has the offset k, the offset of the only jumbo payload option, if one with this offset precedes
-- them
abbrev pub found_or : Option ℕ → ℕ → List OptionFields → Option ℕ
found_or None k xs = only_jumbo_payload k xs
found_or (Some j) k xs = if list_any is_jumbo_payload xs then None else Some j

-- the length of the first of the headers c, or n without one, and whether it is a routing header with segments left
abbrev pub first_len : ℕ → List ExtHeader → ℕ
first_len n [] = n
first_len n (h ∷ c) = length h.bytes

abbrev pub first_segments : Bool → List ExtHeader → Bool
first_segments b [] = b
first_segments b (h ∷ c) = has_segments h

-- the header h with the index i is selected, or for the first one: it isn't
abbrev pub is_otherwise : Which → ℕ → ExtHeader → Bool
is_otherwise w i h = if i == 0 then not (selects w i h) else selects w i h

-- some header is, of headers whose first has the index i
abbrev pub selects_otherwise : Which → ℕ → List ExtHeader → Bool
selects_otherwise w i [] = false
selects_otherwise w i (h ∷ c) = is_otherwise w i h || selects_otherwise w (i + 1) c

-- a header that restricts changes: a fragment or authentication header
abbrev pub restricts : ExtHeader → Bool
restricts h = (h.number == FRAGMENT) || is_authentication h

-- an IPv6 packet that is whole and states its length, and is no later fragment
abbrev pub is_unrestricted : DissectedParts → Bool
is_unrestricted p = (p.version == 6) && ((not (has_error p.end) && (p.missing == 0)) && not (is_later_end p.end)) && not (is_unstated p)
