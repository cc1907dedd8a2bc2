-- Why fragments are refused (RFC 791, section 3.2; RFC 5722; RFC 8200, section 4.5).
use Rattle.std.specs.Prelude.{ℕ, nat_lt, Bool, true, false, List, Option, None, Some, if◌then◌else◌}
use Rattle.std.specs.List.{list_any}
use Rattle.ip_reassembly.specs.Fragment.{Fragment, end_of, is_same, overlaps, has_two_ends, is_unaligned}
use Rattle.ip_reassembly.specs.declared.err.AddError.{AddError}
use Rattle.ip_reassembly.specs.declared.err.AddError.TheVariants.{Unaligned, TooLong, Overlap, TwoEnds, Abandoned}

-- why a fragment is refused after these, where a payload has at most so many bytes
unfoldable pub refusal : ℕ → List Fragment → Fragment → Option AddError
refusal limit fs f =
    if is_unaligned f then Some Unaligned
    else if nat_lt limit (end_of f) then Some TooLong
    else if list_any (is_same f) fs then None
    else if list_any (overlaps f) fs then Some Overlap
    else if list_any (has_two_ends f) fs then Some TwoEnds
    else None

-- The fragment contradicts one that was accepted.
abbrev pub is_conflict : AddError → Bool
is_conflict Unaligned = false
is_conflict TooLong = false
is_conflict Overlap = true
is_conflict TwoEnds = true
is_conflict Abandoned = false
