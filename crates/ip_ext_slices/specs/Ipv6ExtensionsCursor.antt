-- The number and bytes that a cursor was created with, and its state.
use Rattle.std.specs.Prelude.{◌≡◌, ℕ, List, length, drop, Option, MatchOption, Bool, ◌==◌, ◌&&◌, nat_eq}
use Rattle.std.specs.Cmp.Lexicographic.{pointwise}
use Rattle.std.specs.Iterator.{YieldsFirstBy}
use Rattle.ip_spec.specs.Fields.{next_header}
use Rattle.ip_spec.specs.Chain.{ExtHeader}
use Rattle.ip_ext_slices.specs.Longest.{longest_from}
use Rattle.ip_ext_slices.specs.Ipv6ExtensionSlice.{header_of}
use Rattle.ip_ext_slices.specs.declared.ipv6_ext_slice.Ipv6ExtensionSlice.{Ipv6ExtensionSlice}
use Rattle.ip_ext_slices.specs.declared.ipv6_exts_cursor.Ipv6ExtensionsCursor.{Ipv6ExtensionsCursor}

-- the number and the bytes that it was created with
abbrev pub start : Ipv6ExtensionsCursor → ℕ
start c = c.start.0

abbrev pub input : Ipv6ExtensionsCursor → List ℕ
input c = c.bytes.now

-- the number and the bytes that it has reached
abbrev pub number_left : Ipv6ExtensionsCursor → ℕ
number_left c = c.number.0

abbrev pub bytes_left : Ipv6ExtensionsCursor → List ℕ
bytes_left c = c.rest.now

-- The remaining headers: the longest chain from there. No header precedes if all bytes are left.
abbrev pub headers_left : Ipv6ExtensionsCursor → List ExtHeader
headers_left c = longest_from (length (bytes_left c) == length (input c)) (number_left c) (bytes_left c)

-- two were created with the same number and bytes, and have reached the same
abbrev pub IsSameCursor : Ipv6ExtensionsCursor → Ipv6ExtensionsCursor → Type 0
IsSameCursor a b = (start a ≡ start b) × (input a ≡ input b) × (number_left a ≡ number_left b) × (bytes_left a ≡ bytes_left b)

abbrev pub same_cursor : Ipv6ExtensionsCursor → Ipv6ExtensionsCursor → Bool
same_cursor a b = (start a == start b) && pointwise nat_eq (input a) (input b) && (number_left a == number_left b) && pointwise nat_eq (bytes_left a) (bytes_left b)

-- The cursor returns the next header and moves past it; at the end it stays. The number and bytes that it was created
-- with are unchanged.
abbrev pub GivesHeader : Ipv6ExtensionsCursor → Option Ipv6ExtensionSlice → Ipv6ExtensionsCursor → Type 0
GivesHeader c x d =
    YieldsFirstBy header_of headers_left c x d × (start d ≡ start c) × (input d ≡ input c)
    × MatchOption x ((number_left d ≡ number_left c) × (bytes_left d ≡ bytes_left c))
    (λ h. (number_left d ≡ next_header (header_of h).bytes) × (bytes_left d ≡ drop (length (header_of h).bytes) (bytes_left c)))
