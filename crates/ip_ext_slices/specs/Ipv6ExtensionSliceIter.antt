-- The state of an iterator over a chain.
use Rattle.std.specs.Prelude.{ℕ, List, Bool, ◌==◌, ◌&&◌, nat_eq}
use Rattle.std.specs.Cmp.Lexicographic.{pointwise}
use Rattle.ip_spec.specs.Chain.{ExtHeader}
use Rattle.ip_ext_slices.specs.Longest.{longest_chain}
use Rattle.ip_ext_slices.specs.declared.ipv6_ext_slice_iter.Ipv6ExtensionSliceIter.{Ipv6ExtensionSliceIter}

-- the number of the next header
abbrev pub number_left : Ipv6ExtensionSliceIter → ℕ
number_left it = it.next_header.0

-- the bytes of the remaining headers
abbrev pub bytes_left : Ipv6ExtensionSliceIter → List ℕ
bytes_left it = it.rest.now

-- the remaining headers: the longest chain at the start of these bytes, which is all of them
abbrev pub headers_left : Ipv6ExtensionSliceIter → List ExtHeader
headers_left it = longest_chain it.next_header.0 it.rest.now

-- two have the same number and bytes left
abbrev pub same_left : Ipv6ExtensionSliceIter → Ipv6ExtensionSliceIter → Bool
same_left a b = (number_left a == number_left b) && pointwise nat_eq (bytes_left a) (bytes_left b)
