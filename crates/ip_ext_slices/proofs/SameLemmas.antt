-- Slices of extension headers with the same headers have the same first number and the same bytes.
use Rattle.ip_ext_slices.proofs.LongestLemmas.{longest_chain-within, longest_chain-longest}
use Rattle.ip_spec.proofs.Common.{◌≡◌, ℕ, List, [], length, ◌↔◌, IsTrue, Bool, rules, ◌==◌, Option, option_map_or, ExtHeader}
use Rattle.std.proofs.lemmas.List.{nil_from_length}
use Rattle.std.specs.Prelude.{is_none}
use Rattle.ip_base.specs.declared.ip_number_impl.IpNumber.{IpNumber}
use Rattle.ip_ext_slices.specs.Longest.{longest_chain}
use Rattle.ip_ext_slices.specs.Ipv6ExtensionsSlice.{first_header_number, bytes, headers_in}
use Rattle.ip_ext_slices.specs.declared.ipv6_exts_slice.Ipv6ExtensionsSlice.{Ipv6ExtensionsSlice}

-- the longest chain from a first number, if there is one
abbrev headers_from : Option IpNumber → List ℕ → List ExtHeader
headers_from o s = option_map_or (λ n. longest_chain n.0 s) o []

-- without bytes there are no headers, whatever the first number
pub from_start_number : (o : Option IpNumber) (m : ℕ) (s : List ℕ) → is_none o ≡ (length s == 0) → longest_chain (option_map_or (λ n. n.0) o m) s ≡ headers_from o s
from_start_number o m s none = search (rules, nil_from_length, longest_chain-within)

pub same_headers-bytes : (x y : Ipv6ExtensionsSlice) → headers_in x ≡ headers_in y → bytes x ≡ bytes y
same_headers-bytes x y e = cc (x.whole, y.whole)

pub same_headers-first : (x y : Ipv6ExtensionsSlice) → headers_in x ≡ headers_in y → first_header_number x ≡ first_header_number y
same_headers-first x y e = search (rules, same_headers-bytes, longest_chain-longest)

-- a test for equal first numbers and bytes is a test for equal headers
pub same_headers : (x y : Ipv6ExtensionsSlice) (r : Bool) → IsTrue r ↔ ((first_header_number x ≡ first_header_number y) × (bytes x ≡ bytes y)) → IsTrue r ↔ (headers_in x ≡ headers_in y)
same_headers x y r k = search (rules, same_headers-first, same_headers-bytes)
