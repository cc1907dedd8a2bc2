-- The error at the end of a chain of IPv4 extension headers.
use Rattle.std.specs.Prelude.{ℕ, List, length, Option, None, ◌==◌, ◌&&◌, if◌then◌else◌}
use Rattle.ip_base.specs.declared.len_source.LenSource.{LenSource}
use Rattle.ip_base.specs.declared.len_source.LenSource.TheVariants.{Slice}
use Rattle.ip_ext_headers.specs.declared.err.ip_auth.header_slice_error.HeaderSliceError.{HeaderSliceError}
use Rattle.ip_ext_headers.specs.HeaderFault.{auth_fault}
use Rattle.ip_spec.specs.Numbers.{AUTHENTICATION}
use Rattle.ip_spec.specs.Chain.{ExtHeader, is_empty}
use Rattle.ip_spec.specs.Parse.{fault_after}
use Rattle.ip_ext_slices.specs.Ipv4Longest.{longest_ipv4_chain}

-- The error after the chain c, at number m with r left; the source says how many bytes are left. None after a header,
-- even if m is its number again.
abbrev pub ipv4_faults : LenSource → List ExtHeader → ℕ → List ℕ → Option HeaderSliceError
ipv4_faults source c m r = if is_empty c && (m == AUTHENTICATION) then auth_fault source (length r) 0 r else None

-- the error at the end of the longest chain from n at the start of s
abbrev pub ipv4_chain_fault : ℕ → List ℕ → Option HeaderSliceError
ipv4_chain_fault n s = fault_after (ipv4_faults Slice) (longest_ipv4_chain n s) n s
