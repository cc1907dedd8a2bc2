-- The result of a parse of IPv4 extension headers.
use Rattle.std.specs.Prelude.{ℕ, List, [], ◌∷◌, Option, Some, None}
use Rattle.ip_base.specs.declared.len_source.LenSource.TheVariants.{Slice}
use Rattle.ip_ext_headers.specs.declared.err.ip_auth.header_slice_error.HeaderSliceError.{HeaderSliceError}
use Rattle.ip_spec.specs.Fields.{AuthFields, auth_fields}
use Rattle.ip_spec.specs.Chain.{ExtHeader}
use Rattle.ip_spec.specs.Parse.{IsAnswer}
use Rattle.ip_ext_slices.specs.Ipv4Longest.{longest_ipv4_chain}
use Rattle.ip_ext_slices.specs.Ipv4Fault.{ipv4_faults}

-- the value of a chain: the fields of its header, if any
abbrev pub ipv4_value : List ExtHeader → Option AuthFields
ipv4_value [] = None
ipv4_value (h ∷ c) = Some (auth_fields h.bytes)

-- the result for the longest chain, with a value computed from it: all of its headers, or the fields of its header
abbrev pub IsIpv4Answer : {X : Type 0} → (List ExtHeader → X) → ℕ → List ℕ → X → ℕ → List ℕ → Option HeaderSliceError → Type 0
IsIpv4Answer value n s = IsAnswer value (ipv4_faults Slice) (longest_ipv4_chain n s) n s
