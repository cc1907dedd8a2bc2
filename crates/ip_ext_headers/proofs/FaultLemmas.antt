-- The error at bytes: none at a header, and one if a request of a header finds too few bytes.
use Rattle.ip_spec.proofs.Common.{common_steps, ◌≡◌, ℕ, ◌+◌, ◌*◌, ◌<◌, List, ◌++◌, length, arith, slice_index, inl, inr, rules, Some, None, cases_lt, lt-ltb, le-ltb, get_or_append_left, IsPrefix, IsRawHeader, IsFragmentHeader, IsAuthHeader, RawAsks, FragmentAsks, fragment_whole, AuthAsks, auth_start, auth_icv, IsZeroLength}
use Rattle.std.proofs.Common.{length-append}
use Rattle.ip_base.specs.LenError.{too_short}
use Rattle.ip_base.specs.declared.err.len_error.LenError.{LenError}
use Rattle.ip_base.specs.declared.err.layer.Layer.TheVariants.{Ipv6ExtHeader, Ipv6FragHeader, IpAuthHeader}
use Rattle.ip_base.specs.declared.len_source.LenSource.{LenSource}
use Rattle.ip_spec.proofs.PrefixLemmas.{prefix-length}
use Rattle.ip_spec.proofs.HeaderLemmas.{prefix_byte}
use Rattle.ip_ext_headers.specs.HeaderFault.{raw_fault, fragment_fault, auth_fault}
use Rattle.ip_base.specs.declared.err.ip_auth.header_error.HeaderError.TheVariants.{ZeroPayloadLen}
use Rattle.ip_ext_headers.specs.declared.err.ip_auth.header_slice_error.HeaderSliceError.TheVariants.{Len, Content}

module _ (source : LenSource) (n k : ℕ) where
  pub raw_at_header : (b s : List ℕ) → IsRawHeader b → IsPrefix b s → raw_fault source n k s ≡ None
  raw_at_header b s h p = grind (arith, common_steps, slice_index, prefix_byte, prefix-length, le-ltb)

  pub fragment_at_header : (b s : List ℕ) → IsFragmentHeader b → IsPrefix b s → fragment_fault source n k s ≡ None
  fragment_at_header b s h p = search rules

  pub auth_at_header : (b s : List ℕ) → IsAuthHeader b → IsPrefix b s → auth_fault source n k s ≡ None
  auth_at_header b s h p = grind (arith, common_steps, prefix_byte b s, prefix-length b s)

  raw_rest_fault : (s : List ℕ) → length s < 8 * (slice_index s 1 + 1) → (e : LenError) × (raw_fault source n k s ≡ Some e)
  raw_rest_fault s few = elim (cases_lt (length s) 8) [
    | inl less ↦ (too_short source n k Ipv6ExtHeader 8, search rules)
    | inr more ↦ (too_short source n k Ipv6ExtHeader (8 * (slice_index s 1 + 1)), search rules)
  ]

  -- A request after the consumed bytes finds too few.
  module _ (done : List ℕ) (count : ℕ) (xs : List ℕ) (few : length xs < count) where
    pub raw_asks_fault : RawAsks done count → (e : LenError) × (raw_fault source n k (done ++ xs) ≡ Some e)
    raw_asks_fault a = search (rules, lt-ltb, length-append, raw_rest_fault, get_or_append_left)

    pub fragment_asks_fault : FragmentAsks done count → (e : LenError) × (fragment_fault source n k (done ++ xs) ≡ Some e)
    fragment_asks_fault a = elim a [ fragment_whole none c ↦ (too_short source n k Ipv6FragHeader 8, search (rules, length-append)) ]

    pub auth_asks_fault : AuthAsks done count → (e : LenError) × (auth_fault source n k (done ++ xs) ≡ Some (Len e))
    auth_asks_fault a = elim a [
      | auth_start none c ↦ (too_short source n k IpAuthHeader 12, search (rules, length-append))
      | auth_icv len z c ↦ (too_short source n k IpAuthHeader (4 * (slice_index (done ++ xs) 1 + 2)), search (rules, slice_index, get_or_append_left, length-append))
    ]

  -- the consumed bytes say that the length is zero
  pub auth_zero_fault : (done xs : List ℕ) → IsZeroLength done → auth_fault source n k (done ++ xs) ≡ Some (Content ZeroPayloadLen)
  auth_zero_fault done xs z = search (rules, slice_index, get_or_append_left, le-ltb, length-append)
