-- The error at a number: none if a header follows, and one if a request of a header finds too few bytes.
use Rattle.ip_spec.proofs.Common.{◌≡◌, ℕ, ◌<◌, List, ◌++◌, length, refl, ap, ◌∙◌, inl, inr, Bool, rules, Some, IsTrue, option_map, IsRawNumber, Asks, asks_raw, asks_fragment, asks_auth, IsZeroLength, IsEnd}
use Rattle.ip_base.specs.declared.err.layer.Layer.{Layer}
use Rattle.ip_base.specs.declared.err.layer.Layer.TheVariants.{Ipv6HopByHopHeader, Ipv6DestOptionsHeader, Ipv6RouteHeader, Ipv6FragHeader, IpAuthHeader}
use Rattle.ip_base.specs.declared.err.len_error.LenError.{LenError}
use Rattle.ip_base.specs.declared.len_source.LenSource.{LenSource}
use Rattle.ip_ext_headers.specs.HeaderFault.{raw_fault, fragment_fault, auth_fault}
use Rattle.ip_base.specs.declared.err.ip_auth.header_error.HeaderError.TheVariants.{ZeroPayloadLen}
use Rattle.ip_ext_headers.proofs.FaultLemmas.{raw_at_header, fragment_at_header, auth_at_header, raw_asks_fault, fragment_asks_fault, auth_asks_fault, auth_zero_fault}
use Rattle.ip_ext_slices.specs.ChainFault.{Fault, auth_at, fault_at}
use Rattle.ip_base.specs.declared.err.ipv6_exts.header_error.HeaderError.TheVariants.{IpAuth}
use Rattle.ip_ext_slices.specs.declared.err.ipv6_exts.header_slice_error.HeaderSliceError.TheVariants.{Len, Content}

module _ (source : LenSource) (n k : ℕ) (x : List ℕ) where
  -- the error at a number is that of its header format
  fault_raw : (first : Bool) (m : ℕ) → IsRawNumber m → (m ≡ 0 → IsTrue first) → (l : Layer) × (fault_at source n k first m x ≡ option_map (λ e. (Len e, l)) (raw_fault source n k x))
  fault_raw first m is zero_first = elim is [
    | inl e ↦ (Ipv6HopByHopHeader, search (rules, zero_first))
    | inr is' ↦ elim is' [ inl e ↦ (Ipv6RouteHeader, rw e refl) | inr e ↦ (Ipv6DestOptionsHeader, rw e refl) ]
  ]

  fault_fragment : (first : Bool) (m : ℕ) → m ≡ 44 → fault_at source n k first m x ≡ option_map (λ e. (Len e, Ipv6FragHeader)) (fragment_fault source n k x)
  fault_fragment first m e = search rules

  fault_auth : (first : Bool) (m : ℕ) → m ≡ 51 → fault_at source n k first m x ≡ option_map auth_at (auth_fault source n k x)
  fault_auth first m e = search rules

  -- so if there is an error, no header follows
  pub fault_ends : (first : Bool) (m : ℕ) (f : Fault) → fault_at source n k first m x ≡ Some f → IsEnd first m x
  fault_ends first m f e h y = search (rules, raw_at_header, fragment_at_header, auth_at_header)

module _ (source : LenSource) (n k : ℕ) (first : Bool) (m : ℕ) where
  -- a request after the consumed bytes finds too few
  pub asks_fault : (done : List ℕ) (count : ℕ) (xs : List ℕ) → length xs < count → (m ≡ 0 → IsTrue first) → Asks m done count
      → (e : LenError) × (l : Layer) × (fault_at source n k first m (done ++ xs) ≡ Some (Len e, l))
  asks_fault done count xs few zero_first a = elim a [
    | asks_raw is r ↦
        let f = fault_raw source n k (done ++ xs) first m is zero_first in
        let g = raw_asks_fault source n k done count xs few r in
        (g.0, f.0, f.1 ∙ ap (option_map (λ e. (Len e, f.0))) g.1)
    | asks_fragment e r ↦
        let g = fragment_asks_fault source n k done count xs few r in
        (g.0, Ipv6FragHeader, fault_fragment source n k (done ++ xs) first m e ∙ ap (option_map (λ e. (Len e, Ipv6FragHeader))) g.1)
    | asks_auth e r ↦
        let g = auth_asks_fault source n k done count xs few r in
        (g.0, IpAuthHeader, fault_auth source n k (done ++ xs) first m e ∙ ap (option_map auth_at) g.1)
  ]

  -- the length of an authentication header is zero
  pub zero_fault : (done xs : List ℕ) → m ≡ 51 → IsZeroLength done → fault_at source n k first m (done ++ xs) ≡ Some (Content (IpAuth ZeroPayloadLen), IpAuthHeader)
  zero_fault done xs e z = search (rules, fault_auth, auth_zero_fault)
