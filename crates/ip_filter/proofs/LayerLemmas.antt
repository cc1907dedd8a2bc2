-- Which layers a header of a packet can be in that is truncated or faulty.
use Rattle.std.specs.Option.{unwrap_or}
use Rattle.ip_spec.proofs.Common.{◌≡◌, ℕ, ◌+◌, ◌-◌, ◌*◌, List, length, take, slice_index, refl, arith, common_steps, inl, inr, Bool, true, false, not, nat_lt, ◌==◌, ◌&&◌, if◌then◌else◌, cases_Bool, Option, None, Some, option_map, option_map_or, rest_after, leads_to, is_empty, bytes_of, AUTHENTICATION}
use Rattle.ip_base.specs.Ipv4Header.{version, ipv4_header_len, protocol, ipv4_fragment_offset}
use Rattle.ip_base.specs.Ipv6Header.{ipv6_next_header}
use Rattle.ip_base.specs.declared.len_source.LenSource.{LenSource}
use Rattle.ip_base.specs.declared.len_source.LenSource.TheVariants.{Slice, Ipv4HeaderTotalLen, Ipv6HeaderPayloadLen}
use Rattle.ip_base.specs.declared.err.layer.Layer.{Layer}
use Rattle.ip_base.specs.declared.err.layer.Layer.TheVariants as layer
use Rattle.ip_base.specs.declared.err.len_error.LenError.{LenError}
use Rattle.ip_base.specs.declared.err.ipv6_exts.header_error.HeaderError.TheVariants.{HopByHopNotAtStart}
use Rattle.ip_ext_headers.specs.HeaderFault.{raw_fault, auth_fault, auth_in_packet}
use Rattle.ip_ext_headers.specs.declared.err.ip_auth.header_slice_error.HeaderSliceError.{HeaderSliceError as AuthError}
use Rattle.ip_ext_headers.specs.declared.err.ip_auth.header_slice_error.HeaderSliceError.TheVariants as auth
use Rattle.ip_ext_slices.specs.declared.err.ipv6_exts.header_slice_error.HeaderSliceError.TheVariants as exts
use Rattle.ip_ext_slices.specs.ChainFault.{auth_at, slice_fault}
use Rattle.ip_codes.specs.Codes.{layer_code}
use Rattle.ip_codes.specs.EndLayer.{error_layer, end_layer}
use Rattle.ip_dissect.specs.Dissection.{DissectedParts, without_base, dissected}
use Rattle.ip_dissect.specs.End.{base_end, len_end, auth_end, exts_end, states_zero, is_too_short, ipv4_end, ipv6_end}
use Rattle.ip_dissect.specs.Extent.{ipv4_stated, ipv6_stated, after_base, ipv4_chain, ipv6_chain}
use Rattle.ip_dissect.specs.LaterDemand.{has_later}
use Rattle.ip_dissect.specs.declared.end.End.{End}
use Rattle.ip_dissect.specs.declared.end.End.TheVariants as end
use Rattle.ip_filter.specs.Truth.{fault_kind, fault_in, is_truncated}
use Rattle.ip_filter.specs.Layers.{can_be_truncated, can_be_too_short, can_be_faulty}
use Rattle.ip_filter.specs.declared.term.FaultKind.{FaultKind}

-- the layer of one kind of header
abbrev is_single : Layer → Bool
is_single l = not (layer_code l == 7)

-- The header at an end can have the error.
abbrev is_possible : End → Bool
is_possible (end.Truncated e header) = can_be_truncated (unwrap_or header e.layer) && is_single (unwrap_or header e.layer)
is_possible (end.Fault e header) = can_be_faulty (fault_kind e) (unwrap_or header (error_layer e)) && is_single (unwrap_or header (error_layer e))
is_possible e = true

-- too few bytes for a header
by_len : (t : Option ℕ) (field : LenSource) (e : LenError) (h : Option Layer) (l : Layer) → unwrap_or h e.layer ≡ l
    → (can_be_truncated l && is_single l) ≡ true → (can_be_too_short l && is_single l) ≡ true → is_possible (len_end t field e h) ≡ true
by_len None field e h l is truncated short = rw is truncated
by_len (Some t) field e h l is truncated short = elim (cases_Bool (nat_lt (t - e.layer_start_offset) e.required_len)) [
  | inl less ↦ rw (less, is) short
  | inr enough ↦ rw (enough, is) truncated
]

-- the errors of IPv6 extension headers, of which q are here
module _ (t : Option ℕ) (q : List ℕ) where
  by_option : (l : Layer) (o : Option LenError) → states_zero l q ≡ false → (can_be_truncated l && is_single l) ≡ true → (can_be_too_short l && is_single l) ≡ true
      → is_possible (option_map_or (exts_end t q) (option_map (λ e. (exts.Len e, l)) o) end.Payload) ≡ true
  by_option l None other truncated short = refl
  by_option l (Some e) other truncated short = rw other (by_len t Ipv6HeaderPayloadLen _ (Some l) l refl truncated short)

  by_auth : (o : Option AuthError) → is_possible (option_map_or (exts_end t q) (option_map auth_at o) end.Payload) ≡ true
  by_auth None = refl
  by_auth (Some (auth.Len e)) = elim (cases_Bool (states_zero layer.IpAuthHeader q)) [
    | inl zero ↦ rw zero refl
    | inr other ↦ rw other (by_len t Ipv6HeaderPayloadLen _ (Some layer.IpAuthHeader) layer.IpAuthHeader refl refl refl)
  ]
  by_auth (Some (auth.Content e)) = refl

  by_options : (first : Bool) (o : Option LenError)
      → is_possible (option_map_or (exts_end t q) (if first then option_map (λ e. (exts.Len e, layer.Ipv6HopByHopHeader)) o else Some (exts.Content HopByHopNotAtStart, layer.Ipv6HopByHopHeader)) end.Payload) ≡ true
  by_options true o = by_option layer.Ipv6HopByHopHeader o refl refl refl
  by_options false o = refl

  by_slice : (k : ℕ) (first : Bool) (m : ℕ) (r : List ℕ) → is_possible (option_map_or (exts_end t q) (slice_fault k first m r) end.Payload) ≡ true
  by_slice k first m r = elim (cases_Bool (m == 0)) [
    | inl is ↦ rw is (by_options first (raw_fault Slice (length r) k r))
    | inr other ↦ rw other (elim (cases_Bool (m == 43)) [
      | inl is ↦ rw is (by_option layer.Ipv6RouteHeader _ refl refl refl)
      | inr more ↦ rw more (elim (cases_Bool (m == 60)) [
        | inl is ↦ rw is (by_option layer.Ipv6DestOptionsHeader _ refl refl refl)
        | inr last ↦ rw last (elim (cases_Bool (m == 44)) [
          | inl is ↦ rw is (by_option layer.Ipv6FragHeader _ refl refl refl)
          | inr still ↦ rw still (elim (cases_Bool (m == 51)) [
            | inl is ↦ rw is (by_auth _)
            | inr none ↦ rw none refl
          ])
        ])
      ])
    ])
  ]

  -- those of the IPv4 authentication header
  too_few : (e : LenError) → e.layer ≡ layer.IpAuthHeader → is_possible (auth_end t q (auth.Len e)) ≡ true
  too_few e is = elim (cases_Bool (states_zero layer.IpAuthHeader q)) [
    | inl zero ↦ rw zero refl
    | inr other ↦ rw other (by_len t Ipv4HeaderTotalLen _ None layer.IpAuthHeader is refl refl)
  ]

  by_ipv4_auth : (k n : ℕ) (r : List ℕ) → is_possible (option_map_or (auth_end t q) (option_map (auth_in_packet Slice k) (auth_fault Slice n 0 r)) end.Payload) ≡ true
  by_ipv4_auth k n r = elim (cases_Bool (nat_lt (length r) 12)) [
    | inl few ↦ rw few (too_few _ refl)
    | inr some ↦ rw some (elim (cases_Bool (slice_index r 1 == 0)) [
      | inl zero ↦ rw zero refl
      | inr other ↦ rw other (elim (cases_Bool (nat_lt (length r) (4 * (slice_index r 1 + 2)))) [
        | inl few ↦ rw few (too_few _ refl)
        | inr whole ↦ rw whole refl
      ])
    ])
  ]

  by_ipv4 : (asked : Bool) (k n : ℕ) (r : List ℕ) → is_possible (option_map_or (auth_end t q) (option_map (auth_in_packet Slice k) (if asked then auth_fault Slice n 0 r else None)) end.Payload) ≡ true
  by_ipv4 true k n r = by_ipv4_auth k n r
  by_ipv4 false k n r = refl

ipv4_possible : (b s : List ℕ) → is_possible (ipv4_end b s) ≡ true
ipv4_possible b s = elim (cases_Bool (is_too_short b)) [
  | inl short ↦ rw short refl
  | inr enough ↦ rw enough (elim (cases_Bool (not (ipv4_fragment_offset b == 0))) [
    | inl later ↦ rw later refl
    | inr first ↦ rw first (
        by_ipv4 (ipv4_stated b) (after_base b (ipv4_stated b) s) (is_empty (ipv4_chain b s) && (leads_to (protocol b) (ipv4_chain b s) == AUTHENTICATION)) (length b)
        (length (rest_after (ipv4_chain b s) (after_base b (ipv4_stated b) s))) (rest_after (ipv4_chain b s) (after_base b (ipv4_stated b) s))
        )
  ])
]

ipv6_possible : (b s : List ℕ) → is_possible (ipv6_end b s) ≡ true
ipv6_possible b s = elim (cases_Bool (has_later (ipv6_chain b s))) [
  | inl later ↦ rw later refl
  | inr none ↦ rw none (
      by_slice (ipv6_stated b) (rest_after (ipv6_chain b s) (after_base b (ipv6_stated b) s)) (40 + length (bytes_of (ipv6_chain b s))) (is_empty (ipv6_chain b s)) (leads_to (ipv6_next_header b) (ipv6_chain b s))
      (rest_after (ipv6_chain b s) (after_base b (ipv6_stated b) s))
      )
]

base_possible : (s : List ℕ) → option_map_or is_possible (base_end s) true ≡ true
base_possible s = grind (arith, common_steps)

picked : (s : List ℕ) (o : Option End) (v : ℕ) (x y : DissectedParts) → option_map_or is_possible o true ≡ true → is_possible x.end ≡ true → is_possible y.end ≡ true
    → is_possible (option_map_or (without_base s) o (if v == 4 then x else y)).end ≡ true
picked s (Some e) v x y base ipv4 ipv6 = base
picked s None v x y base ipv4 ipv6 = elim (cases_Bool (v == 4)) [
  | inl four ↦ rw four ipv4
  | inr six ↦ rw six ipv6
]

end_possible : (s : List ℕ) → is_possible (dissected s).end ≡ true
unfolding dissected
end_possible s = picked s (base_end s) (version s) _ _ (base_possible s) (ipv4_possible (take (ipv4_header_len s) s) s) (ipv6_possible (take 40 s) s)

truncated_of : (e : End) (l : Layer) → is_possible e ≡ true → is_truncated e ≡ true → end_layer e ≡ Some l → can_be_truncated l ≡ true
truncated_of end.Payload l possible truncated is = cc
truncated_of end.LaterFragment l possible truncated is = cc
truncated_of (end.Fault e h) l possible truncated is = cc
truncated_of (end.Truncated e h) l possible truncated is = grind (arith, common_steps)

faulty_of : (e : End) (k : FaultKind) (l : Layer) → is_possible e ≡ true → fault_in e ≡ Some k → end_layer e ≡ Some l → can_be_faulty k l ≡ true
faulty_of end.Payload k l possible faulty is = cc
faulty_of end.LaterFragment k l possible faulty is = cc
faulty_of (end.Truncated e h) k l possible faulty is = cc
faulty_of (end.Fault e h) k l possible faulty is = grind (arith, common_steps)

single_of : (e : End) → is_possible e ≡ true → end_layer e ≡ Some layer.Ipv6ExtHeader → ⊥
single_of end.Payload possible is = cc
single_of end.LaterFragment possible is = cc
single_of (end.Truncated e h) possible is = grind (arith, common_steps)
single_of (end.Fault e h) possible is = grind (arith, common_steps)

pub truncated_layer : (s : List ℕ) (l : Layer) → is_truncated (dissected s).end ≡ true → end_layer (dissected s).end ≡ Some l → can_be_truncated l ≡ true
truncated_layer s l truncated is = truncated_of (dissected s).end l (end_possible s) truncated is

pub faulty_layer : (s : List ℕ) (k : FaultKind) (l : Layer) → fault_in (dissected s).end ≡ Some k → end_layer (dissected s).end ≡ Some l → can_be_faulty k l ≡ true
faulty_layer s k l faulty is = faulty_of (dissected s).end k l (end_possible s) faulty is

pub single_layer : (s : List ℕ) → end_layer (dissected s).end ≡ Some layer.Ipv6ExtHeader → ⊥
single_layer s is = single_of (dissected s).end (end_possible s) is
