-- Packets with a header that is truncated or faulty, for each layer.
use Rattle.std.proofs.lemmas.List.Elements.{All-nil, All-cons}
use Rattle.std.specs.List.{list_all}
use Rattle.ip_spec.proofs.Common.{◌≡◌, ℕ, ◌<◌, ◌+◌, List, [], ◌∷◌, ◌++◌, length, refl, ap, ◌∙◌, arith, common_steps, inr, Bool, true, false, false≢true, nat_lt, if◌then◌else◌, ◌==◌, ◌&&◌, Option, Some, option_map_or, ExtHeader, bytes_of, leads_to, is_empty, raw, rest_after}
use Rattle.ip_spec.proofs.HeaderLemmas.{header-least}
use Rattle.ip_spec.proofs.PrefixLemmas.{prefix-length}
use Rattle.ip_spec.proofs.ParsedLemmas.{has_parsed_none, parsed_longest_under}
use Rattle.ip_spec.proofs.UnderLemmas.{one_longest_under, whole_longest_under}
use Rattle.ip_spec.specs.Encoding.{AreBytes}
use Rattle.ip_base.specs.declared.err.layer.Layer.{Layer}
use Rattle.ip_base.specs.declared.err.layer.Layer.TheVariants as layer
use Rattle.ip_ext_slices.specs.ChainFault.{slice_fault}
use Rattle.ip_dissect.specs.LaterDemand.{has_later, NothingAfterLater, nothing_after_later}
use Rattle.ip_dissect.specs.Later.{chain_to_later}
use Rattle.ip_dissect.proofs.LaterLemmas.{chain_to_later-longest}
use Rattle.ip_codes.specs.Codes.{layer_code}
use Rattle.ip_dissect.specs.Dissection.{dissected}
use Rattle.ip_dissect.specs.End.{exts_end}
use Rattle.ip_dissect.specs.declared.end.End.{End}
use Rattle.ip_dissect.specs.declared.end.End.TheVariants.{Payload, LaterFragment}
use Rattle.ip_filter.specs.Layers.{can_be_truncated, can_be_too_short, can_be_faulty}
use Rattle.ip_filter.specs.Truth.{holds, is_truncated, is_in_layer, fault_in, kind_index}
use Rattle.ip_filter.specs.declared.term.FaultKind.{FaultKind}
use Rattle.ip_filter.specs.declared.term.FaultKind.TheVariants as kind
use Rattle.ip_filter.specs.declared.term.Term.{Term}
use Rattle.ip_filter.specs.declared.term.Term.TheVariants.{TruncatedAt, FaultAt}

-- the term holds of some bytes
abbrev HoldsSomewhere : Term → Type 0
HoldsSomewhere t = (s : List ℕ) × AreBytes s × (holds t (dissected s) ≡ true)

small : (s : List ℕ) → list_all (λ x. nat_lt x 256) s ≡ true → AreBytes s
small [] e = All-nil (λ x. x < 256)
small (x ∷ s) e = All-cons (λ x. x < 256) x s (grind (arith, common_steps)) (small s (grind (arith, common_steps)))

-- an IPv6 base header that states the payload length t, below 256, and the next header n
abbrev base6 : ℕ → ℕ → List ℕ
base6 t n =
    96 ∷ 0 ∷ 0 ∷ 0 ∷ 0 ∷ t ∷ n ∷ 64 ∷ 0 ∷ 0 ∷ 0 ∷ 0 ∷ 0 ∷ 0 ∷ 0 ∷ 0 ∷ 0 ∷ 0 ∷ 0 ∷ 0 ∷ 0 ∷ 0 ∷ 0 ∷ 0 ∷ 0 ∷ 0 ∷ 0 ∷ 0 ∷ 0 ∷ 0 ∷ 0 ∷ 0 ∷ 0 ∷ 0 ∷ 0 ∷ 0 ∷ 0 ∷ 0 ∷ 0 ∷ 0 ∷ []

-- no header lies in fewer than 8 bytes
none_within : (n : ℕ) (x : List ℕ) → length x < 8 → chain_to_later n x ≡ []
none_within n x few =
    one_longest_under NothingAfterLater nothing_after_later n x (chain_to_later n x) [] (chain_to_later-longest n x)
    (parsed_longest_under NothingAfterLater nothing_after_later n x [] n x (record { read = has_parsed_none n x; meets = tt })
    (λ h is q. absurd (omega (arith, header-least n h.bytes is.header, prefix-length h.bytes x is.prefix, few))))

-- The end of a packet that states the length t, where the chain c starts the bytes x after the base header, from number n.
abbrev end_of : Option ℕ → ℕ → List ℕ → List ExtHeader → End
end_of t n x c =
    if has_later c then LaterFragment
    else option_map_or (exts_end t (rest_after c x)) (slice_fault (40 + length (bytes_of c)) (is_empty c) (leads_to n c) (rest_after c x)) Payload

-- An IPv6 packet with few bytes x after the base header, in which a term about the end holds.
abbrev truncated_at : Layer → End → Bool
truncated_at l e = is_truncated e && is_in_layer (layer_code l) 6 e

without_rest : (l : Layer) (n : ℕ) → truncated_at l (end_of (Some 56) n [] []) ≡ true → holds (TruncatedAt l) (dissected (base6 16 n)) ≡ true
unfolding dissected
without_rest l n is = ap (λ c. truncated_at l (end_of (Some 56) n [] c)) (none_within n [] (omega arith)) ∙ is

pub truncated_somewhere : (l : Layer) → can_be_truncated l ≡ true → HoldsSomewhere (TruncatedAt l)
unfolding dissected
truncated_somewhere layer.IpHeader can = ([], small [] refl, refl)
truncated_somewhere layer.Ipv4Header can = (69 ∷ [], small (69 ∷ []) refl, refl)
truncated_somewhere layer.Ipv6Header can = (96 ∷ [], small (96 ∷ []) refl, refl)
truncated_somewhere layer.Ipv6ExtHeader can = (base6 16 0, small (base6 16 0) refl, without_rest layer.Ipv6ExtHeader 0 refl)
truncated_somewhere layer.Ipv6HopByHopHeader can = (base6 16 0, small (base6 16 0) refl, without_rest layer.Ipv6HopByHopHeader 0 refl)
truncated_somewhere layer.Ipv6RouteHeader can = (base6 16 43, small (base6 16 43) refl, without_rest layer.Ipv6RouteHeader 43 refl)
truncated_somewhere layer.Ipv6FragHeader can = (base6 16 44, small (base6 16 44) refl, without_rest layer.Ipv6FragHeader 44 refl)
truncated_somewhere layer.IpAuthHeader can = (base6 16 51, small (base6 16 51) refl, without_rest layer.IpAuthHeader 51 refl)
truncated_somewhere layer.Ipv6DestOptionsHeader can = (base6 16 60, small (base6 16 60) refl, without_rest layer.Ipv6DestOptionsHeader 60 refl)
truncated_somewhere layer.Ipv4Packet can = absurd (false≢true can)
truncated_somewhere layer.Ipv6Packet can = absurd (false≢true can)
truncated_somewhere layer.Icmpv4 can = absurd (false≢true can)

-- a fault of this kind in this layer
abbrev faulty_at : FaultKind → Layer → End → Bool
faulty_at k l e = option_map_or (λ f. kind_index f == kind_index k) (fault_in e) false && is_in_layer (layer_code l) 6 e

beyond_length : (l : Layer) (n : ℕ) → faulty_at kind.TooShort l (end_of (Some 41) n [] []) ≡ true → holds (FaultAt kind.TooShort l) (dissected (base6 1 n)) ≡ true
unfolding dissected
beyond_length l n is = ap (λ c. faulty_at kind.TooShort l (end_of (Some 41) n [] c)) (none_within n [] (omega arith)) ∙ is

-- an authentication header whose length is 0
abbrev zero_length : List ℕ
zero_length = base6 12 51 ++ 59 ∷ 0 ∷ []

zero_at : (l : Layer) → faulty_at kind.ZeroPayloadLen l (end_of (Some 52) 51 (59 ∷ 0 ∷ []) []) ≡ true → holds (FaultAt kind.ZeroPayloadLen l) (dissected zero_length) ≡ true
unfolding dissected
zero_at l is = ap (λ c. faulty_at kind.ZeroPayloadLen l (end_of (Some 52) 51 (59 ∷ 0 ∷ []) c)) (none_within 51 (59 ∷ 0 ∷ []) (omega arith)) ∙ is

-- destination options that hop-by-hop options follow
abbrev options : List ℕ
options = 0 ∷ 0 ∷ 1 ∷ 4 ∷ 0 ∷ 0 ∷ 0 ∷ 0 ∷ []

abbrev header : ExtHeader
header = record { number = 60; bytes = options }

options_alone : chain_to_later 60 options ≡ header ∷ []
options_alone =
    one_longest_under NothingAfterLater nothing_after_later 60 options (chain_to_later 60 options) (header ∷ []) (chain_to_later-longest 60 options)
    (whole_longest_under NothingAfterLater nothing_after_later 60 (header ∷ [])
    (record { headers = (raw (inr (inr refl)) (record { len = refl }), tt); links = (refl, tt); zero_only_first = tt }) ((λ later. refl), tt))

late_at : (l : Layer) → faulty_at kind.HopByHopNotAtStart l (end_of (Some 48) 60 options (header ∷ [])) ≡ true
    → holds (FaultAt kind.HopByHopNotAtStart l) (dissected (base6 8 60 ++ options)) ≡ true
unfolding dissected
late_at l is = ap (λ c. faulty_at kind.HopByHopNotAtStart l (end_of (Some 48) 60 options c)) options_alone ∙ is

-- an IPv4 base header whose total length is 19
abbrev short4 : List ℕ
short4 = 69 ∷ 0 ∷ 0 ∷ 19 ∷ 0 ∷ 0 ∷ 0 ∷ 0 ∷ 64 ∷ 17 ∷ 0 ∷ 0 ∷ 0 ∷ 0 ∷ 0 ∷ 0 ∷ 0 ∷ 0 ∷ 0 ∷ 0 ∷ []

too_short_somewhere : (l : Layer) → can_be_too_short l ≡ true → HoldsSomewhere (FaultAt kind.TooShort l)
unfolding dissected
too_short_somewhere layer.Ipv4Packet can = (short4, small short4 refl, refl)
too_short_somewhere layer.Ipv6ExtHeader can = (base6 1 0, small (base6 1 0) refl, beyond_length layer.Ipv6ExtHeader 0 refl)
too_short_somewhere layer.Ipv6HopByHopHeader can = (base6 1 0, small (base6 1 0) refl, beyond_length layer.Ipv6HopByHopHeader 0 refl)
too_short_somewhere layer.Ipv6RouteHeader can = (base6 1 43, small (base6 1 43) refl, beyond_length layer.Ipv6RouteHeader 43 refl)
too_short_somewhere layer.Ipv6FragHeader can = (base6 1 44, small (base6 1 44) refl, beyond_length layer.Ipv6FragHeader 44 refl)
too_short_somewhere layer.IpAuthHeader can = (base6 1 51, small (base6 1 51) refl, beyond_length layer.IpAuthHeader 51 refl)
too_short_somewhere layer.Ipv6DestOptionsHeader can = (base6 1 60, small (base6 1 60) refl, beyond_length layer.Ipv6DestOptionsHeader 60 refl)
too_short_somewhere layer.IpHeader can = absurd (false≢true can)
too_short_somewhere layer.Ipv4Header can = absurd (false≢true can)
too_short_somewhere layer.Ipv6Header can = absurd (false≢true can)
too_short_somewhere layer.Ipv6Packet can = absurd (false≢true can)
too_short_somewhere layer.Icmpv4 can = absurd (false≢true can)

late_somewhere : (l : Layer) → can_be_faulty kind.HopByHopNotAtStart l ≡ true → HoldsSomewhere (FaultAt kind.HopByHopNotAtStart l)
late_somewhere layer.Ipv6HopByHopHeader can = (base6 8 60 ++ options, small (base6 8 60 ++ options) refl, late_at layer.Ipv6HopByHopHeader refl)
late_somewhere layer.Ipv6ExtHeader can = (base6 8 60 ++ options, small (base6 8 60 ++ options) refl, late_at layer.Ipv6ExtHeader refl)
late_somewhere layer.IpHeader can = absurd (false≢true can)
late_somewhere layer.Ipv4Header can = absurd (false≢true can)
late_somewhere layer.Ipv4Packet can = absurd (false≢true can)
late_somewhere layer.IpAuthHeader can = absurd (false≢true can)
late_somewhere layer.Ipv6Header can = absurd (false≢true can)
late_somewhere layer.Ipv6Packet can = absurd (false≢true can)
late_somewhere layer.Ipv6DestOptionsHeader can = absurd (false≢true can)
late_somewhere layer.Ipv6RouteHeader can = absurd (false≢true can)
late_somewhere layer.Ipv6FragHeader can = absurd (false≢true can)
late_somewhere layer.Icmpv4 can = absurd (false≢true can)

zero_somewhere : (l : Layer) → can_be_faulty kind.ZeroPayloadLen l ≡ true → HoldsSomewhere (FaultAt kind.ZeroPayloadLen l)
zero_somewhere layer.IpAuthHeader can = (zero_length, small zero_length refl, zero_at layer.IpAuthHeader refl)
zero_somewhere layer.Ipv6ExtHeader can = (zero_length, small zero_length refl, zero_at layer.Ipv6ExtHeader refl)
zero_somewhere layer.IpHeader can = absurd (false≢true can)
zero_somewhere layer.Ipv4Header can = absurd (false≢true can)
zero_somewhere layer.Ipv4Packet can = absurd (false≢true can)
zero_somewhere layer.Ipv6Header can = absurd (false≢true can)
zero_somewhere layer.Ipv6Packet can = absurd (false≢true can)
zero_somewhere layer.Ipv6HopByHopHeader can = absurd (false≢true can)
zero_somewhere layer.Ipv6DestOptionsHeader can = absurd (false≢true can)
zero_somewhere layer.Ipv6RouteHeader can = absurd (false≢true can)
zero_somewhere layer.Ipv6FragHeader can = absurd (false≢true can)
zero_somewhere layer.Icmpv4 can = absurd (false≢true can)

version_somewhere : (l : Layer) → can_be_faulty kind.UnsupportedIpVersion l ≡ true → HoldsSomewhere (FaultAt kind.UnsupportedIpVersion l)
unfolding dissected
version_somewhere layer.IpHeader can = (80 ∷ [], small (80 ∷ []) refl, refl)
version_somewhere layer.Ipv4Header can = absurd (false≢true can)
version_somewhere layer.Ipv4Packet can = absurd (false≢true can)
version_somewhere layer.IpAuthHeader can = absurd (false≢true can)
version_somewhere layer.Ipv6Header can = absurd (false≢true can)
version_somewhere layer.Ipv6Packet can = absurd (false≢true can)
version_somewhere layer.Ipv6ExtHeader can = absurd (false≢true can)
version_somewhere layer.Ipv6HopByHopHeader can = absurd (false≢true can)
version_somewhere layer.Ipv6DestOptionsHeader can = absurd (false≢true can)
version_somewhere layer.Ipv6RouteHeader can = absurd (false≢true can)
version_somewhere layer.Ipv6FragHeader can = absurd (false≢true can)
version_somewhere layer.Icmpv4 can = absurd (false≢true can)

length_somewhere : (l : Layer) → can_be_faulty kind.Ipv4HeaderLength l ≡ true → HoldsSomewhere (FaultAt kind.Ipv4HeaderLength l)
unfolding dissected
length_somewhere layer.Ipv4Header can = (68 ∷ [], small (68 ∷ []) refl, refl)
length_somewhere layer.IpHeader can = absurd (false≢true can)
length_somewhere layer.Ipv4Packet can = absurd (false≢true can)
length_somewhere layer.IpAuthHeader can = absurd (false≢true can)
length_somewhere layer.Ipv6Header can = absurd (false≢true can)
length_somewhere layer.Ipv6Packet can = absurd (false≢true can)
length_somewhere layer.Ipv6ExtHeader can = absurd (false≢true can)
length_somewhere layer.Ipv6HopByHopHeader can = absurd (false≢true can)
length_somewhere layer.Ipv6DestOptionsHeader can = absurd (false≢true can)
length_somewhere layer.Ipv6RouteHeader can = absurd (false≢true can)
length_somewhere layer.Ipv6FragHeader can = absurd (false≢true can)
length_somewhere layer.Icmpv4 can = absurd (false≢true can)

pub faulty_somewhere : (k : FaultKind) (l : Layer) → can_be_faulty k l ≡ true → HoldsSomewhere (FaultAt k l)
faulty_somewhere kind.TooShort = too_short_somewhere
faulty_somewhere kind.HopByHopNotAtStart = late_somewhere
faulty_somewhere kind.ZeroPayloadLen = zero_somewhere
faulty_somewhere kind.UnsupportedIpVersion = version_somewhere
faulty_somewhere kind.Ipv4HeaderLength = length_somewhere
