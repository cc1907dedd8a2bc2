-- A struct of six places, and its fields in each.
use Rattle.ip_spec.proofs.Common.{◌≡◌, ℕ, List, rules, Option, None, option_map, ForSome, raw_fields, ExtHeader, Place, hop_by_hop, destination, routing, authentication, final_destination, number_in, header_in, HeaderFields, fields_of, IsEncoded, IsEncodable, placed_len}
use Rattle.ip_spec.specs.Places.{fragment}
use Rattle.ip_spec.proofs.PlaceLemmas.{none_after}
use Rattle.ip_spec.proofs.EncodedLemmas.{same_fragment, same_auth}
use Rattle.ip_spec.proofs.WalkLemmas.{is_some-map}
use Rattle.ip_ext_chains.specs.Ipv6Extensions.{value_of, raw_in, placed_fields, exts_len}
use Rattle.ip_ext_chains.specs.declared.ipv6_exts.Ipv6Extensions.{Ipv6Extensions}
use Rattle.ip_ext_chains.proofs.PlacedLemmas.{in_place_number}

no_final : (c : List ExtHeader) → raw_in routing c ≡ None → raw_in final_destination c ≡ None
no_final c e = let map = is_some-map (λ h. raw_fields h.bytes) (header_in routing c) in search (rules, none_after)

-- the value of a chain has the fields of its headers
pub placed_fields-value_of : (c : List ExtHeader) (p : Place) → placed_fields (value_of c) p ≡ option_map fields_of (header_in p c)
placed_fields-value_of c p = search (rules, in_place_number p c, no_final c)

-- Structs with the same fields are equal.
pub placed_fields_one : (v w : Ipv6Extensions) → ((p : Place) → placed_fields v p ≡ placed_fields w p) → v ≡ w
placed_fields_one v w e = search (rules, e hop_by_hop, e destination, e routing, e fragment, e authentication, e final_destination, same_fragment, same_auth)

-- The sum over the places.
pub exts_sum : (v : Ipv6Extensions) → placed_len (placed_fields v) ≡ exts_len v
exts_sum v = search rules

-- The final place has destination options only with a routing header, so a struct can be written if each of its
-- headers can.
abbrev CanBe : ℕ → Option HeaderFields → Type 0
CanBe n o = ForSome o (λ x. (h : ExtHeader) × IsEncoded n x h)

module _ (v : Ipv6Extensions) (a : CanBe 0 (placed_fields v hop_by_hop)) (b : CanBe 60 (placed_fields v destination)) (d : CanBe 43 (placed_fields v routing)) (e : CanBe 44 (placed_fields v fragment)) (f : CanBe 51 (placed_fields v authentication)) (g : CanBe 60 (placed_fields v final_destination)) where
  encoded_in : (p : Place) → CanBe (number_in p) (placed_fields v p)
  encoded_in hop_by_hop = a
  encoded_in p = search rules

  pub encodable_where : IsEncodable (placed_fields v)
  encodable_where = record { encoded = encoded_in; nested = search rules }
