-- The contents of a struct of six places.
use Rattle.std.specs.Prelude.{ℕ, ◌+◌, List, Bool, false, ◌&&◌, Option, Some, None, is_none, option_and_then}
use Rattle.std.specs.Option.{option_map, option_map_or}
use Rattle.ip_base.specs.Fragment.{is_fragment}
use Rattle.ip_spec.specs.Fields.{RawFields, FragmentFields, raw_fields, fragment_fields, auth_fields, raw_len, auth_len}
use Rattle.ip_spec.specs.Chain.{ExtHeader}
use Rattle.ip_spec.specs.Places.{Place, hop_by_hop, destination, routing, fragment, authentication, final_destination, header_in, HeaderFields, raw_header, fragment_header, auth_header}
use Rattle.ip_ext_chains.specs.declared.ipv6_routing_exts.Ipv6RoutingExtensions.{Ipv6RoutingExtensions}
use Rattle.ip_ext_chains.specs.declared.ipv6_exts.Ipv6Extensions.{Ipv6Extensions}

-- the fields of the header of c in a place of the uniform format (RFC 6564)
abbrev pub raw_in : Place → List ExtHeader → Option RawFields
raw_in p c = option_map (λ h. raw_fields h.bytes) (header_in p c)

-- The value of a chain that fits: the fields of each header in its place, and nothing else.
abbrev pub value_of : List ExtHeader → Ipv6Extensions
value_of c = record {
  hop_by_hop_options = raw_in hop_by_hop c;
  destination_options = raw_in destination c;
  routing = option_map (λ r. record { routing = r; final_destination_options = raw_in final_destination c }) (raw_in routing c);
  fragment = option_map (λ h. fragment_fields h.bytes) (header_in fragment c);
  auth = option_map (λ h. auth_fields h.bytes) (header_in authentication c);
}

-- the final destination options, which are stored with the routing header
abbrev pub final_of : Option Ipv6RoutingExtensions → Option RawFields
final_of o = option_and_then (λ r. r.final_destination_options) o

-- the fields in a place
abbrev pub placed_fields : Ipv6Extensions → Place → Option HeaderFields
placed_fields v hop_by_hop = option_map raw_header v.hop_by_hop_options
placed_fields v destination = option_map raw_header v.destination_options
placed_fields v routing = option_map (λ r. raw_header r.routing) v.routing
placed_fields v fragment = option_map fragment_header v.fragment
placed_fields v authentication = option_map auth_header v.auth
placed_fields v final_destination = option_map raw_header (final_of v.routing)

-- the sum over the places
abbrev pub exts_len : Ipv6Extensions → ℕ
exts_len v =
    option_map_or raw_len v.hop_by_hop_options 0 + (option_map_or raw_len v.destination_options 0 + (option_map_or (λ r. raw_len r.routing) v.routing 0
    + (option_map_or (λ h. 8) v.fragment 0 + (option_map_or auth_len v.auth 0 + option_map_or raw_len (final_of v.routing) 0))))

-- no place is occupied
abbrev pub has_none : Ipv6Extensions → Bool
has_none v = is_none v.hop_by_hop_options && (is_none v.destination_options && (is_none v.routing && (is_none v.fragment && is_none v.auth)))

-- a fragment header is present, and its offset isn't 0 or more fragments follow
abbrev pub is_fragmented : Option FragmentFields → Bool
is_fragmented (Some f) = is_fragment f.more_fragments f.fragment_offset
is_fragmented None = false
