-- The contents of each place.
use Rattle.std.specs.Prelude.{◌≡◌, ◌==◌, List, Option, Some, None, IfSome, get_or, if◌then◌else◌}
use Rattle.std.specs.Option.{option_map}
use Rattle.ip_spec.specs.Chain.{ExtHeader}
use Rattle.ip_spec.specs.Fields.{RawFields, raw_fields, fragment_fields, auth_fields}
use Rattle.ip_spec.specs.Places.{Place, hop_by_hop, destination, routing, fragment, authentication, final_destination, index, number_in, header_in}
use Rattle.ip_ext_slices.specs.Ipv6ExtensionSlice.{header_of}
use Rattle.ip_ext_slices.specs.declared.ipv6_ext_slice.Ipv6ExtensionSlice.{Ipv6ExtensionSlice}
use Rattle.ip_ext_chains.specs.declared.ipv6_exts.Ipv6Extensions.{Ipv6Extensions}
use Rattle.ip_ext_chains.specs.declared.places.Places.{Places}

abbrev pub at : {T : Type 0} → Place → Places T → Option T
at p v = get_or v.slots (index p) None

-- every place is free
abbrev pub IsVacant : {T : Type 0} → Places T → Type 0
IsVacant v = (p : Place) → at p v ≡ None

-- w is v with x in place q
abbrev pub IsPut : {T : Type 0} → Place → T → Places T → Places T → Type 0
IsPut q x v w = (p : Place) → at p w ≡ (if index q == index p then Some x else at p v)

-- the places contain the headers of the chain c, each in its own
abbrev pub ArePlaced : List ExtHeader → Places Ipv6ExtensionSlice → Type 0
ArePlaced c v = (p : Place) → option_map header_of (at p v) ≡ header_in p c

-- the fields of the header in a place of the uniform format (RFC 6564)
abbrev pub raw_at : Place → Places Ipv6ExtensionSlice → Option RawFields
raw_at p v = option_map (λ h. raw_fields (header_of h).bytes) (at p v)

-- the contents of the struct filled from them
abbrev pub value_at : Places Ipv6ExtensionSlice → Ipv6Extensions
value_at v = record {
  hop_by_hop_options = raw_at hop_by_hop v;
  destination_options = raw_at destination v;
  routing = option_map (λ r. record { routing = r; final_destination_options = raw_at final_destination v }) (raw_at routing v);
  fragment = option_map (λ h. fragment_fields (header_of h).bytes) (at fragment v);
  auth = option_map (λ h. auth_fields (header_of h).bytes) (at authentication v);
}

-- each header has its place's number
abbrev pub AreOfNumber : Places Ipv6ExtensionSlice → Type 0
AreOfNumber v = (p : Place) → IfSome (at p v) (λ h. (header_of h).number ≡ number_in p)
