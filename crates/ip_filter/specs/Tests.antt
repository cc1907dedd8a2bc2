-- Tests of a packet, in plain numbers.
use Rattle.std.specs.Prelude.{ℕ, ◌+◌, ◌*◌, ◌^◌, ◌==◌, ◌&&◌, ◌||◌, nat_lt, nat_le, bit_and, if◌then◌else◌, Bool, false, List, Option, Some, None}
use Rattle.std.specs.List.{list_any}
use Rattle.std.specs.Option.{option_map, option_map_or}
use Rattle.ip_dissect.specs.Dissection.{DissectedParts, dissected}
use Rattle.ip_filter.specs.Transport.{source_port, destination_port, lacks_transport, icmp_byte, icmp6_byte, esp_spi, tcp_flags}
use Rattle.ip_filter.specs.Truth.{is_in_layer, compares, has_base, has_source, has_destination, some_fragment, quantity_of, lacks_length}
use Rattle.ip_filter.specs.HeaderFields.{has_option, has_spi, has_routing_type, has_segments_left}
use Rattle.ip_filter.specs.Flags.{any_flag}
use Rattle.ip_filter.specs.Access.{number_at, bytes_from}
use Rattle.ip_filter.specs.declared.term.AccessedHeader.TheVariants as from
use Rattle.ip_filter.specs.declared.network.Network.{Network}
use Rattle.ip_filter.specs.declared.network.Network.TheVariants.{Ipv4, Ipv6}
use Rattle.ip_filter.specs.declared.term.Comparison.{Comparison}
use Rattle.ip_filter.specs.declared.term.Comparison.TheVariants.{Equal, NotEqual, Less, AtMost, Greater, AtLeast}
use Rattle.ip_filter.specs.declared.term.Quantity.{Quantity}
use Rattle.ip_filter.specs.declared.term.Quantity.TheVariants.{Headers, ChainBytes, Payload, Length, HopLimit, Dscp, Ecn, FlowLabel}
use Rattle.ip_filter.specs.declared.filter.Test.{Test}

-- n, if it is below m
abbrev pub fitting : ℕ → ℕ → Option ℕ
fitting m n = if nat_lt n m then Some n else None

-- the comparison with a code
abbrev pub comparison_in : ℕ → Option Comparison
comparison_in c =
    if c == 1 then Some Equal
    else if c == 2 then Some NotEqual
    else if c == 3 then Some Less
    else if c == 4 then Some AtMost
    else if c == 5 then Some Greater
    else if c == 6 then Some AtLeast
    else None

-- The network of a test. The low half of its address has all of an IPv4 address.
abbrev pub network_in : Test → Option Network
network_in x =
    if x.version == 4 then option_map (λ a. Ipv4 a x.prefix_len) (fitting (2 ^ 32) x.address_low)
    else if x.version == 6 then Some (Ipv6 (x.address_high * 2 ^ 64 + x.address_low) x.prefix_len)
    else None

-- the packet has the quantity, and it compares as the test asks
abbrev pub compared : Test → Quantity → DissectedParts → Bool
compared x q p =
    option_map_or (λ c. option_map_or (λ n. compares c n x.number) (quantity_of q p) false) (comparison_in x.comparison) false

-- n is there, and in the range of the test
abbrev pub is_in_range : Test → Option ℕ → Bool
is_in_range x n = option_map_or (λ m. nat_le x.number m && nat_le m x.address_low) n false

-- The number that the test reads of the bytes b is there, and those of its bits that count compare as the test asks.
abbrev pub reads : Test → List ℕ → Bool
reads x b =
    option_map_or (λ c. option_map_or (λ n. compares c (bit_and n x.address_low) x.number) (number_at x.address_high x.prefix_len b) false) (comparison_in x.comparison) false

-- The packet with the parts p meets a test of the first bytes of its payload. It meets none with another kind.
abbrev pub meets_in_payload : Test → DissectedParts → Bool
meets_in_payload x p =
    if x.kind == 16 then is_in_range x (source_port p)
    else if x.kind == 17 then is_in_range x (destination_port p)
    else if x.kind == 18 then is_in_range x (source_port p) || is_in_range x (destination_port p)
    else if x.kind == 19 then lacks_transport p
    else if x.kind == 20 then option_map_or (λ n. n == x.number) (icmp_byte 0 p) false
    else if x.kind == 21 then option_map_or (λ n. n == x.number) (icmp_byte 1 p) false
    else if x.kind == 22 then option_map_or (λ n. bit_and n x.address_low == x.number) (tcp_flags p) false
    else if x.kind == 28 then option_map_or (λ n. n == x.number) (icmp6_byte 0 p) false
    else if x.kind == 29 then option_map_or (λ n. n == x.number) (icmp6_byte 1 p) false
    else if x.kind == 32 then reads x (bytes_from (from.Transport x.version) p)
    else false

-- The packet with the parts p meets the test.
abbrev pub meets : Test → DissectedParts → Bool
meets x p =
    if x.kind == 1 then any_flag 64 x.number p
    else if x.kind == 2 then has_base p && (p.number == x.number)
    else if x.kind == 3 then compared x Headers p
    else if x.kind == 4 then compared x ChainBytes p
    else if x.kind == 5 then compared x Payload p
    else if x.kind == 6 then list_any (has_spi x.number) p.headers || option_map_or (λ n. n == x.number) (esp_spi p) false
    else if x.kind == 7 then some_fragment (λ y. y.identification == x.number) p
    else if x.kind == 8 then option_map_or (λ n. has_source n p) (network_in x) false
    else if x.kind == 9 then option_map_or (λ n. has_destination n p) (network_in x) false
    else if x.kind == 10 then option_map_or (λ n. has_source n p || has_destination n p) (network_in x) false
    else if x.kind == 11 then compared x Length p
    else if x.kind == 12 then compared x HopLimit p
    else if x.kind == 13 then compared x Dscp p
    else if x.kind == 14 then compared x Ecn p
    else if x.kind == 15 then compared x FlowLabel p
    else if x.kind == 23 then list_any (has_routing_type x.number) p.headers
    else if x.kind == 24 then option_map_or (λ c. list_any (has_segments_left (λ n. compares c n x.number)) p.headers) (comparison_in x.comparison) false
    else if x.kind == 25 then list_any (has_option x.number) p.headers
    else if x.kind == 26 then any_flag 64 x.address_low p && is_in_layer x.number p.version p.end
    else if x.kind == 27 then (p.version == x.version) && (p.number == x.number)
    else if x.kind == 30 then lacks_length p
    else if x.kind == 31 then reads x (bytes_from (from.Base x.version) p)
    else if x.kind == 33 then compared x Length p
    else meets_in_payload x p

-- a frame meets the test: the packet at the start of its bytes does, and a frame that is not IP meets none
abbrev pub frame_meets : Option (List ℕ) → Test → Bool
frame_meets None x = false
frame_meets (Some s) x = meets x (dissected s)
