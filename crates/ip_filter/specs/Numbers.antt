-- How a filter's text writes numbers, protocols, comparisons, kinds of fault and networks.
use Rattle.std.specs.Prelude.{◌≡◌, ◌⊎◌, ◌*◌, ◌+◌, ◌-◌, ◌^◌, ◌≤◌, ℕ, List, [], ◌∷◌, length, take, drop, Bool, false, not, ◌==◌, ◌&&◌, ◌||◌, nat_le, nat_lt, bit_and, bit_or, Option, Some, None, codes, if◌then◌else◌}
use Rattle.std.specs.List.{list_all, prefix_len}
use Rattle.std.specs.Option.{option_map, option_or, option_and_then}
use Rattle.std.specs.Char.{is_digit}
use Rattle.std.specs.Str.{bytes_eq}
use Rattle.std.specs.Str.Parse.{digits_value}
use Rattle.std.specs.Net.Addr.{ipv4_bits, ipv6_bits}
use Rattle.std.specs.Net.Grammar.{IsIpv4Text, IsIpv6Text}
use Rattle.std.specs.declared.net.ipv4_addr.Ipv4Addr.{Ipv4Addr}
use Rattle.std.specs.declared.net.ipv6_addr.Ipv6Addr.{Ipv6Addr}
use Rattle.ip_spec.specs.Numbers.{HOP_BY_HOP, ROUTING, FRAGMENT, AUTHENTICATION, DESTINATION_OPTIONS}
use Rattle.ip_base.specs.declared.err.layer.Layer.{Layer}
use Rattle.ip_base.specs.declared.err.layer.Layer.TheVariants as layer
use Rattle.ip_filter.specs.declared.network.Network.{Network}
use Rattle.ip_filter.specs.declared.network.Network.TheVariants as network
use Rattle.ip_filter.specs.declared.term.Ports.{Ports}
use Rattle.ip_filter.specs.declared.term.TcpFlags.{TcpFlags}
use Rattle.ip_filter.specs.declared.term.Comparison.{Comparison}
use Rattle.ip_filter.specs.declared.term.Comparison.TheVariants as by
use Rattle.ip_filter.specs.declared.term.FaultKind.{FaultKind}
use Rattle.ip_filter.specs.declared.term.FaultKind.TheVariants as kind
use Rattle.ip_filter.specs.Words.{Word}

-- the value of one digit or more of the radix, and nothing else
abbrev pub numeral : ℕ → List ℕ → Option ℕ
numeral radix ds =
    if nat_lt 0 (length ds) && list_all (λ c. is_digit c radix) ds then Some (digits_value radix ds)
    else None

-- a zero that other digits follow, which some programs take for octal
abbrev pub has_leading_zero : List ℕ → Bool
has_leading_zero [] = false
has_leading_zero (c ∷ ds) = (c == 48) && nat_lt 0 (length ds)

-- hexadecimal digits after 0x, or decimal digits
abbrev pub number_of : Word → Option ℕ
number_of w =
    if bytes_eq (take 2 w) (codes "0x") then numeral 16 (drop 2 w)
    else if has_leading_zero w then None
    else numeral 10 w

abbrev pub limited : ℕ → Option ℕ → Option ℕ
limited most None = None
limited most (Some n) = if nat_le n most then Some n else None

-- the number that is written, if it is at most this
abbrev pub number_up_to : ℕ → Word → Option ℕ
number_up_to most w = limited most (number_of w)

abbrev pub version_named : Word → Option ℕ
version_named w = if bytes_eq w (codes "4") then Some 4 else if bytes_eq w (codes "6") then Some 6 else None

-- an extension header, by its name or the short form of that
abbrev pub header_called : Word → Option ℕ
header_called w =
    if bytes_eq w (codes "hop-by-hop") || bytes_eq w (codes "hopopt") then Some 0
    else if bytes_eq w (codes "routing") || bytes_eq w (codes "route") then Some 43
    else if bytes_eq w (codes "fragment") || bytes_eq w (codes "frag") then Some 44
    else if bytes_eq w (codes "authentication") || bytes_eq w (codes "ah") then Some 51
    else if bytes_eq w (codes "destination-options") || bytes_eq w (codes "dstopts") then Some 60
    else None

-- The number n, if a header of a packet can have it. The headers of a packet end before any other number, as that of ESP (50)
-- or Mobility (135), so they lead to it.
abbrev pub header_numbered : ℕ → Option ℕ
header_numbered n =
    if (n == HOP_BY_HOP) || (n == ROUTING) || (n == FRAGMENT) || (n == AUTHENTICATION) || (n == DESTINATION_OPTIONS) then Some n
    else None

-- an extension header, by its name or its number
abbrev pub header_named : Word → Option ℕ
header_named w = option_or (header_called w) (option_and_then header_numbered (number_up_to 255 w))

-- an upper-layer protocol, or no next header, by its name
abbrev pub upper_layer_of : Word → Option ℕ
upper_layer_of w =
    if bytes_eq w (codes "icmp") then Some 1
    else if bytes_eq w (codes "tcp") then Some 6
    else if bytes_eq w (codes "udp") then Some 17
    else if bytes_eq w (codes "dccp") then Some 33
    else if bytes_eq w (codes "gre") then Some 47
    else if bytes_eq w (codes "esp") then Some 50
    else if bytes_eq w (codes "icmp6") then Some 58
    else if bytes_eq w (codes "no-next") then Some 59
    else if bytes_eq w (codes "sctp") then Some 132
    else if bytes_eq w (codes "udp-lite") then Some 136
    else None

-- what follows the headers, by its name or number: a header, too, if it is truncated or faulty
abbrev pub protocol_of : Word → Option ℕ
protocol_of w = option_or (upper_layer_of w) (option_or (header_called w) (number_up_to 255 w))

abbrev pub comparison_of : Word → Option Comparison
comparison_of w =
    if bytes_eq w (codes "=") || bytes_eq w (codes "==") then Some by.Equal
    else if bytes_eq w (codes "!=") then Some by.NotEqual
    else if bytes_eq w (codes "<") then Some by.Less
    else if bytes_eq w (codes "<=") then Some by.AtMost
    else if bytes_eq w (codes ">") then Some by.Greater
    else if bytes_eq w (codes ">=") then Some by.AtLeast
    else None

abbrev pub fault_kind_of : Word → Option FaultKind
fault_kind_of w =
    if bytes_eq w (codes "too-short") then Some kind.TooShort
    else if bytes_eq w (codes "not-at-start") then Some kind.HopByHopNotAtStart
    else if bytes_eq w (codes "zero-length") then Some kind.ZeroPayloadLen
    else if bytes_eq w (codes "unsupported-version") then Some kind.UnsupportedIpVersion
    else if bytes_eq w (codes "header-length") then Some kind.Ipv4HeaderLength
    else None

-- the layer of a header
abbrev pub layer_named : Word → Option Layer
layer_named w =
    if bytes_eq w (codes "IP-header") then Some layer.IpHeader
    else if bytes_eq w (codes "IPv4-header") then Some layer.Ipv4Header
    else if bytes_eq w (codes "IPv4-packet") then Some layer.Ipv4Packet
    else if bytes_eq w (codes "authentication") then Some layer.IpAuthHeader
    else if bytes_eq w (codes "IPv6-header") then Some layer.Ipv6Header
    else if bytes_eq w (codes "IPv6-extension") then Some layer.Ipv6ExtHeader
    else if bytes_eq w (codes "hop-by-hop") then Some layer.Ipv6HopByHopHeader
    else if bytes_eq w (codes "destination-options") then Some layer.Ipv6DestOptionsHeader
    else if bytes_eq w (codes "routing") then Some layer.Ipv6RouteHeader
    else if bytes_eq w (codes "fragment") then Some layer.Ipv6FragHeader
    else None

-- how many bytes precede the first such byte
abbrev pub index_of : ℕ → Word → ℕ
index_of byte w = prefix_len (λ c. not (c == byte)) w

abbrev pub slash_index : Word → ℕ
slash_index w = index_of 47 w

-- a range of ports, which isn't empty
abbrev pub ports_from : ℕ → ℕ → Option Ports
ports_from first last = if nat_le first last then Some (record { first = first; last = last }) else None

-- the last port of a range, after the hyphen and the first; that one without them
abbrev pub last_port : ℕ → List ℕ → Option ℕ
last_port first [] = Some first
last_port first (hyphen ∷ digits) = number_up_to 65535 digits

-- a port, or the first and the last with a hyphen between them
abbrev pub ports_of : Word → Option Ports
ports_of w =
    option_and_then (λ first. option_and_then (ports_from first) (last_port first (drop (index_of 45 w) w)))
    (number_up_to 65535 (take (index_of 45 w) w))

-- the bit of a flag of TCP, by its name (RFC 9293, section 3.1; RFC 3168, section 6.1)
abbrev pub tcp_flag_of : Word → Option ℕ
tcp_flag_of w =
    if bytes_eq w (codes "fin") then Some 1
    else if bytes_eq w (codes "syn") then Some 2
    else if bytes_eq w (codes "rst") then Some 4
    else if bytes_eq w (codes "psh") then Some 8
    else if bytes_eq w (codes "ack") then Some 16
    else if bytes_eq w (codes "urg") then Some 32
    else if bytes_eq w (codes "ece") then Some 64
    else if bytes_eq w (codes "cwr") then Some 128
    else None

-- the names of a list, between which there are commas
abbrev pub with_letter : ℕ → List Word → List Word
with_letter c [] = (c ∷ []) ∷ []
with_letter c (name ∷ names) = (c ∷ name) ∷ names

unfoldable pub names_in : Word → List Word
names_in [] = [] ∷ []
names_in (c ∷ w) = if c == 44 then [] ∷ names_in w else with_letter c (names_in w)

-- the flags f, and those with these names
abbrev pub with_flags : ℕ → List Word → Option ℕ
with_flags f [] = Some f
with_flags f (name ∷ names) = option_and_then (λ bit. with_flags (bit_or f bit) names) (tcp_flag_of name)

-- a list of flags
abbrev pub tcp_flag_list : Word → Option ℕ
tcp_flag_list w = with_flags 0 (names_in w)

-- the flags that count, after a slash; without one, those that are set
abbrev pub tcp_flag_mask : ℕ → List ℕ → Option ℕ
tcp_flag_mask set [] = Some set
tcp_flag_mask set (slash ∷ list) = tcp_flag_list list

-- flags that are set, of those that count
abbrev pub tcp_flags_from : ℕ → ℕ → Option TcpFlags
tcp_flags_from set mask = if bit_and set mask == set then Some (record { set = set; mask = mask }) else None

-- flags of TCP that are set: a list, and a slash and a list of all flags that count or nothing
abbrev pub tcp_flags_of : Word → Option TcpFlags
tcp_flags_of w =
    option_and_then (λ set. option_and_then (tcp_flags_from set) (tcp_flag_mask set (drop (slash_index w) w)))
    (tcp_flag_list (take (slash_index w) w))

-- the number of bits after an address: without a slash, all of them
abbrev pub prefix_bits : ℕ → List ℕ → Option ℕ
prefix_bits bits [] = Some bits
prefix_bits bits (slash ∷ digits) = number_up_to bits digits

-- an address of either version (RFC 4291, section 2.2), and a slash and a number of bits or nothing
abbrev pub IsNetworkText : Word → Network → Type 0
IsNetworkText w (network.Ipv4 address len) =
    (a : Ipv4Addr) × IsIpv4Text (take (slash_index w) w) a × (address ≡ ipv4_bits a)
    × (prefix_bits 32 (drop (slash_index w) w) ≡ Some len)
IsNetworkText w (network.Ipv6 address len) =
    (a : Ipv6Addr) × IsIpv6Text (take (slash_index w) w) a × (address ≡ ipv6_bits a)
    × (prefix_bits 128 (drop (slash_index w) w) ≡ Some len)

-- In what follows, one, two or three numbers of 8 bits with dots between them: the front of an IPv4 address, with how many bits
-- it has. The other numbers of the address are 0.

abbrev pub ipv4_front : ℕ → ℕ → ℕ → ℕ
ipv4_front a b c = a * 16777216 + b * 65536 + c * 256

abbrev pub dot_index : Word → ℕ
dot_index w = index_of 46 w

abbrev pub third_number : ℕ → ℕ → List ℕ → Option (ℕ × ℕ)
third_number a b [] = Some (ipv4_front a b 0, 16)
third_number a b (dot ∷ w) = option_map (λ c. (ipv4_front a b c, 24)) (number_up_to 255 w)

abbrev pub second_number : ℕ → List ℕ → Option (ℕ × ℕ)
second_number a [] = Some (ipv4_front a 0 0, 8)
second_number a (dot ∷ w) = option_and_then (λ b. third_number a b (drop (dot_index w) w)) (number_up_to 255 (take (dot_index w) w))

abbrev pub front_of : Word → Option (ℕ × ℕ)
front_of w = option_and_then (λ a. second_number a (drop (dot_index w) w)) (number_up_to 255 (take (dot_index w) w))

-- how many bits count: those of the front, or those after a slash
abbrev pub front_bits : ℕ → List ℕ → Option ℕ
front_bits bits [] = Some bits
front_bits bits (slash ∷ digits) = number_up_to 32 digits

abbrev pub with_bits : ℕ → Option ℕ → Option Network
with_bits address len = option_map (network.Ipv4 address) len

abbrev pub front_network : Word → Option Network
front_network w =
    option_and_then (λ f. with_bits f.0 (front_bits f.1 (drop (slash_index w) w))) (front_of (take (slash_index w) w))

-- a network, or else the front of an IPv4 address (pcap-filter(7))
abbrev pub IsNetworkOrFront : Word → Network → Type 0
IsNetworkOrFront w n = IsNetworkText w n ⊎ (((m : Network) → IsNetworkText w m → ⊥) × (front_network w ≡ Some n))

-- an IPv4 address or its front, and no number of bits
abbrev pub IsFrontText : Word → ℕ → Type 0
IsFrontText w a = (len : ℕ) × IsNetworkOrFront w (network.Ipv4 a len) × (length w ≤ slash_index w)

-- the mask of 32 bits whose first len are 1, and the others 0 (RFC 4632, section 5.1)
abbrev pub mask_of : ℕ → ℕ
mask_of len = 2 ^ 32 - 2 ^ (32 - len)

-- a mask of len bits, written as an address
abbrev pub IsMaskText : Word → ℕ → Type 0
IsMaskText w len = (len ≤ 32) × IsFrontText w (mask_of len)

-- an address, and no number of bits
abbrev pub IsHostText : Word → Network → Type 0
IsHostText w n = IsNetworkText w n × (length w ≤ slash_index w)
