-- Qualifiers: the words before an identifier, which say what it is compared with (pcap-filter(7)).
use Rattle.std.specs.Prelude.{◌≡◌, ◌==◌, ℕ, List, [], ◌∷◌, ◌||◌, ◌⊎◌, Option, Some, None, is_some, codes, if◌then◌else◌}
use Rattle.std.specs.Option.{option_map}
use Rattle.std.specs.Str.{bytes_eq}
use Rattle.ip_filter.specs.declared.network.Network.{Network}
use Rattle.ip_filter.specs.declared.network.Network.TheVariants as network
use Rattle.ip_filter.specs.declared.term.Ports.{Ports}
use Rattle.ip_filter.specs.declared.term.Term.{Term}
use Rattle.ip_filter.specs.declared.term.Term.TheVariants as term
use Rattle.ip_filter.specs.declared.parse_error.Expected.{Expected}
use Rattle.ip_filter.specs.declared.parse_error.Expected.TheVariants as expects
use Rattle.ip_filter.specs.declared.qualifiers.Protocol.{Protocol}
use Rattle.ip_filter.specs.declared.qualifiers.Protocol.TheVariants as protocol
use Rattle.ip_filter.specs.declared.qualifiers.Direction.{Direction}
use Rattle.ip_filter.specs.declared.qualifiers.Direction.TheVariants as direction
use Rattle.ip_filter.specs.declared.qualifiers.Kind.{Kind}
use Rattle.ip_filter.specs.declared.qualifiers.Kind.TheVariants as kind
use Rattle.ip_filter.specs.declared.qualifiers.Qualifiers.{Qualifiers}
use Rattle.ip_filter.specs.declared.qualifiers.Named.{Named}
use Rattle.ip_filter.specs.declared.qualifiers.Named.TheVariants as named
use Rattle.ip_filter.specs.declared.qualifiers.Primitive.{Primitive}
use Rattle.ip_filter.specs.Words.{Word}
use Rattle.ip_filter.specs.Operators.{is_and, is_or}
use Rattle.ip_filter.specs.Numbers.{header_numbered, upper_layer_of, protocol_of, ports_of, IsNetworkText, IsNetworkOrFront, IsFrontText, IsMaskText, IsHostText}
use Rattle.ip_filter.specs.Formula.{Formula, single, both, either}

-- ---- what primitives say

abbrev pub protocol_term : Protocol → Term
protocol_term (protocol.Version v) = term.Version v
protocol_term protocol.Icmp = term.Icmp
protocol_term protocol.Icmp6 = term.Icmp6
protocol_term (protocol.LeadsTo n) = term.LeadsTo n

-- The destination is in 224.0.0.0/3, or in ff00::/8: what libpcap's `multicast` asks after `ip` and `ip6`.
abbrev pub multicast_term : Protocol → Option Term
multicast_term (protocol.Version v) =
    if v == 4 then Some (term.Destination (network.Ipv4 3758096384 3))
    else Some (term.Destination (network.Ipv6 338953138925153547590470800371487866880 8))
multicast_term p = None

-- the term that a word after the protocol makes of it
abbrev pub multicast_with : Protocol → Word → Option Term
multicast_with p w = if bytes_eq w (codes "multicast") then multicast_term p else None

abbrev pub says_named : Named → Formula
says_named (named.Term t) = single t
says_named (named.Both t u) = both (single t) (single u)
says_named (named.Either t u) = either (single t) (single u)

-- the formula f of packets of this protocol
abbrev pub of_protocol : Option Protocol → Formula → Formula
of_protocol None f = f
of_protocol (Some p) f = both (single (protocol_term p)) f

abbrev pub says : Primitive → Formula
says p = of_protocol p.protocol (says_named p.named)

-- a term, after which no identifier can follow alone
abbrev pub plain : Term → Primitive
plain t = record { protocol = None; named = named.Term t; leaves = None }

-- what the qualifiers x say with an identifier
abbrev pub qualified : Qualifiers → Named → Primitive
qualified x n = record { protocol = x.protocol; named = n; leaves = Some x }

-- ---- the words of qualifiers

-- the version or protocol that a word names
abbrev pub protocol_named : Word → Option Protocol
protocol_named w =
    if bytes_eq w (codes "ip") then Some (protocol.Version 4)
    else if bytes_eq w (codes "ip6") then Some (protocol.Version 6)
    else if bytes_eq w (codes "icmp") then Some protocol.Icmp
    else if bytes_eq w (codes "icmp6") then Some protocol.Icmp6
    else option_map protocol.LeadsTo (upper_layer_of w)

abbrev pub direction_named : Word → Option Direction
direction_named w =
    if bytes_eq w (codes "src") then Some direction.Source
    else if bytes_eq w (codes "dst") then Some direction.Destination
    else None

-- what an identifier is, by a word that may follow `src` or `dst`
abbrev pub kind_named : Word → Option Kind
kind_named w =
    if bytes_eq w (codes "host") then Some kind.Host
    else if bytes_eq w (codes "net") then Some kind.Network
    else if bytes_eq w (codes "port") || bytes_eq w (codes "portrange") then Some kind.Ports
    else None

abbrev pub kind_of : Word → Option Kind
kind_of w = if bytes_eq w (codes "proto") then Some kind.Protocol else kind_named w

abbrev pub of_any_protocol : Direction → Kind → Qualifiers
of_any_protocol d k = record { protocol = None; direction = d; kind = k }

-- the other one of `src` and `dst`
abbrev pub other_side : Direction → Word
other_side direction.Source = codes "dst"
other_side d = codes "src"

-- e, which joins both directions, if the word w is the other one than d
abbrev pub joined_by : Direction → Direction → Word → Option Direction
joined_by d e w = if bytes_eq w (other_side d) then Some e else None

-- In what follows, the qualifiers that the words begin with, and the words after them.

abbrev pub joined_at : Direction → Direction → List Word → Option (Direction × List Word)
joined_at d e [] = None
joined_at d e (w ∷ ws) = option_map (λ f. (f, ws)) (joined_by d e w)

-- after `src` or `dst`: the other one, if `or` or `and` follows
abbrev pub directions_at : Direction → List Word → Option (Direction × List Word)
directions_at d [] = Some (d, [])
directions_at d (w ∷ ws) =
    if is_or w then joined_at d direction.Either ws
    else if is_and w then joined_at d direction.Both ws
    else Some (d, w ∷ ws)

abbrev pub side_with : Direction → Option Kind → Word → List Word → Qualifiers × List Word
side_with d (Some k) w ws = (of_any_protocol d k, ws)
side_with d None w ws = (of_any_protocol d kind.Side, w ∷ ws)

-- after the directions: a network, unless a word says otherwise
abbrev pub side_at : Direction → List Word → Qualifiers × List Word
side_at d [] = (of_any_protocol d kind.Side, [])
side_at d (w ∷ ws) = side_with d (kind_named w) w ws

abbrev pub sided : Option Direction → Option Kind → List Word → Option (Qualifiers × List Word)
sided (Some d) k ws = option_map (λ e. side_at e.0 e.1) (directions_at d ws)
sided None (Some k) ws = Some (of_any_protocol direction.Either k, ws)
sided None None ws = None

abbrev pub side_or_kind_at : List Word → Option (Qualifiers × List Word)
side_or_kind_at [] = None
side_or_kind_at (w ∷ ws) = sided (direction_named w) (kind_of w) ws

abbrev pub with_protocol : Protocol → Qualifiers × List Word → Qualifiers × List Word
with_protocol p h = (record { protocol = Some p; direction = h.0.direction; kind = h.0.kind }, h.1)

abbrev pub after_protocol : Option Protocol → Word → List Word → Option (Qualifiers × List Word)
after_protocol None w ws = side_or_kind_at (w ∷ ws)
after_protocol (Some p) w ws = option_map (with_protocol p) (side_or_kind_at ws)

abbrev pub qualifiers_at : List Word → Option (Qualifiers × List Word)
qualifiers_at [] = None
qualifiers_at (w ∷ ws) = after_protocol (protocol_named w) w ws

-- ---- identifiers

abbrev pub network_said : Direction → Network → Named
network_said direction.Source n = named.Term (term.Source n)
network_said direction.Destination n = named.Term (term.Destination n)
network_said direction.Either n = named.Term (term.Either n)
network_said direction.Both n = named.Both (term.Source n) (term.Destination n)

abbrev pub ports_said : Direction → Ports → Named
ports_said direction.Source r = named.Term (term.SourcePort r)
ports_said direction.Destination r = named.Term (term.DestinationPort r)
ports_said direction.Either r = named.Term (term.Port r)
ports_said direction.Both r = named.Both (term.SourcePort r) (term.DestinationPort r)

-- the number of a protocol or of an extension header, which may be truncated or faulty
abbrev pub protocol_said : ℕ → Named
protocol_said n = if is_some (header_numbered n) then named.Either (term.Header n) (term.LeadsTo n) else named.Term (term.LeadsTo n)

-- the word w says n, as an identifier of this kind
abbrev pub Identifies : Kind → Direction → Word → Named → Type 0
Identifies kind.Side d w n = (a : Network) × IsNetworkText w a × (n ≡ network_said d a)
Identifies kind.Host d w n = (a : Network) × IsHostText w a × (n ≡ network_said d a)
Identifies kind.Network d w n = (a : Network) × IsNetworkOrFront w a × (n ≡ network_said d a)
Identifies kind.Ports d w n = (r : Ports) × (ports_of w ≡ Some r) × (n ≡ ports_said d r)
Identifies kind.Protocol d w n = (k : ℕ) × (protocol_of w ≡ Some k) × (n ≡ protocol_said k)

-- `net A mask M`: the word w is the address, and a mask follows it
abbrev pub IsMasked : Kind → Direction → Word → List Word → Named → Type 0
IsMasked k d w ws n =
    (m : Word) × (a len : ℕ) × (k ≡ kind.Network) × (ws ≡ codes "mask" ∷ m ∷ []) × IsFrontText w a × IsMaskText m len
    × (n ≡ network_said d (network.Ipv4 a len))

-- the word w and those after it say n, as an identifier of this kind
abbrev pub Identify : Kind → Direction → Word → List Word → Named → Type 0
Identify k d w ws n = ((ws ≡ []) × Identifies k d w n) ⊎ IsMasked k d w ws n

-- what is expected after a direction and `or` or `and`
abbrev pub wanted_side : Direction → Expected
wanted_side direction.Source = expects.Destination
wanted_side d = expects.Source

-- what is expected of an identifier
abbrev pub wanted : Kind → Expected
wanted kind.Side = expects.NetworkOrPort
wanted kind.Host = expects.Address
wanted kind.Network = expects.Network
wanted kind.Ports = expects.Ports
wanted kind.Protocol = expects.Protocol
