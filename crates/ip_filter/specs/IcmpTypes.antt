-- How a filter's text writes types of ICMP and ICMPv6: by their names in libpcap's expressions, or by their numbers in IANA's
-- registries.
use Rattle.std.specs.Prelude.{ℕ, Option, Some, None, codes, if◌then◌else◌}
use Rattle.std.specs.Option.{option_or}
use Rattle.std.specs.Str.{bytes_eq}
use Rattle.ip_filter.specs.Words.{Word}
use Rattle.ip_filter.specs.Numbers.{number_up_to}

-- messages of ICMP up to that of exceeded time (RFC 792; RFC 1256)
abbrev pub icmp_basic_type : Word → Option ℕ
icmp_basic_type w =
    if bytes_eq w (codes "icmp-echoreply") then Some 0
    else if bytes_eq w (codes "icmp-unreach") then Some 3
    else if bytes_eq w (codes "icmp-sourcequench") then Some 4
    else if bytes_eq w (codes "icmp-redirect") then Some 5
    else if bytes_eq w (codes "icmp-echo") then Some 8
    else if bytes_eq w (codes "icmp-routeradvert") then Some 9
    else if bytes_eq w (codes "icmp-routersolicit") then Some 10
    else if bytes_eq w (codes "icmp-timxceed") then Some 11
    else None

-- later ones (RFC 792; RFC 950)
abbrev pub icmp_later_type : Word → Option ℕ
icmp_later_type w =
    if bytes_eq w (codes "icmp-paramprob") then Some 12
    else if bytes_eq w (codes "icmp-tstamp") then Some 13
    else if bytes_eq w (codes "icmp-tstampreply") then Some 14
    else if bytes_eq w (codes "icmp-ireq") then Some 15
    else if bytes_eq w (codes "icmp-ireqreply") then Some 16
    else if bytes_eq w (codes "icmp-maskreq") then Some 17
    else if bytes_eq w (codes "icmp-maskreply") then Some 18
    else None

-- messages of ICMPv6 itself (RFC 4443), and of multicast listeners (RFC 2710)
abbrev pub icmp6_basic_type : Word → Option ℕ
icmp6_basic_type w =
    if bytes_eq w (codes "icmp6-destinationunreach") then Some 1
    else if bytes_eq w (codes "icmp6-packettoobig") then Some 2
    else if bytes_eq w (codes "icmp6-timeexceeded") then Some 3
    else if bytes_eq w (codes "icmp6-parameterproblem") then Some 4
    else if bytes_eq w (codes "icmp6-echo") then Some 128
    else if bytes_eq w (codes "icmp6-echoreply") then Some 129
    else if bytes_eq w (codes "icmp6-multicastlistenerquery") then Some 130
    else if bytes_eq w (codes "icmp6-multicastlistenerreportv1") then Some 131
    else if bytes_eq w (codes "icmp6-multicastlistenerdone") then Some 132
    else None

-- messages of neighbor discovery (RFC 4861; RFC 3122), of renumbering (RFC 2894), and about nodes (RFC 4620)
abbrev pub icmp6_neighbor_type : Word → Option ℕ
icmp6_neighbor_type w =
    if bytes_eq w (codes "icmp6-routersolicit") then Some 133
    else if bytes_eq w (codes "icmp6-routeradvert") then Some 134
    else if bytes_eq w (codes "icmp6-neighborsolicit") then Some 135
    else if bytes_eq w (codes "icmp6-neighboradvert") then Some 136
    else if bytes_eq w (codes "icmp6-redirect") then Some 137
    else if bytes_eq w (codes "icmp6-routerrenum") then Some 138
    else if bytes_eq w (codes "icmp6-nodeinformationquery") then Some 139
    else if bytes_eq w (codes "icmp6-nodeinformationresponse") then Some 140
    else if bytes_eq w (codes "icmp6-ineighbordiscoverysolicit") then Some 141
    else if bytes_eq w (codes "icmp6-ineighbordiscoveryadvert") then Some 142
    else None

-- later reports of multicast listeners (RFC 3810), and messages of mobile nodes (RFC 6275), of secured neighbor discovery
-- (RFC 3971) and of multicast routers (RFC 4286)
abbrev pub icmp6_later_type : Word → Option ℕ
icmp6_later_type w =
    if bytes_eq w (codes "icmp6-multicastlistenerreportv2") then Some 143
    else if bytes_eq w (codes "icmp6-homeagentdiscoveryrequest") then Some 144
    else if bytes_eq w (codes "icmp6-homeagentdiscoveryreply") then Some 145
    else if bytes_eq w (codes "icmp6-mobileprefixsolicit") then Some 146
    else if bytes_eq w (codes "icmp6-mobileprefixadvert") then Some 147
    else if bytes_eq w (codes "icmp6-certpathsolicit") then Some 148
    else if bytes_eq w (codes "icmp6-certpathadvert") then Some 149
    else if bytes_eq w (codes "icmp6-multicastrouteradvert") then Some 151
    else if bytes_eq w (codes "icmp6-multicastroutersolicit") then Some 152
    else if bytes_eq w (codes "icmp6-multicastrouterterm") then Some 153
    else None

-- a type of ICMP, and one of ICMPv6, by its name or number
abbrev pub icmp_type_of : Word → Option ℕ
icmp_type_of w = option_or (icmp_basic_type w) (option_or (icmp_later_type w) (number_up_to 255 w))

abbrev pub icmp6_type_of : Word → Option ℕ
icmp6_type_of w = option_or (icmp6_basic_type w) (option_or (icmp6_neighbor_type w) (option_or (icmp6_later_type w) (number_up_to 255 w)))
