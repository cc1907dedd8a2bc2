-- The names of codes and of protocol numbers, each followed by a 0 byte, as C expects of a text.
use Rattle.std.specs.Prelude.{ℕ, List, [], ◌∷◌, ◌++◌, codes, slice_index_or}
use Rattle.ip_base.specs.Names.{layer_name, len_source_name}
use Rattle.ip_base.specs.declared.err.layer.Layer.TheVariants.{IpHeader, Ipv4Header, Ipv4Packet, IpAuthHeader, Ipv6Header, Ipv6Packet, Ipv6ExtHeader, Ipv6HopByHopHeader, Ipv6DestOptionsHeader, Ipv6RouteHeader, Ipv6FragHeader, Icmpv4}
use Rattle.ip_base.specs.declared.len_source.LenSource.TheVariants.{Slice, Ipv4HeaderTotalLen, Ipv6HeaderPayloadLen}

-- entry n of the names, which is empty beyond their end, and a 0
abbrev pub name_in : List (List ℕ) → ℕ → List ℕ
name_in names n = slice_index_or names n [] ++ 0 ∷ []

-- the kinds of errors, from 0; no error has the empty name
abbrev pub kind_names : List (List ℕ)
kind_names =
    [] ∷
    codes "TooShort" ∷
    codes "HopByHopNotAtStart" ∷
    codes "ZeroPayloadLen" ∷
    codes "UnsupportedIpVersion" ∷
    codes "Ipv4HeaderLength" ∷
    []

-- the layers in the order of their codes, after the empty name of no layer
abbrev pub layer_names : List (List ℕ)
layer_names =
    [] ∷
    layer_name IpHeader ∷
    layer_name Ipv4Header ∷
    layer_name Ipv4Packet ∷
    layer_name IpAuthHeader ∷
    layer_name Ipv6Header ∷
    layer_name Ipv6Packet ∷
    layer_name Ipv6ExtHeader ∷
    layer_name Ipv6HopByHopHeader ∷
    layer_name Ipv6DestOptionsHeader ∷
    layer_name Ipv6RouteHeader ∷
    layer_name Ipv6FragHeader ∷
    layer_name Icmpv4 ∷
    []

-- the length sources in the order of their codes, after the empty name of no source
abbrev pub len_source_names : List (List ℕ)
len_source_names =
    [] ∷
    len_source_name Slice ∷
    len_source_name Ipv4HeaderTotalLen ∷
    len_source_name Ipv6HeaderPayloadLen ∷
    []

-- the keywords of the protocol numbers, from 0, ten in a row (IANA, Assigned Internet Protocol Numbers); a number
-- without a keyword has the empty name
abbrev pub number_names : List (List ℕ)
number_names =
    codes "HOPOPT" ∷ codes "ICMP" ∷ codes "IGMP" ∷ codes "GGP" ∷ codes "IPv4" ∷ codes "ST" ∷ codes "TCP" ∷ codes "CBT" ∷ codes "EGP" ∷ codes "IGP" ∷
    codes "BBN-RCC-MON" ∷ codes "NVP-II" ∷ codes "PUP" ∷ codes "ARGUS" ∷ codes "EMCON" ∷ codes "XNET" ∷ codes "CHAOS" ∷ codes "UDP" ∷ codes "MUX" ∷ codes "DCN-MEAS" ∷
    codes "HMP" ∷ codes "PRM" ∷ codes "XNS-IDP" ∷ codes "TRUNK-1" ∷ codes "TRUNK-2" ∷ codes "LEAF-1" ∷ codes "LEAF-2" ∷ codes "RDP" ∷ codes "IRTP" ∷ codes "ISO-TP4" ∷
    codes "NETBLT" ∷ codes "MFE-NSP" ∷ codes "MERIT-INP" ∷ codes "DCCP" ∷ codes "3PC" ∷ codes "IDPR" ∷ codes "XTP" ∷ codes "DDP" ∷ codes "IDPR-CMTP" ∷ codes "TP++" ∷
    codes "IL" ∷ codes "IPv6" ∷ codes "SDRP" ∷ codes "IPv6-Route" ∷ codes "IPv6-Frag" ∷ codes "IDRP" ∷ codes "RSVP" ∷ codes "GRE" ∷ codes "DSR" ∷ codes "BNA" ∷
    codes "ESP" ∷ codes "AH" ∷ codes "I-NLSP" ∷ codes "SWIPE" ∷ codes "NARP" ∷ codes "Min-IPv4" ∷ codes "TLSP" ∷ codes "SKIP" ∷ codes "IPv6-ICMP" ∷ codes "IPv6-NoNxt" ∷
    codes "IPv6-Opts" ∷ [] ∷ codes "CFTP" ∷ [] ∷ codes "SAT-EXPAK" ∷ codes "KRYPTOLAN" ∷ codes "RVD" ∷ codes "IPPC" ∷ [] ∷ codes "SAT-MON" ∷
    codes "VISA" ∷ codes "IPCV" ∷ codes "CPNX" ∷ codes "CPHB" ∷ codes "WSN" ∷ codes "PVP" ∷ codes "BR-SAT-MON" ∷ codes "SUN-ND" ∷ codes "WB-MON" ∷ codes "WB-EXPAK" ∷
    codes "ISO-IP" ∷ codes "VMTP" ∷ codes "SECURE-VMTP" ∷ codes "VINES" ∷ codes "IPTM" ∷ codes "NSFNET-IGP" ∷ codes "DGP" ∷ codes "TCF" ∷ codes "EIGRP" ∷ codes "OSPFIGP" ∷
    codes "Sprite-RPC" ∷ codes "LARP" ∷ codes "MTP" ∷ codes "AX.25" ∷ codes "IPIP" ∷ codes "MICP" ∷ codes "SCC-SP" ∷ codes "ETHERIP" ∷ codes "ENCAP" ∷ [] ∷
    codes "GMTP" ∷ codes "IFMP" ∷ codes "PNNI" ∷ codes "PIM" ∷ codes "ARIS" ∷ codes "SCPS" ∷ codes "QNX" ∷ codes "A/N" ∷ codes "IPComp" ∷ codes "SNP" ∷
    codes "Compaq-Peer" ∷ codes "IPX-in-IP" ∷ codes "VRRP" ∷ codes "PGM" ∷ [] ∷ codes "L2TP" ∷ codes "DDX" ∷ codes "IATP" ∷ codes "STP" ∷ codes "SRP" ∷
    codes "UTI" ∷ codes "SMP" ∷ codes "SM" ∷ codes "PTP" ∷ codes "ISIS over IPv4" ∷ codes "FIRE" ∷ codes "CRTP" ∷ codes "CRUDP" ∷ codes "SSCOPMCE" ∷ codes "IPLT" ∷
    codes "SPS" ∷ codes "PIPE" ∷ codes "SCTP" ∷ codes "FC" ∷ codes "RSVP-E2E-IGNORE" ∷ codes "Mobility Header" ∷ codes "UDPLite" ∷ codes "MPLS-in-IP" ∷ codes "manet" ∷ codes "HIP" ∷
    codes "Shim6" ∷ codes "WESP" ∷ codes "ROHC" ∷ codes "Ethernet" ∷ codes "AGGFRAG" ∷ codes "NSH" ∷ codes "Homa" ∷ codes "BIT-EMU" ∷
    []
