-- The words for codes and protocol numbers in filters and in what programs print.
use Rattle.std.specs.Prelude.{ℕ, List, [], ◌∷◌, codes}

-- the kinds of errors, from 0; no error has the empty word
abbrev pub kind_words : List (List ℕ)
kind_words =
    [] ∷
    codes "too-short" ∷
    codes "not-at-start" ∷
    codes "zero-length" ∷
    codes "unsupported-version" ∷
    codes "header-length" ∷
    []

-- the layers in the order of their codes, after the empty word of no layer
abbrev pub layer_words : List (List ℕ)
layer_words =
    [] ∷
    codes "IP-header" ∷
    codes "IPv4-header" ∷
    codes "IPv4-packet" ∷
    codes "authentication" ∷
    codes "IPv6-header" ∷
    codes "IPv6-packet" ∷
    codes "IPv6-extension" ∷
    codes "hop-by-hop" ∷
    codes "destination-options" ∷
    codes "routing" ∷
    codes "fragment" ∷
    []

-- the protocol numbers, from 0, ten in a row: the word of its layer for an extension header, else a short name
abbrev pub number_words : List (List ℕ)
number_words =
    codes "hop-by-hop" ∷ codes "ICMP" ∷ codes "IGMP" ∷ [] ∷ codes "IPv4" ∷ [] ∷ codes "TCP" ∷ [] ∷ [] ∷ [] ∷
    [] ∷ [] ∷ [] ∷ [] ∷ [] ∷ [] ∷ [] ∷ codes "UDP" ∷ [] ∷ [] ∷
    [] ∷ [] ∷ [] ∷ [] ∷ [] ∷ [] ∷ [] ∷ [] ∷ [] ∷ [] ∷
    [] ∷ [] ∷ [] ∷ codes "DCCP" ∷ [] ∷ [] ∷ [] ∷ [] ∷ [] ∷ [] ∷
    [] ∷ codes "IPv6" ∷ [] ∷ codes "routing" ∷ codes "fragment" ∷ [] ∷ codes "RSVP" ∷ codes "GRE" ∷ [] ∷ [] ∷
    codes "ESP" ∷ codes "authentication" ∷ [] ∷ [] ∷ [] ∷ [] ∷ [] ∷ [] ∷ codes "ICMPv6" ∷ codes "no-next" ∷
    codes "destination-options" ∷ [] ∷ [] ∷ [] ∷ [] ∷ [] ∷ [] ∷ [] ∷ [] ∷ [] ∷
    [] ∷ [] ∷ [] ∷ [] ∷ [] ∷ [] ∷ [] ∷ [] ∷ [] ∷ [] ∷
    [] ∷ [] ∷ [] ∷ [] ∷ [] ∷ [] ∷ [] ∷ [] ∷ codes "EIGRP" ∷ codes "OSPF" ∷
    [] ∷ [] ∷ [] ∷ [] ∷ [] ∷ [] ∷ [] ∷ codes "EtherIP" ∷ [] ∷ [] ∷
    [] ∷ [] ∷ [] ∷ codes "PIM" ∷ [] ∷ [] ∷ [] ∷ [] ∷ codes "IPComp" ∷ [] ∷
    [] ∷ [] ∷ codes "VRRP" ∷ [] ∷ [] ∷ codes "L2TP" ∷ [] ∷ [] ∷ [] ∷ [] ∷
    [] ∷ [] ∷ [] ∷ [] ∷ [] ∷ [] ∷ [] ∷ [] ∷ [] ∷ [] ∷
    [] ∷ [] ∷ codes "SCTP" ∷ [] ∷ [] ∷ codes "mobility" ∷ codes "UDPLite" ∷ codes "MPLS" ∷ [] ∷ codes "HIP" ∷
    codes "shim6" ∷ [] ∷ [] ∷ codes "Ethernet" ∷
    []
