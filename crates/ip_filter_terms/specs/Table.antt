-- The terms of filters, by their indices; the file `terms` has them.
use Rattle.std.specs.Prelude.{ℕ, List, [], ◌∷◌, codes}

-- a term with its arguments, from index 0
abbrev pub terms : List (List ℕ)
terms =
    codes "fragment" ∷
    codes "first-fragment" ∷
    codes "later-fragment" ∷
    codes "header HEADER" ∷
    codes "leads-to PROTOCOL" ∷
    codes "tcp" ∷
    codes "udp" ∷
    codes "dccp" ∷
    codes "gre" ∷
    codes "esp" ∷
    codes "no-next" ∷
    codes "sctp" ∷
    codes "udp-lite" ∷
    codes "icmp" ∷
    codes "icmp6" ∷
    codes "headers OP N" ∷
    codes "chain-bytes OP N" ∷
    codes "payload OP N" ∷
    codes "length OP N" ∷
    codes "no-length" ∷
    codes "hop-limit OP N" ∷
    codes "ttl OP N" ∷
    codes "dscp OP N" ∷
    codes "ecn OP N" ∷
    codes "flow OP N" ∷
    codes "fault" ∷
    codes "fault KIND" ∷
    codes "fault KIND LAYER" ∷
    codes "truncated" ∷
    codes "truncated LAYER" ∷
    codes "incomplete" ∷
    codes "mismatched" ∷
    codes "less N" ∷
    codes "greater N" ∷
    codes "vlan" ∷
    codes "vlan N" ∷
    codes "arp" ∷
    codes "version N" ∷
    codes "ip" ∷
    codes "ip6" ∷
    codes "spi N" ∷
    codes "id N" ∷
    codes "routing-type N" ∷
    codes "segments-left OP N" ∷
    codes "option N" ∷
    codes "src NETWORK" ∷
    codes "dst NETWORK" ∷
    codes "net NETWORK" ∷
    codes "host ADDRESS" ∷
    codes "ip multicast" ∷
    codes "ip6 multicast" ∷
    codes "src port PORTS" ∷
    codes "dst port PORTS" ∷
    codes "port PORTS" ∷
    codes "portrange PORTS" ∷
    codes "proto PROTOCOL" ∷
    codes "no-transport" ∷
    codes "icmp-type TYPE" ∷
    codes "icmp6-type TYPE" ∷
    codes "icmp-code N" ∷
    codes "icmp6-code N" ∷
    codes "tcp-flags FLAGS" ∷
    []

-- what a term says, from index 0
abbrev pub term_meanings : List (List ℕ)
term_meanings =
    codes "the payload is a fragment" ∷
    codes "the payload is a first fragment" ∷
    codes "the payload is a middle or last fragment" ∷
    codes "the chain has this header" ∷
    codes "this number follows the chain" ∷
    codes "TCP (6) follows the chain" ∷
    codes "UDP (17) follows the chain" ∷
    codes "DCCP (33) follows the chain" ∷
    codes "GRE (47) follows the chain" ∷
    codes "ESP (50) follows the chain" ∷
    codes "no header (59) follows the chain" ∷
    codes "SCTP (132) follows the chain" ∷
    codes "UDP-Lite (136) follows the chain" ∷
    codes "ICMP (1) follows the chain of an IPv4 packet" ∷
    codes "ICMPv6 (58) follows that of an IPv6 packet" ∷
    codes "the number of headers in the chain" ∷
    codes "the length of the chain in bytes" ∷
    codes "the number of payload bytes captured" ∷
    codes "the length of the packet in bytes" ∷
    codes "the IP header states length 0" ∷
    codes "the hop limit, or the time to live of IPv4" ∷
    codes "as hop-limit" ∷
    codes "the differentiated services code point" ∷
    codes "the explicit congestion notification" ∷
    codes "the flow label of an IPv6 packet" ∷
    codes "the packet has an error" ∷
    codes "the packet has an error of this kind" ∷
    codes "the error is in this header or packet" ∷
    codes "a header is truncated" ∷
    codes "this header is truncated" ∷
    codes "bytes of the stated length are missing" ∷
    codes "IPv4 announced as IPv6, or the reverse" ∷
    codes "the frame has at most N bytes on the wire" ∷
    codes "the frame has at least N bytes on the wire" ∷
    codes "the frame has a VLAN tag" ∷
    codes "one of its first two tags has this number" ∷
    codes "the EtherType of the frame is that of ARP" ∷
    codes "the IP version, 4 or 6" ∷
    codes "as version 4" ∷
    codes "as version 6" ∷
    codes "the security parameters index of AH or ESP" ∷
    codes "the identification of the fragment" ∷
    codes "the type of a routing header" ∷
    codes "the segments left of a routing header" ∷
    codes "a hop-by-hop or destination option" ∷
    codes "the source address is in the network" ∷
    codes "the destination address is in the network" ∷
    codes "either address is in the network" ∷
    codes "either address is this one" ∷
    codes "the destination is in 224.0.0.0/3" ∷
    codes "the destination is in ff00::/8" ∷
    codes "the source port is one of these" ∷
    codes "the destination port is one of these" ∷
    codes "either port is one of these" ∷
    codes "as port" ∷
    codes "as leads-to, or the chain has the header" ∷
    codes "the upper-layer header is not all there" ∷
    codes "the type of an ICMP message of IPv4" ∷
    codes "the type of an ICMPv6 message of IPv6" ∷
    codes "the code of an ICMP message of IPv4" ∷
    codes "the code of an ICMPv6 message of IPv6" ∷
    codes "these flags of TCP are set" ∷
    []

-- an example of a term, from index 0
abbrev pub term_examples : List (List ℕ)
term_examples =
    codes "fragment" ∷
    codes "first-fragment" ∷
    codes "later-fragment" ∷
    codes "header 44" ∷
    codes "leads-to 135" ∷
    codes "tcp" ∷
    codes "udp" ∷
    codes "dccp" ∷
    codes "gre" ∷
    codes "esp" ∷
    codes "no-next" ∷
    codes "sctp" ∷
    codes "udp-lite" ∷
    codes "icmp" ∷
    codes "icmp6" ∷
    codes "headers > 2" ∷
    codes "chain-bytes >= 256" ∷
    codes "payload < 8" ∷
    codes "length > 1280" ∷
    codes "no-length" ∷
    codes "hop-limit = 255" ∷
    codes "ttl < 2" ∷
    codes "dscp = 46" ∷
    codes "ecn = 3" ∷
    codes "flow != 0" ∷
    codes "fault" ∷
    codes "fault too-short" ∷
    codes "fault too-short routing" ∷
    codes "truncated" ∷
    codes "truncated routing" ∷
    codes "incomplete" ∷
    codes "mismatched" ∷
    codes "less 64" ∷
    codes "greater 1500" ∷
    codes "vlan" ∷
    codes "vlan 100" ∷
    codes "arp" ∷
    codes "version 6" ∷
    codes "ip" ∷
    codes "ip6" ∷
    codes "spi 0x1000" ∷
    codes "id 7" ∷
    codes "routing-type 4" ∷
    codes "segments-left > 0" ∷
    codes "option 5" ∷
    codes "src 2001:db8::/32" ∷
    codes "dst 192.0.2.1" ∷
    codes "net 10.0.0.0/8" ∷
    codes "host 2001:db8::1" ∷
    codes "ip multicast" ∷
    codes "ip6 multicast" ∷
    codes "src port 1024-65535" ∷
    codes "dst port 443" ∷
    codes "port 53" ∷
    codes "portrange 1-1023" ∷
    codes "proto 44" ∷
    codes "no-transport" ∷
    codes "icmp-type icmp-echo" ∷
    codes "icmp6-type icmp6-echo" ∷
    codes "icmp-code 0" ∷
    codes "icmp6-code 0" ∷
    codes "tcp-flags syn/syn,ack" ∷
    []

-- an argument, from index 0
abbrev pub arguments : List (List ℕ)
arguments =
    codes "HEADER" ∷
    codes "PROTOCOL" ∷
    codes "OP" ∷
    codes "KIND" ∷
    codes "LAYER" ∷
    codes "TYPE" ∷
    codes "N" ∷
    codes "NETWORK" ∷
    codes "ADDRESS" ∷
    codes "PORTS" ∷
    codes "FLAGS" ∷
    []

-- what an argument may be, from index 0
abbrev pub argument_meanings : List (List ℕ)
argument_meanings =
    codes "hop-by-hop (0), routing (43), fragment (44), authentication (51), destination-options (60), in short hopopt (0), route (43), frag (44), ah (51), dstopts (60), or one of these numbers" ∷
    codes "a number from 0 to 255, a HEADER, or icmp (1), tcp (6), udp (17), dccp (33), gre (47), esp (50), icmp6 (58), no-next (59), sctp (132), udp-lite (136)" ∷
    codes "= == != < <= > >=" ∷
    codes "too-short, not-at-start, zero-length, unsupported-version, header-length" ∷
    codes "IP-header, IPv4-header, IPv4-packet, authentication, IPv6-header, IPv6-extension, hop-by-hop, destination-options, routing, fragment; IPv6-extension is any extension header of an IPv6 packet" ∷
    codes "a number from 0 to 255, or its name in libpcap's expressions, such as icmp-echo or icmp6-neighborsolicit" ∷
    codes "a decimal number, or a hexadecimal one after 0x" ∷
    codes "an IPv4 or IPv6 address, alone or with a slash and a number of bits; after net, also A mask M, or one to three numbers: net 192.168 is net 192.168.0.0/16" ∷
    codes "an IPv4 or IPv6 address" ∷
    codes "a number from 0 to 65535, or a range such as 1024-65535" ∷
    codes "fin, syn, rst, psh, ack, urg, ece, cwr, or several with commas between; all that count after a slash" ∷
    []

-- what holds of several terms, a paragraph, from index 0
abbrev pub term_notes : List (List ℕ)
term_notes =
    codes "After `leads-to`, `icmp` and `icmp6` are numbers of either version." ∷
    codes "A `fault` is too-short with IPv4-packet or an extension header, not-at-start with hop-by-hop, zero-length with authentication, unsupported-version with IP-header, or header-length with IPv4-header; IPv6-extension may follow the first three. IP-header, IPv4-header, IPv6-header and extension headers can be truncated." ∷
    codes "`length` is what is there where none is stated. A jumbo payload option doesn't count for `no-length`." ∷
    codes "TCP, UDP, UDP-Lite, SCTP and DCCP have ports. Ports, types, codes and flags of TCP are read from the payload, so extension headers may precede them. A later fragment has none, nor has a packet with an error or a truncated header. The terms about fragments hold of an IPv6 packet if they do of one of its fragment headers." ∷
    codes "`no-transport` asks for the header of TCP up to its data offset, of DCCP likewise, of SCTP (12 bytes), of UDP, UDP-Lite and ICMP after IPv4 (8 bytes) and of ICMPv6 after IPv6 (4 bytes). It holds of a first fragment that has less of it (RFC 7112), and of a packet whose data offset is too small." ∷
    codes "`mismatched`, `less`, `greater`, `vlan` and `arp` ask the frame, of which a match may be told. Of a packet alone, `less` and `greater` ask the length as `length` does, and the others are false." ∷
    codes "As in tcpdump's expressions, `host`, `net`, `port` or `portrange` may follow `src` and `dst`, and `ip`, `ip6` or the name of a protocol may precede `src`, `dst` and these: `tcp src port 80` is `( tcp and src port 80 )`, of two terms. `src or dst` is either one, and `src and dst port 53` is `( src port 53 and dst port 53 )`. An address, prefix, port or protocol alone takes the words of the term before it: `tcp port 80 or 443` is `tcp port 80 or tcp port 443`." ∷
    codes "An access compares bytes of the packet, as in tcpdump's expressions: `tcp[13] & 2 != 0`, `ip[6:2] & 0x1fff = 0`. `NAME[I]`, `NAME[I:2]` and `NAME[I:4]` are the number in 1, 2 or 4 bytes at offset I, in network byte order. NAME is `ip` or `ip6`, with offsets from the IP header of this version, or the name of a protocol, with offsets from its header, which extension headers may precede. `& BITS` may follow, and then OP and BITS: a number of 32 bits, a name, or several in parentheses with `|` between them, as in `tcp[tcpflags] & (tcp-syn|tcp-ack) != 0`. The names are tcp-fin, tcp-syn, tcp-rst, tcp-push, tcp-ack, tcp-urg, tcp-ece, tcp-cwr and those of types; icmptype, icmpcode, icmp6type, icmp6code and tcpflags are offsets. An access is false, also with `!=`, if not all of its bytes are in the packet, or if the protocol's header is in an earlier fragment." ∷
    codes "Terms are joined by `not`, `and` and `or`, or `!`, `&&` and `||`, and by parentheses. `not` binds most tightly, then `and`. White space separates words. There may be up to 64 terms and 16 levels of parentheses." ∷
    []
