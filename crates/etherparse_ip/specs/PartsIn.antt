-- The parts of the packet at the start of bytes s, computed from s alone.
use Rattle.std.specs.Prelude.{ℕ, List, length, take}
use Rattle.ip_base.specs.Ipv4Header.{ipv4_header_len, protocol, is_ipv4_fragmenting}
use Rattle.ip_base.specs.Ipv6Header.{payload_length, ipv6_next_header}
use Rattle.ip_spec.specs.Chain.{leads_to, has_fragmenting}
use Rattle.ip_spec.specs.Parse.{rest_after}
use Rattle.ip_ext_slices.specs.Longest.{longest_chain}
use Rattle.ip_ext_slices.specs.Ipv4Longest.{longest_ipv4_chain}
use Rattle.etherparse_ip.specs.LenSources.{ipv4_len_source, ipv6_len_source}
use Rattle.etherparse_ip.specs.Packet.{Parts}
use Rattle.etherparse_ip.specs.PacketFault.{ipv4_after, ipv6_after}

-- of an IPv4 packet
abbrev pub ipv4_parts_in : List ℕ → Parts
ipv4_parts_in s =
    let after_base = ipv4_after s in
    let headers = longest_ipv4_chain (protocol s) after_base in
    record {
      base = take (ipv4_header_len s) s;
      headers = headers;
      payload = rest_after headers after_base;
      number = leads_to (protocol s) headers;
      fragmented = is_ipv4_fragmenting s;
      source = ipv4_len_source;
    }

-- of an IPv6 packet
abbrev pub ipv6_parts_in : List ℕ → Parts
ipv6_parts_in s =
    let after_base = ipv6_after s in
    let headers = longest_chain (ipv6_next_header s) after_base in
    record {
      base = take 40 s;
      headers = headers;
      payload = rest_after headers after_base;
      number = leads_to (ipv6_next_header s) headers;
      fragmented = has_fragmenting headers;
      source = ipv6_len_source (payload_length s) (length s);
    }
