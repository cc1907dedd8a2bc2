-- The contents of an IPv6 packet.
use Rattle.ip_base.specs.Ipv6HeaderSlice as base
use Rattle.ip_ext_slices.specs.Ipv6ExtensionsSlice as exts
use Rattle.etherparse_ip.specs.Packet.{Parts}
use Rattle.etherparse_ip.specs.declared.ipv6_slice.Ipv6Slice.{Ipv6Slice}

-- its parts
abbrev pub ipv6_parts : Ipv6Slice → Parts
ipv6_parts x = record {
  base = base.bytes x.header;
  headers = exts.headers_in x.exts;
  payload = x.payload.payload.now;
  number = x.payload.ip_number.0;
  fragmented = x.payload.fragmented;
  source = x.payload.len_source;
}
