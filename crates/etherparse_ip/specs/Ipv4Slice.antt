-- The contents of an IPv4 packet.
use Rattle.ip_base.specs.Ipv4HeaderSlice as base
use Rattle.ip_ext_chains.specs.Ipv4ExtensionsSlice as exts
use Rattle.etherparse_ip.specs.Packet.{Parts}
use Rattle.etherparse_ip.specs.declared.ipv4_slice.Ipv4Slice.{Ipv4Slice}

-- its parts
abbrev pub ipv4_parts : Ipv4Slice → Parts
ipv4_parts x = record {
  base = base.bytes x.header;
  headers = exts.headers_in x.exts;
  payload = x.payload.payload.now;
  number = x.payload.ip_number.0;
  fragmented = x.payload.fragmented;
  source = x.payload.len_source;
}
