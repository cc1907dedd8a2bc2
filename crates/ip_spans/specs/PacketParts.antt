-- A packet parsed, in plain fields for C callers.
use Rattle.std.specs.Prelude.{◌≡◌, ◌==◌, ℕ, ◌+◌, List, length, Option, if◌then◌else◌}
use Rattle.std.specs.Option.{option_map}
use Rattle.ip_spec.specs.Chain.{bytes_of}
use Rattle.ip_base.specs.Ipv4Header.{version}
use Rattle.etherparse_ip.specs.Packet.{Parts}
use Rattle.etherparse_ip.specs.PartsIn.{ipv4_parts_in, ipv6_parts_in}
use Rattle.etherparse_ip.specs.PacketFault.{ip_fault, ipv6_lax_fault}
use Rattle.ip_spans.specs.HeaderSpan.{spans_from, filled}
use Rattle.ip_spans.specs.ChainParts.{flag}
use Rattle.ip_spans.specs.FaultFields.{packet_fault_fields, ipv6_fault_fields}
use Rattle.ip_codes.specs.Codes.{len_source_code}
use Rattle.ip_spans.specs.declared.header_span.HeaderSpan.{HeaderSpan}
use Rattle.ip_spans.specs.declared.packet_parts.PacketParts.{PacketParts}
use Rattle.ip_spans.specs.declared.payload_span.PayloadSpan.{PayloadSpan}
use Rattle.ip_spans.specs.declared.fault_fields.FaultFields.{FaultFields}

-- the packet of this version with these parts
abbrev pub packet_parts : ℕ → Parts → PacketParts
packet_parts version p = record {
  base_len = length p.base;
  headers = length p.headers;
  payload_offset = length p.base + length (bytes_of p.headers);
  payload_len = length p.payload;
  version = version;
  payload_number = p.number;
  fragmented = flag p.fragmented;
  len_source = len_source_code p.source;
}

-- the spans of its extension headers
abbrev pub packet_spans : Parts → List HeaderSpan
packet_spans p = spans_from (length p.base) p.headers

-- its payload, and where the extension headers and the payload start
abbrev pub payload_span : ℕ → Parts → PayloadSpan
payload_span version p = record {
  base_len = length p.base;
  offset = length p.base + length (bytes_of p.headers);
  len = length p.payload;
  version = version;
  number = p.number;
  fragmented = flag p.fragmented;
  len_source = len_source_code p.source;
}

-- the error for bytes s that don't start with a packet; the offset of a faulty extension header is 0
abbrev pub ip_fault_fields : List ℕ → Option FaultFields
ip_fault_fields s = option_map (packet_fault_fields 0) (ip_fault s)

-- the error if an IPv6 packet may be truncated
abbrev pub lax_ip_fault_fields : List ℕ → Option FaultFields
lax_ip_fault_fields s = if version s == 6 then option_map ipv6_fault_fields (ipv6_lax_fault s) else ip_fault_fields s

-- the parts of the packet at the start of s
abbrev pub parts_in : List ℕ → Parts
parts_in s = if version s == 4 then ipv4_parts_in s else ipv6_parts_in s

-- These are the fields of the packet at the start of s, and the spans of its extension headers are stored in the
-- array.
pub record IsPacketParts (s : List ℕ) (old : List HeaderSpan) (parts : PacketParts) (new : List HeaderSpan) : Type 0 where
  pub fields : parts ≡ packet_parts (version s) (parts_in s)
  pub spans : new ≡ filled (packet_spans (parts_in s)) old
