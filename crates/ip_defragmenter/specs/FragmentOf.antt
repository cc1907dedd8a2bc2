-- The fragment that a packet is (RFC 791, sections 2.3 and 3.2; RFC 8200, section 4.5). An atomic fragment is none: it is
-- a packet by itself (RFC 6946).
use Rattle.std.specs.Prelude.{ℕ, ◌%◌, List, Bool, ◌++◌, ◌==◌, not, length, Option, Some, None, is_some, Result, Ok, Err, if◌then◌else◌}
use Rattle.std.specs.Option.{option_map, option_map_or}
use Rattle.std.specs.List.{find}
use Rattle.ip_base.specs.Ipv4Header.{ipv4_more_fragments, ipv4_fragment_offset, is_ipv4_fragmenting, protocol, ipv4_source_octets, ipv4_destination_octets}
use Rattle.ip_base.specs.BaseHeaderFields.{ipv4_ecn, ipv4_identification, ipv6_traffic_class}
use Rattle.ip_base.specs.Ipv6Header.{ipv6_source_octets, ipv6_destination_octets}
use Rattle.ip_spec.specs.Chain.{ExtHeader, bytes_of}
use Rattle.ip_spec.specs.Fields.{fragment_fields}
use Rattle.ip_dissect.specs.Fragment.{fragments}
use Rattle.ip_dissect.specs.Dissection.{DissectedParts}
use Rattle.ip_dissect.specs.End.{has_error}
use Rattle.ip_defragmenter.specs.Split.{before_fragment, after_fragment, link_after}
use Rattle.ip_defragmenter.specs.declared.err.FragmentError.{FragmentError}
use Rattle.ip_defragmenter.specs.declared.err.FragmentError.TheVariants.{Headers, NoLength, Missing}
use Rattle.ip_defragmenter.specs.declared.key.FragmentKey.{FragmentKey}
use Rattle.ip_defragmenter.specs.declared.key.FragmentKey.TheVariants as key
use Rattle.ip_defragmenter.specs.declared.fragment.IpFragment.{IpFragment}

-- A fragment: the key of its packet; the headers before it, but for the fragment header; the offset in them of the field
-- with the number of what follows them; the number of what the payload starts with; its ECN code point; its offset in units
-- of 8 bytes; whether more fragments follow; its bytes.
pub record FragmentParts : Type 0 where
  pub key : FragmentKey
  pub headers : List ℕ
  pub link : ℕ
  pub number : ℕ
  pub ecn : ℕ
  pub offset : ℕ
  pub more : Bool
  pub bytes : List ℕ

-- those of a fragment that is borrowed
abbrev pub parts_of : IpFragment → FragmentParts
parts_of f = record {
  key = f.key;
  headers = f.headers.now;
  link = f.link;
  number = f.next_header.0;
  ecn = f.ecn;
  offset = f.offset;
  more = f.more;
  bytes = f.bytes.now;
}

-- of an IPv4 packet: its base header says it
abbrev pub ipv4_fragment_parts : DissectedParts → Option FragmentParts
ipv4_fragment_parts p = if is_ipv4_fragmenting p.base then Some (record {
  key = key.Ipv4 (ipv4_source_octets p.base) (ipv4_destination_octets p.base) (record { 0 = protocol p.base }) (ipv4_identification p.base);
  headers = p.base;
  link = 9;
  number = protocol p.base;
  ecn = ipv4_ecn p.base;
  offset = ipv4_fragment_offset p.base;
  more = ipv4_more_fragments p.base;
  bytes = bytes_of p.headers ++ p.payload;
}) else None

-- of an IPv6 packet with this fragment header
abbrev pub ipv6_fragment_parts_by : DissectedParts → ExtHeader → FragmentParts
ipv6_fragment_parts_by p h = record {
  key = key.Ipv6 (ipv6_source_octets p.base) (ipv6_destination_octets p.base) (fragment_fields h.bytes).identification;
  headers = p.base ++ bytes_of (before_fragment p.headers);
  link = link_after (length p.base) (before_fragment p.headers);
  number = (fragment_fields h.bytes).next_header;
  ecn = ipv6_traffic_class p.base % 4;
  offset = (fragment_fields h.bytes).fragment_offset;
  more = (fragment_fields h.bytes).more_fragments;
  bytes = bytes_of (after_fragment p.headers) ++ p.payload;
}

-- of an IPv6 packet: its first fragment header that fragments the payload says it
abbrev pub ipv6_fragment_parts : DissectedParts → Option FragmentParts
ipv6_fragment_parts p = option_map (ipv6_fragment_parts_by p) (find fragments p.headers)

-- the fragment that the packet with the dissected parts p is
abbrev pub fragmented : DissectedParts → Option FragmentParts
fragmented p = if p.version == 4 then ipv4_fragment_parts p else if p.version == 6 then ipv6_fragment_parts p else None

-- why it can't be used: its headers end with an error (RFC 7112), it states no length, or bytes are missing
abbrev pub unusable : DissectedParts → Option FragmentError
unusable p =
    if has_error p.end then Some Headers
    else if not (is_some p.stated) then Some NoLength
    else if not (p.missing == 0) then Some Missing
    else None

-- the fragment f that the packet is, or why it can't be used
abbrev pub fragment_by : DissectedParts → FragmentParts → Result (Option FragmentParts) FragmentError
fragment_by p f = option_map_or Err (unusable p) (Ok (Some f))

unfoldable pub packet_fragment : DissectedParts → Result (Option FragmentParts) FragmentError
packet_fragment p = option_map_or (fragment_by p) (fragmented p) (Ok None)
