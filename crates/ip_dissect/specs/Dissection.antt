-- The parts of the packet at the start of bytes.
use Rattle.std.specs.Prelude.{◌≡◌, ℕ, List, [], length, take, drop, Option, None, ◌==◌, if◌then◌else◌}
use Rattle.std.specs.Option.{option_map_or}
use Rattle.ip_spec.specs.Numbers.{NO_NEXT_HEADER}
use Rattle.ip_spec.specs.Chain.{ExtHeader, leads_to, bytes_of}
use Rattle.ip_spec.specs.Parse.{rest_after}
use Rattle.ip_base.specs.Ipv4HeaderSlice as ipv4_header
use Rattle.ip_base.specs.Ipv6HeaderSlice as ipv6_header
use Rattle.ip_base.specs.Ipv4Header.{version, ipv4_header_len, protocol}
use Rattle.ip_base.specs.Ipv6Header.{ipv6_next_header}
use Rattle.ip_dissect.specs.Fragment.{ipv4_fragment, ipv6_fragment}
use Rattle.ip_dissect.specs.Extent.{packet_bytes, after_base, missing_of, ipv4_stated, ipv6_stated, ipv4_chain, ipv6_chain}
use Rattle.ip_dissect.specs.End.{base_end, ipv4_end, ipv6_end}
use Rattle.ip_dissect.specs.declared.fragment.Fragment.{Fragment}
use Rattle.ip_dissect.specs.declared.dissection.BaseHeader.{BaseHeader}
use Rattle.ip_dissect.specs.declared.dissection.BaseHeader.TheVariants.{Ipv4, Ipv6}
use Rattle.ip_dissect.specs.declared.dissection.Dissection.{Dissection}
use Rattle.ip_dissect.specs.declared.end.End.{End}

-- The parts of a packet: its version, base header, stated length and extension headers, the number and the bytes after
-- them, which fragment it is, how many stated bytes are missing, the bytes after the packet, and why the headers end.
pub record DissectedParts : Type 0 where
  pub version : ℕ
  pub base : List ℕ
  pub stated : Option ℕ
  pub headers : List ExtHeader
  pub number : ℕ
  pub payload : List ℕ
  pub fragment : Option Fragment
  pub missing : ℕ
  pub padding : List ℕ
  pub end : End

-- Bytes s don't start with a base header, for the reason e. Then all of them are padding.
abbrev pub without_base : List ℕ → End → DissectedParts
without_base s e = record {
  version = 0;
  base = [];
  stated = None;
  headers = [];
  number = NO_NEXT_HEADER;
  payload = [];
  fragment = None;
  missing = 0;
  padding = s;
  end = e;
}

-- Bytes s start with the base header b of version v, which states the length t; c are the extension headers after it,
-- from number n.
abbrev pub with_base : ℕ → List ℕ → List ℕ → Option ℕ → ℕ → List ExtHeader → Option Fragment → End → DissectedParts
with_base v b s t n c f e = record {
  version = v;
  base = b;
  stated = t;
  headers = c;
  number = leads_to n c;
  payload = rest_after c (after_base b t s);
  fragment = f;
  missing = missing_of t (length s);
  padding = drop (length (packet_bytes b t s)) s;
  end = e;
}

-- Bytes s start with the IPv4 base header b, or the IPv6 one.
abbrev pub ipv4_dissected : List ℕ → List ℕ → DissectedParts
ipv4_dissected b s = with_base 4 b s (ipv4_stated b) (protocol b) (ipv4_chain b s) (ipv4_fragment b) (ipv4_end b s)

abbrev pub ipv6_dissected : List ℕ → List ℕ → DissectedParts
ipv6_dissected b s =
    with_base 6 b s (ipv6_stated b) (ipv6_next_header b) (ipv6_chain b s) (ipv6_fragment (ipv6_chain b s)) (ipv6_end b s)

-- the parts of the packet at the start of bytes s
unfoldable pub dissected : List ℕ → DissectedParts
dissected s =
    option_map_or (without_base s) (base_end s)
    (if version s == 4 then ipv4_dissected (take (ipv4_header_len s) s) s else ipv6_dissected (take 40 s) s)

-- the version and the bytes of a base header
abbrev pub version_in : BaseHeader → ℕ
version_in (Ipv4 h) = 4
version_in (Ipv6 h) = 6

abbrev pub base_bytes : BaseHeader → List ℕ
base_bytes (Ipv4 h) = ipv4_header.bytes h
base_bytes (Ipv6 h) = ipv6_header.bytes h

-- those of a dissection: 0 and none without a base header
abbrev pub version_of : Dissection → ℕ
version_of d = option_map_or version_in d.base 0

abbrev pub base_of : Dissection → List ℕ
base_of d = option_map_or base_bytes d.base []

-- The dissection d has the parts p.
pub record HasParts (p : DissectedParts) (d : Dissection) : Type 0 where
  pub version : version_of d ≡ p.version
  pub base : base_of d ≡ p.base
  pub stated : d.stated_len ≡ p.stated
  pub extensions : d.extensions.now ≡ bytes_of p.headers
  pub count : d.header_count ≡ length p.headers
  pub number : d.next_header.0 ≡ p.number
  pub payload : d.payload.now ≡ p.payload
  pub fragment : d.fragment ≡ p.fragment
  pub missing : d.missing ≡ p.missing
  pub padding : d.padding.now ≡ p.padding
  pub end : d.end ≡ p.end
