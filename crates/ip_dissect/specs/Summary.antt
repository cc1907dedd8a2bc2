-- The parts of a packet as lengths and numbers.
use Rattle.std.specs.Prelude.{◌≡◌, ℕ, Bool, List, [], length, drop, Option, None, true, false, is_some, ◌&&◌, not}
use Rattle.std.specs.Option.{option_map_or}
use Rattle.ip_base.specs.declared.ip_number_impl.IpNumber.{IpNumber}
use Rattle.ip_spec.specs.Chain.{bytes_of, is_empty}
use Rattle.ip_dissect.specs.Extent.{packet_bytes, after_base, missing_of}
use Rattle.ip_dissect.specs.End.{has_error}
use Rattle.ip_dissect.specs.Dissection.{DissectedParts, dissected, version_in, base_bytes}
use Rattle.ip_dissect.specs.declared.dissection.BaseHeader.{BaseHeader}
use Rattle.ip_dissect.specs.declared.end.End.{End}
use Rattle.ip_dissect.specs.declared.end.End.TheVariants as end
use Rattle.ip_dissect.specs.declared.summary.Summary.{Summary}

-- The headers end at a later fragment's payload.
abbrev pub is_later_end : End → Bool
is_later_end end.Payload = false
is_later_end end.LaterFragment = true
is_later_end (end.Truncated e header) = false
is_later_end (end.Fault e header) = false

-- the summary of the parts p
abbrev pub summary_of : DissectedParts → Summary
summary_of p = record {
  version = p.version;
  base_len = length p.base;
  stated_len = p.stated;
  extensions_len = length (bytes_of p.headers);
  header_count = length p.headers;
  next_header = record { 0 = p.number };
  payload_len = length p.payload;
  fragment = p.fragment;
  missing = p.missing;
  padding_len = length p.padding;
  is_later_fragment = is_later_end p.end;
  has_error = has_error p.end;
}

-- The packet has no extension headers, is no fragment, and its headers end without an error.
abbrev pub is_plain : DissectedParts → Bool
is_plain p = not (has_error p.end) && is_empty p.headers && not (is_some p.fragment)

-- the summary of such a packet of version v, whose base header b states the length t and leads to the number n, in bytes s
abbrev pub plain_summary : ℕ → List ℕ → Option ℕ → IpNumber → List ℕ → Summary
plain_summary v b t n s = record {
  version = v;
  base_len = length b;
  stated_len = t;
  extensions_len = 0;
  header_count = 0;
  next_header = n;
  payload_len = length (after_base b t s);
  fragment = None;
  missing = missing_of t (length s);
  padding_len = length (drop (length (packet_bytes b t s)) s);
  is_later_fragment = false;
  has_error = false;
}

-- Bytes s start with this base header, if with any.
pub record IsBaseOf (s : List ℕ) (b : Option BaseHeader) : Type 0 where
  pub version : option_map_or version_in b 0 ≡ (dissected s).version
  pub base : option_map_or base_bytes b [] ≡ (dissected s).base
