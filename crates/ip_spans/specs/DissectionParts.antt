-- A dissected packet, in plain fields for C callers.
use Rattle.std.specs.Prelude.{◌≡◌, ℕ, ◌+◌, List, length}
use Rattle.std.specs.Option.{option_map_or}
use Rattle.ip_spec.specs.Chain.{bytes_of}
use Rattle.ip_dissect.specs.Dissection.{DissectedParts, dissected}
use Rattle.ip_dissect.specs.declared.end.End.{End}
use Rattle.ip_dissect.specs.declared.end.End.TheVariants.{Payload, LaterFragment, Truncated, Fault}
use Rattle.ip_codes.specs.Codes.{header_code, fragment_code, end_code}
use Rattle.ip_spans.specs.HeaderSpan.{spans_from, filled}
use Rattle.ip_spans.specs.FaultFields.{no_fault, len_fields, packet_fault_fields}
use Rattle.ip_spans.specs.declared.header_span.HeaderSpan.{HeaderSpan}
use Rattle.ip_spans.specs.declared.fault_fields.FaultFields.{FaultFields}
use Rattle.ip_spans.specs.declared.dissection_parts.DissectionParts.{DissectionParts}
use Rattle.ip_spans.specs.declared.dissection_parts.PartsAndSpans.{PartsAndSpans}

-- the error at an end, with the extension header that it is in, which is at offset k
abbrev pub end_fields : ℕ → End → FaultFields
end_fields k Payload = no_fault
end_fields k LaterFragment = no_fault
end_fields k (Truncated e header) = len_fields (header_code header) e
end_fields k (Fault e header) = record (packet_fault_fields k e) { header = header_code header }

-- A length, a number or an offset that isn't there is 0.
abbrev pub dissection_parts : DissectedParts → DissectionParts
dissection_parts p = record {
  base_len = length p.base;
  stated_len = option_map_or (λ t. t) p.stated 0;
  headers = length p.headers;
  payload_offset = length p.base + length (bytes_of p.headers);
  payload_len = length p.payload;
  missing = p.missing;
  padding = length p.padding;
  fault = end_fields (length p.base + length (bytes_of p.headers)) p.end;
  identification = option_map_or (λ x. x.identification) p.fragment 0;
  fragment_offset = option_map_or (λ x. x.offset) p.fragment 0;
  version = p.version;
  payload_number = p.number;
  fragment = fragment_code p.fragment;
  end = end_code p.end;
}

-- the spans of the extension headers
abbrev pub dissected_spans : DissectedParts → List HeaderSpan
dissected_spans p = spans_from (length p.base) p.headers

-- A visit of bytes s stored their parts and the spans of their headers: the struct new has the same references as old.
pub record AreStored (old : PartsAndSpans) (s : List ℕ) (new : PartsAndSpans) : Type 0 where
  pub same_parts : new.parts.ghost_name ≡ old.parts.ghost_name
  pub same_spans : new.spans.ghost_name ≡ old.spans.ghost_name
  pub parts : new.parts.now ≡ dissection_parts (dissected s)
  pub spans : new.spans.now ≡ filled (dissected_spans (dissected s)) old.spans.now
  pub within : new.parts.now.payload_offset + new.parts.now.payload_len + new.parts.now.padding ≡ length s
