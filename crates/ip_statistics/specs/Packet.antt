-- What one packet counts.
use Rattle.std.specs.Prelude.{ℕ, ◌+◌, ◌*◌, ◌==◌, ◌&&◌, not, min, length, Bool, Option, if◌then◌else◌}
use Rattle.ip_spec.specs.Chain.{bytes_of}
use Rattle.ip_dissect.specs.Dissection.{DissectedParts}
use Rattle.ip_dissect.specs.End.{has_error}
use Rattle.ip_dissect.specs.declared.fragment.Fragment.{Fragment}
use Rattle.ip_dissect.specs.declared.fragment.FragmentKind.{FragmentKind}
use Rattle.ip_dissect.specs.declared.fragment.FragmentKind.TheVariants.{Atomic, First, Middle, Last}
use Rattle.ip_dissect.specs.declared.end.End.{End}
use Rattle.ip_dissect.specs.declared.end.End.TheVariants.{Payload, LaterFragment, Truncated, Fault}
use Rattle.ip_codes.specs.Codes.{error_kind, header_code, kind_code, fragment_code, end_code}
use Rattle.ip_codes.specs.EndLayer.{end_layer}
use Rattle.ip_statistics.specs.Counts.{each_below, one_if}
use Rattle.ip_statistics.specs.HeaderCounts.{number_counts}
use Rattle.ip_statistics.specs.Lengths.{is_for_length}
use Rattle.ip_statistics.specs.declared.statistics.Statistics.{Statistics}

-- the codes of ends
abbrev pub AT_PAYLOAD : ℕ
AT_PAYLOAD = 0

abbrev pub AT_LATER_FRAGMENT : ℕ
AT_LATER_FRAGMENT = 1

abbrev pub AT_TRUNCATED_HEADER : ℕ
AT_TRUNCATED_HEADER = 2

abbrev pub AT_FAULT : ℕ
AT_FAULT = 3

-- the code of the layer of a header that is truncated or faulty, and 0 if none is
abbrev pub faulty_layer : End → ℕ
faulty_layer e = header_code (end_layer e)

-- the place of a fault's count, by its kind and its layer
abbrev pub fault_index : End → ℕ
fault_index Payload = 0
fault_index LaterFragment = 0
fault_index (Truncated e header) = 0
fault_index (Fault e header) = 16 * error_kind e + faulty_layer (Fault e header)

-- the fragment is of this kind
abbrev pub is_fragment_of : FragmentKind → Option Fragment → Bool
is_fragment_of kind f = fragment_code f == kind_code kind

-- The packet with the parts p. It has a chain if it has a base header. The payload of a later fragment continues that of
-- another one, so its number is counted apart.
abbrev pub counts_of : DissectedParts → Statistics
counts_of p = record {
  packets = 1;
  without_header = one_if (p.version == 0);
  ipv4 = one_if (p.version == 4);
  ipv6 = one_if (p.version == 6);
  at_payload = one_if (end_code p.end == AT_PAYLOAD);
  at_later_fragment = one_if (end_code p.end == AT_LATER_FRAGMENT);
  at_truncated_header = one_if (end_code p.end == AT_TRUNCATED_HEADER);
  at_fault = one_if (end_code p.end == AT_FAULT);
  atomic_fragments = one_if (is_fragment_of Atomic p.fragment);
  first_fragments = one_if (is_fragment_of First p.fragment);
  middle_fragments = one_if (is_fragment_of Middle p.fragment);
  last_fragments = one_if (is_fragment_of Last p.fragment);
  incomplete = one_if (not (p.missing == 0));
  payload_bytes = if has_error p.end then 0 else length p.payload;
  chain_headers = each_below 17 (λ i. one_if (not (p.version == 0) && (min (length p.headers) 16 == i)));
  chain_bytes = each_below 73 (λ i. one_if (not (p.version == 0) && is_for_length i (length (bytes_of p.headers))));
  headers = number_counts p.headers;
  payload_numbers = each_below 256 (λ n. one_if ((end_code p.end == AT_PAYLOAD) && (p.number == n)));
  later_fragment_numbers = each_below 256 (λ n. one_if ((end_code p.end == AT_LATER_FRAGMENT) && (p.number == n)));
  truncated_headers = each_below 16 (λ l. one_if ((end_code p.end == AT_TRUNCATED_HEADER) && (faulty_layer p.end == l)));
  faults = each_below 128 (λ i. one_if ((end_code p.end == AT_FAULT) && (fault_index p.end == i)));
}
