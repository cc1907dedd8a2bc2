-- Statistics of no packets, and sums of statistics.
use Rattle.std.specs.Prelude.{replicate}
use Rattle.ip_statistics.specs.Counts.{added, all_added}
use Rattle.ip_statistics.specs.declared.statistics.Statistics.{Statistics}

-- no packets
abbrev pub nothing : Statistics
nothing = record {
  packets = 0;
  without_header = 0;
  ipv4 = 0;
  ipv6 = 0;
  at_payload = 0;
  at_later_fragment = 0;
  at_truncated_header = 0;
  at_fault = 0;
  atomic_fragments = 0;
  first_fragments = 0;
  middle_fragments = 0;
  last_fragments = 0;
  incomplete = 0;
  payload_bytes = 0;
  chain_headers = replicate 17 0;
  chain_bytes = replicate 73 0;
  headers = replicate 256 0;
  payload_numbers = replicate 256 0;
  later_fragment_numbers = replicate 256 0;
  truncated_headers = replicate 16 0;
  faults = replicate 128 0;
}

-- the sums of two statistics, count by count
abbrev pub merged : Statistics → Statistics → Statistics
merged a b = record {
  packets = added a.packets b.packets;
  without_header = added a.without_header b.without_header;
  ipv4 = added a.ipv4 b.ipv4;
  ipv6 = added a.ipv6 b.ipv6;
  at_payload = added a.at_payload b.at_payload;
  at_later_fragment = added a.at_later_fragment b.at_later_fragment;
  at_truncated_header = added a.at_truncated_header b.at_truncated_header;
  at_fault = added a.at_fault b.at_fault;
  atomic_fragments = added a.atomic_fragments b.atomic_fragments;
  first_fragments = added a.first_fragments b.first_fragments;
  middle_fragments = added a.middle_fragments b.middle_fragments;
  last_fragments = added a.last_fragments b.last_fragments;
  incomplete = added a.incomplete b.incomplete;
  payload_bytes = added a.payload_bytes b.payload_bytes;
  chain_headers = all_added a.chain_headers b.chain_headers;
  chain_bytes = all_added a.chain_bytes b.chain_bytes;
  headers = all_added a.headers b.headers;
  payload_numbers = all_added a.payload_numbers b.payload_numbers;
  later_fragment_numbers = all_added a.later_fragment_numbers b.later_fragment_numbers;
  truncated_headers = all_added a.truncated_headers b.truncated_headers;
  faults = all_added a.faults b.faults;
}
