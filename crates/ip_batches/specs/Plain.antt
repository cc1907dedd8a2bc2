-- What packets without extension headers, at their payloads, add to statistics; most packets are such packets.
use Rattle.std.specs.Prelude.{◌≡◌, ℕ, ◌+◌, ◌==◌, false, List, [], None, if◌then◌else◌}
use Rattle.ip_dissect.specs.Dissection.{DissectedParts}
use Rattle.ip_dissect.specs.End.{has_error}
use Rattle.ip_codes.specs.Codes.{end_code}
use Rattle.ip_statistics.specs.Counts.{added, all_added, each_below, one_if}
use Rattle.ip_statistics.specs.Packet.{AT_PAYLOAD}
use Rattle.ip_statistics.specs.declared.statistics.Statistics.{Statistics}
use Rattle.ip_batches.specs.declared.plain.PlainCounts.{PlainCounts}

-- k counts, of which the first is n and the others are 0
abbrev pub first_count : ℕ → ℕ → List ℕ
first_count k n = each_below k (λ i. if i == 0 then n else 0)

-- how many such packets were counted
abbrev pub packets_of : PlainCounts → ℕ
packets_of p = added p.ipv4 p.ipv6

-- the statistics a with these packets more, but for the numbers of their payloads
abbrev pub with_plain : PlainCounts → Statistics → Statistics
with_plain p a = record a {
  packets = added a.packets (packets_of p);
  ipv4 = added a.ipv4 p.ipv4;
  ipv6 = added a.ipv6 p.ipv6;
  at_payload = added a.at_payload (packets_of p);
  incomplete = added a.incomplete p.incomplete;
  payload_bytes = added a.payload_bytes p.payload_bytes;
  chain_headers = all_added a.chain_headers (first_count 17 (packets_of p));
  chain_bytes = all_added a.chain_bytes (first_count 73 (packets_of p));
}

-- the packet with the parts d is such a packet
pub record IsPlain (d : DissectedParts) : Type 0 where
  pub version : one_if (d.version == 4) + one_if (d.version == 6) ≡ 1
  pub headers : d.headers ≡ []
  pub fragment : d.fragment ≡ None
  pub end : end_code d.end ≡ AT_PAYLOAD
  pub error : has_error d.end ≡ false
