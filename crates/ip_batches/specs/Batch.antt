-- Packets at several places in one buffer.
use Rattle.std.specs.Prelude.{ℕ, ◌+◌, List, map, length, nat_lt, position, slice_range, Option}
use Rattle.ip_dissect.specs.Dissection.{dissected}
use Rattle.ip_filter.specs.Tests.{meets}
use Rattle.ip_filter.specs.Program.{tests_of, passes}
use Rattle.ip_filter.specs.declared.filter.Filter.{Filter}
use Rattle.ip_spans.specs.DissectionParts.{dissection_parts}
use Rattle.ip_spans.specs.declared.dissection_parts.DissectionParts.{DissectionParts}
use Rattle.ip_statistics.specs.Counts.{one_if}
use Rattle.ip_batches.specs.declared.batch.PacketSpan.{PacketSpan}

-- the index of the first span that ends after the buffer
abbrev pub first_outside : List ℕ → List PacketSpan → Option ℕ
first_outside buffer spans = position (λ x. nat_lt (length buffer) (x.offset + x.len)) spans

-- the bytes of a span
abbrev pub packet_at : List ℕ → PacketSpan → List ℕ
packet_at buffer x = slice_range buffer x.offset (x.offset + x.len)

-- the packets: the bytes of each span, in order
abbrev pub packets_at : List ℕ → List PacketSpan → List (List ℕ)
packets_at buffer spans = map (packet_at buffer) spans

-- for each packet, 1 if the filter matches it, otherwise 0
abbrev pub matches_of : Filter → List (List ℕ) → List ℕ
matches_of filter packets = map (λ s. one_if (passes (tests_of filter) (λ x. meets x (dissected s)))) packets

-- the parts of each packet
abbrev pub all_parts : List (List ℕ) → List DissectionParts
all_parts packets = map (λ s. dissection_parts (dissected s)) packets
