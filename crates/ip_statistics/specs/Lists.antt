-- The statistics of lists of packets, and what merges of statistics return.
use Rattle.std.specs.Prelude.{ℕ, List, [], ◌∷◌, ◌++◌}
use Rattle.ip_dissect.specs.Dissection.{dissected}
use Rattle.ip_statistics.specs.Packet.{counts_of}
use Rattle.ip_statistics.specs.Statistics.{nothing, merged}
use Rattle.ip_statistics.specs.declared.statistics.Statistics.{Statistics}

-- those of the packets at the start of each of these bytes
abbrev pub statistics_of : List (List ℕ) → Statistics
statistics_of [] = nothing
statistics_of (s ∷ packets) = merged (counts_of (dissected s)) (statistics_of packets)

-- lists of packets that are counted apart, and merged in some order
pub data Merges : Type 0 where
  counted : List (List ℕ) → Merges
  joined : Merges → Merges → Merges

-- all packets in them
abbrev pub packets_in : Merges → List (List ℕ)
packets_in (counted packets) = packets
packets_in (joined m n) = packets_in m ++ packets_in n

-- what merging returns
abbrev pub merged_in : Merges → Statistics
merged_in (counted packets) = statistics_of packets
merged_in (joined m n) = merged (merged_in m) (merged_in n)
