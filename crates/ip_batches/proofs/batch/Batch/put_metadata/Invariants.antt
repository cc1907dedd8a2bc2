use Rattle.std.proofs.Common.{◌≡◌, ◌+◌, ◌<◌, ℕ, length, get_or}
use Rattle.ip_filter.specs.declared.metadata.Metadata.{Metadata}
use Rattle.ip_batches.specs.declared.batch.PacketSpan.{PacketSpan}
use Rattle.ip_batches.specs.Batch.{packet_at}
use Rattle.ip_batches.proofs.batch.Batch.put_metadata.Given as goal

-- the metadata before the index are those of their packets
abbrev pub invariant-packets : goal.invariant-packets
invariant-packets l = (length l.metadata ≡ length l.fn.metadata) × ((j : ℕ) (d : Metadata) (e : PacketSpan) → j < l.index
    → (get_or l.metadata j d).bytes.now ≡ packet_at l.self.buffer.now (get_or l.self.spans.now (l.first + j) e))
