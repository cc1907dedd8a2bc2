-- The packets of a batch.
use Rattle.std.specs.Prelude.{ℕ, List}
use Rattle.ip_batches.specs.Batch.{packets_at}
use Rattle.ip_batches.specs.declared.batch.Batch.{Batch}

-- the bytes of each, in order
abbrev pub batch_packets : Batch → List (List ℕ)
batch_packets batch = packets_at batch.buffer.now batch.spans.now
