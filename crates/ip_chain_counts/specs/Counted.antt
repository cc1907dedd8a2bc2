-- A visit of a packet that counts its chain.
use Rattle.std.specs.Prelude.{◌≡◌, ◌++◌, ◌∷◌, ℕ, List, []}
use Rattle.ip_dissect.specs.Dissection.{dissected}
use Rattle.ip_key_counts.specs.Counts.{keys_counted}
use Rattle.ip_key_counts.specs.Table.{counts_in, room_of, IsTable}
use Rattle.ip_chain_counts.specs.Chain.{keys_of}
use Rattle.ip_chain_counts.specs.KeyBytes.{HasBytes}
use Rattle.ip_chain_counts.specs.declared.count.ChainVisitor.{ChainVisitor}

-- A visit of the packet at the start of the bytes s counted its chain, if the key began with the path and room for three bytes: the
-- struct new has the same table as old.
pub record IsChainCounted (old : ChainVisitor) (s : List ℕ) (new : ChainVisitor) : Type 0 where
  pub same_counts : new.counts.ghost_name ≡ old.counts.ghost_name
  pub counts : HasBytes old.key (old.path.now ++ 0 ∷ 0 ∷ 0 ∷ []) → IsTable old.counts.now
      → counts_in new.counts.now ≡ keys_counted (room_of old.counts.now) (counts_in old.counts.now) (keys_of old.path.now (dissected s))
  pub table : IsTable old.counts.now → IsTable new.counts.now
  pub room : room_of new.counts.now ≡ room_of old.counts.now
  pub seed : new.counts.now.seed ≡ old.counts.now.seed
