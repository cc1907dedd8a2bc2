-- Chains of the packets of a batch.
use Rattle.std.proofs.Common.{◌≡◌, ℕ, List, [], refl}
use Rattle.ip_key_counts.specs.Counts.{Counts, keys_counted}
use Rattle.ip_chain_counts.specs.Chain.{keys_of_all}

-- No packets count nothing.
pub no_chains : (room : ℕ) (c : Counts) (path : List ℕ) → c ≡ keys_counted room c (keys_of_all path [])
unfolding keys_counted keys_of_all
no_chains room c path = refl
