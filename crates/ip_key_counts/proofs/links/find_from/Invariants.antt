use Rattle.std.proofs.Common.{ℕ, ◌≤◌, List, length}
use Rattle.ip_key_counts.specs.Entry.{IsLast, AreLinked}
use Rattle.ip_key_counts.proofs.LinkLemmas.{Reaches}
use Rattle.ip_key_counts.proofs.links.find_from.Given as goal

abbrev pub invariant-links : goal.invariant-links
invariant-links l = record {
  below : l.left ≤ l.link;
  each : (bucket_of : List ℕ → ℕ) (n : ℕ) → AreLinked bucket_of l.entries n → n ≤ length l.entries
      → IsLast bucket_of l.entries (bucket_of l.key) n l.link → Reaches bucket_of l.entries n l.key l.left;
}

abbrev pub decreases-links : goal.decreases-links
decreases-links l = l.left
