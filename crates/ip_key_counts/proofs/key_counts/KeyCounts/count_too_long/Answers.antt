use Rattle.std.proofs.Common.{inr}
use Rattle.ip_key_counts.proofs.EntryLemmas.{counted_other}
use Rattle.ip_key_counts.proofs.TableLemmas.{none_long}
use Rattle.ip_key_counts.proofs.key_counts.KeyCounts.count_too_long.Goals as goal

pub returns-clause-counts : goal.returns-clause-counts
returns-clause-counts c = λ k long table.
    let old = c.args.self.now in
    rw c.saturating_add-self.ensures (counted_other k c.args.number old.len old.other old.entries.now table.within (none_long old k table long) (inr long))
