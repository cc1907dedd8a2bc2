use Rattle.std.proofs.Common.{refl}
use Rattle.ip_key_counts.proofs.TableLemmas.{found_counts, found_table}
use Rattle.ip_key_counts.proofs.key_counts.KeyCounts.count.Goals as goal

pub returns-in-Some-clause-counts : goal.returns-in-Some-clause-counts
returns-in-Some-clause-counts c = λ table.
    let found = c.in-Some.ensures in
    found_counts c.args.self.now c.raise.new.entries c.in-Some.place c.args.number c.args.key.now table found.0 found.2 c.raise.ensures

pub returns-in-Some-clause-table : goal.returns-in-Some-clause-table
returns-in-Some-clause-table c = λ table.
    found_table c.args.self.now _ c.in-Some.place c.args.number table c.in-Some.ensures.0 c.raise.ensures refl refl refl
