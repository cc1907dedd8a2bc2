use Rattle.std.proofs.Common.{refl}
use Rattle.ip_key_counts.proofs.TableLemmas.{found_counts, found_table}
use Rattle.ip_key_counts.proofs.key_counts.KeyCounts.count_by_hash.Goals as goal

pub returns-in-Some-find-clause-counts : goal.returns-in-Some-find-clause-counts
returns-in-Some-find-clause-counts c = λ table.
    let found = c.in-Some-find.ensures in
    found_counts c.args.self.now c.raise.new.entries c.in-Some-find.place c.args.number c.args.key.now table (found.used table) found.key c.raise.ensures

pub returns-in-Some-find-clause-table : goal.returns-in-Some-find-clause-table
returns-in-Some-find-clause-table c = λ table.
    found_table c.args.self.now _ c.in-Some-find.place c.args.number table (c.in-Some-find.ensures.used table) c.raise.ensures refl refl refl
