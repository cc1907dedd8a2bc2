use Rattle.ip_key_counts.specs.Table.{bucket_of}
use Rattle.ip_key_counts.proofs.TableLemmas.{found_used, none_found}
use Rattle.ip_key_counts.proofs.key_counts.KeyCounts.find.Goals as goal

pub returns-clause-used : goal.returns-clause-used
returns-clause-used c = found_used c.args.self.now c.args.bucket c.find_from.result c.args.key.now c.requires c.find_from.ensures.found

pub returns-clause-none : goal.returns-clause-none
returns-clause-none c = λ none table is.
    let t = c.args.self.now in
    c.find_from.ensures.none none (bucket_of t) t.len table.linked table.within (none_found t c.args.bucket c.args.key.now c.requires table is)
