use Rattle.std.proofs.Common.{◌≡◌, ◌+◌, ◌<◌, ◌≤◌, length, arith}
use Rattle.ip_lists.proofs.Tables.{cleared}
use Rattle.ip_lists.proofs.table.Table.clear.Goals as goal

pub returns-clause-cleared : goal.returns-clause-cleared
returns-clause-cleared c = λ bucket_of.
    let old = c.args.self.now in
    let ages : length c.clear.new.self.next.now ≡ length old.ages.next.now = c.clear.ensures.len in
    let pushed : length c.push_below.new.links.next.now ≡ length c.clear.new.self.next.now = c.push_below.ensures.len in
    let chains : length c.clear-2.new.self.next.now ≡ length old.chains.next.now = c.clear-2.ensures.len in
    let ages_room : old.places + 1 < length old.ages.next.now = c.requires.ages in
    let chains_room : old.places ≤ length old.chains.next.now = c.requires.chains in
    cleared _ bucket_of (c.push_below.ensures.linked) (c.clear-2.ensures.linked) (omega arith) (omega arith) (c.push_below.ensures.listed) (c.push_below.ensures.others) (c.clear-2.ensures.empty)
