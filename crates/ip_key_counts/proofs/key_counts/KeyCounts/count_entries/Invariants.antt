use Rattle.std.proofs.Common.{◌≡◌, map, take}
use Rattle.ip_key_counts.specs.Counts.{all_counted}
use Rattle.ip_key_counts.specs.Entry.{counted_in}
use Rattle.ip_key_counts.specs.Table.{counts_in, room_of, IsTable}
use Rattle.ip_key_counts.proofs.key_counts.KeyCounts.count_entries.Given as goal

abbrev pub invariant-entries : goal.invariant-entries
invariant-entries l = record {
  counts : IsTable l.initial.self → counts_in l.self ≡ all_counted (room_of l.initial.self) (counts_in l.initial.self) (map counted_in (take l.entry-index l.entries));
  table : IsTable l.initial.self → IsTable l.self;
  room : room_of l.self ≡ room_of l.initial.self;
  seed : l.self.seed ≡ l.initial.self.seed;
}
