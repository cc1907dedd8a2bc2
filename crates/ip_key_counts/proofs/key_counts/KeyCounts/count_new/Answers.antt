use Rattle.std.proofs.Common.{◌<◌, ◌≤◌, length, refl, arith, inl, inr}
use Rattle.ip_key_counts.proofs.EntryLemmas.{counted_new, counted_other}
use Rattle.ip_key_counts.proofs.TableLemmas.{table_added}
use Rattle.ip_key_counts.proofs.key_counts.KeyCounts.count_new.Goals as goal
use Rattle.ip_key_counts.proofs.key_counts.KeyCounts.count_new.Goals.{else-place-self-via-then-place-self+then-place+else-key-le-MAX_KEY_LEN, else-place-self-via-then-place-self+else-place, else-place-self-via-else-place-self}

pub returns-then-key-le-MAX_KEY_LEN-clause-counts : goal.returns-then-key-le-MAX_KEY_LEN-clause-counts
returns-then-key-le-MAX_KEY_LEN-clause-counts c = λ table is_new.
    let held = c.hold.ensures in
    let old = c.args.self.now in
    rw held.1 (counted_new c.args.key.now c.args.number old.len old.other old.entries.now held.0 c.if-place-self.true c.if-key-le-MAX_KEY_LEN.true held.2 held.3 is_new)

pub returns-then-key-le-MAX_KEY_LEN-clause-table : goal.returns-then-key-le-MAX_KEY_LEN-clause-table
returns-then-key-le-MAX_KEY_LEN-clause-table c = λ table is_new bucket.
    let held = c.hold.ensures in
    table_added c.args.self.now _ c.args.key.now held.0 c.args.bucket table is_new c.if-place-self.true c.if-key-le-MAX_KEY_LEN.true held.2 held.4 bucket c.requires.bucket held.1 refl refl refl

pub returns-else-place-self-clause-counts : goal.returns-else-place-self-clause-counts
returns-else-place-self-clause-counts c = λ table is_new.
    let old = c.args.self.now in
    let within : old.len ≤ length old.entries.now = table.within in
    let few : length old.entries.now < 4294967296 = table.buckets.few in
    rw c.saturating_add-self.ensures (counted_other c.args.key.now c.args.number old.len old.other old.entries.now within is_new
    (elim c.else-place-self.branch [
      | else-place-self-via-then-place-self+then-place+else-key-le-MAX_KEY_LEN w ↦ inr w.if-key-le-MAX_KEY_LEN.false
      | else-place-self-via-then-place-self+else-place w ↦ inl (omega arith)
      | else-place-self-via-else-place-self w ↦ inl (omega arith)
    ]))
