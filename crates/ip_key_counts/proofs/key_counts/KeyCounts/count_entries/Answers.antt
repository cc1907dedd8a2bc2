use Rattle.std.proofs.Common.{◌≡◌, ◌+◌, take, map, refl, sym, ap, ◌∙◌, List, ℕ, [], ◌∷◌, ◌++◌}
use Rattle.std.proofs.lemmas.List.{take_more, map-append}
use Rattle.ip_key_counts.specs.Counts.{Counted, Counts, all_counted, counted}
use Rattle.ip_key_counts.specs.Entry.{key_in, counted_in, entry_at, blank}
use Rattle.ip_key_counts.specs.Table.{counts_in, room_of}
use Rattle.ip_key_counts.specs.declared.counted_key.CountedKey.{CountedKey}
use Rattle.ip_key_counts.proofs.CountLemmas.{all_counted-append, all_counted-one, all_counted-none}
use Rattle.ip_key_counts.proofs.key_counts.KeyCounts.count_entries.Goals as goal

pub entries-init : goal.entries-init
entries-init c = record {
  counts = λ table. sym (all_counted-none _ _);
  table = λ table. table;
  room = refl;
  seed = refl;
}

pub entries-preserved : goal.entries-preserved
entries-preserved c = record {
  counts = λ table.
      (let i : ℕ = c.entries.entry-index in
      let es : List CountedKey = c.args.entries.now in
      let room : ℕ = room_of c.args.self.now in
      let more : map counted_in (take (i + 1) es) ≡ map counted_in (take i es) ++ counted_in (entry_at es i) ∷ [] =
      ap (map counted_in) (take_more es i blank c.entries-test.true) ∙ map-append counted_in (take i es) (entry_at es i ∷ []) in
      let e : CountedKey = entry_at es i in
      let before : Counts = counts_in c.args.self.now in
      let so_far : List Counted = map counted_in (take i es) in
      let all : all_counted room before (map counted_in (take (i + 1) es)) ≡ counted room (all_counted room before so_far) (key_in e) e.count =
      ap (all_counted room before) more ∙ (all_counted-append room before so_far (counted_in e ∷ []) ∙ all_counted-one room (all_counted room before so_far) (counted_in e)) in
      c.count.ensures.counts (c.entries.invariant.table table)
      ∙ (ap (λ (r : ℕ). counted r (counts_in c.entries.self) c.key.result.now e.count) c.entries.invariant.room
      ∙ (ap (λ (x : Counts). counted room x c.key.result.now e.count) (c.entries.invariant.counts table)
      ∙ (ap (λ (k : List ℕ). counted room (all_counted room before so_far) k e.count) c.key.ensures ∙ sym all))));
  table = λ table. c.count.ensures.table (c.entries.invariant.table table);
  room = c.count.ensures.room ∙ c.entries.invariant.room;
  seed = c.count.ensures.seed ∙ c.entries.invariant.seed;
}
