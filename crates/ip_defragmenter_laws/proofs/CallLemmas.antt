-- What every call keeps: the number of slots, and that the table is valid.
use Rattle.std.proofs.Common.{◌≡◌, ℕ, List, [], ◌∷◌, length, refl, sym, ap, ◌∙◌, subst, Option, Some, None, Result, Ok, Err}
use Rattle.ip_dissect.specs.Dissection.{dissected}
use Rattle.ip_defragmenter.specs.Added.{IsAddedBy, IsAddedUnless, is_whole}
use Rattle.ip_defragmenter.specs.FragmentOf.{FragmentParts, packet_fragment}
use Rattle.ip_defragmenter.specs.Memory.{own_refusal}
use Rattle.ip_defragmenter.specs.Slot.{slot_with}
use Rattle.ip_defragmenter.specs.declared.err.FragmentError.{FragmentError}
use Rattle.ip_defragmenter.specs.declared.err.StoreError.{StoreError}
use Rattle.ip_defragmenter.specs.declared.memory.PacketMemory.{PacketMemory}
use Rattle.ip_defragmenter.specs.declared.outcome.Added.{Added}
use Rattle.ip_defragmenter.specs.declared.settings.Settings.{Settings}
use Rattle.ip_defragmenter.specs.declared.slots.Placement.{Placement}
use Rattle.ip_defragmenter.specs.declared.slots.SlotTable.{SlotTable}
use Rattle.ip_defragmenter_laws.specs.Run.{Adds, Call, Clears, GivesUp, IsCall, IsCallRun, IsFresh, IsStep, Step, TableState}
use Rattle.ip_defragmenter_laws.proofs.ReadKeyLemmas.{read_key}
use Rattle.ip_defragmenter_laws.proofs.SlotRunLemmas.{IsValid, as_long, number_given_up, valid_added, valid_cleared, valid_fresh, valid_given_up, valid_unchanged}

by_place : (o : Option Placement) (t u : SlotTable) (memories others : List PacketMemory) (seed : List ℕ) (context : ℕ) (f : FragmentParts) (a : Added) → IsAddedBy t memories seed context f o u others a → length u.slots.now ≡ length t.slots.now
by_place None t u memories others seed context f a by = ap length by.1.slots
by_place (Some p) t u memories others seed context f a by = ap length by.1.slots ∙ as_long (is_whole by.0) t.slots.now p.index (slot_with p.since context f.key)

unless : (o : Option StoreError) (t u : SlotTable) (memories others : List PacketMemory) (settings : Settings) (context time : ℕ) (f : FragmentParts) (a : Added) → IsAddedUnless o t memories settings context time f u others a
    → length u.slots.now ≡ length t.slots.now
unless (Some e) t u memories others settings context time f a by = ap length by.1.slots
unless None t u memories others settings context time f a by = by_place by.0 t u memories others settings.seed context f a by.2

by_read : (o : Result (Option FragmentParts) FragmentError) (settings : Settings) (t u : TableState) (x : Call) → packet_fragment (dissected x.bytes) ≡ o → IsCall settings t u x → length u.slots.slots.now ≡ length t.slots.slots.now
by_read (Err e) settings t u x read call = ap length (call.unusable e read).1.slots
by_read (Ok None) settings t u x read call = ap length (call.not_fragment read).1.slots
by_read (Ok (Some f)) settings t u x read call = unless (own_refusal f) t.slots u.slots t.memories u.memories settings x.context x.time f x.added (call.added f read)

pub same_number : (settings : Settings) (t u : TableState) (x : Call) → IsCall settings t u x → length u.slots.slots.now ≡ length t.slots.slots.now
same_number settings t u x call = by_read (packet_fragment (dissected x.bytes)) settings t u x refl call

as_many : (settings : Settings) (t u : TableState) (x : Step) → IsStep settings t u x → length u.slots.slots.now ≡ length t.slots.slots.now
as_many settings t u (Adds x) step = same_number settings t u x step
as_many settings t u (GivesUp x) step = number_given_up t u x step
as_many settings t u Clears step = step.len

pub same_run : (settings : Settings) (start : TableState) (xs : List Step) (t : TableState) → IsCallRun settings start xs t → length t.slots.slots.now ≡ length start.slots.slots.now
same_run settings start [] t run = ap (λ (u : TableState). length u.slots.slots.now) (sym run)
same_run settings start (x ∷ xs) t run = as_many settings run.0 t x run.2 ∙ same_run settings start xs run.0 run.1

valid_read : (o : Result (Option FragmentParts) FragmentError) (settings : Settings) (t u : TableState) (x : Call) → packet_fragment (dissected x.bytes) ≡ o → IsCall settings t u x → IsValid settings.seed t.slots t.memories
    → IsValid settings.seed u.slots u.memories
valid_read (Err e) settings t u x read call valid =
    let same = call.unusable e read in
    valid_unchanged settings.seed t.slots u.slots t.memories u.memories same.1 same.2 valid
valid_read (Ok None) settings t u x read call valid =
    let same = call.not_fragment read in
    valid_unchanged settings.seed t.slots u.slots t.memories u.memories same.1 same.2 valid
valid_read (Ok (Some f)) settings t u x read call valid =
    valid_added settings t.slots u.slots t.memories u.memories x.context x.time f x.added call.as_many (read_key x.bytes f call.bytes read) (call.added f read) valid

valid_step : (settings : Settings) (t u : TableState) (x : Step) → IsStep settings t u x → IsValid settings.seed t.slots t.memories → IsValid settings.seed u.slots u.memories
valid_step settings t u (Adds x) step valid = valid_read (packet_fragment (dissected x.bytes)) settings t u x refl step valid
valid_step settings t u (GivesUp x) step valid = valid_given_up settings.seed t u x step valid
valid_step settings t u Clears step valid = valid_cleared settings.seed t u step valid

pub valid_run : (settings : Settings) (start : TableState) (xs : List Step) (t : TableState) → IsFresh settings start → IsCallRun settings start xs t → IsValid settings.seed t.slots t.memories
valid_run settings start [] t fresh run =
    let P : TableState → Type 0 = λ u. IsValid settings.seed u.slots u.memories in
    subst P run (valid_fresh settings start fresh)
valid_run settings start (x ∷ xs) t fresh run = valid_step settings run.0 t x run.2 (valid_run settings start xs run.0 fresh run.1)
