use Rattle.std.proofs.Common.{◌≡◌, ℕ, ◌<◌}
use Rattle.ip_defragmenter.specs.Slot.{free_slot}
use Rattle.ip_defragmenter.specs.Slots.{slot_at}
use Rattle.ip_defragmenter.proofs.slots.free_all.Given as goal

abbrev pub invariant-loop-slot : goal.invariant-loop-slot
invariant-loop-slot l = (i : ℕ) → i < l.slot-index → slot_at l.slots i ≡ free_slot
