use Rattle.ip_reassembly.proofs.Common.{◌≡◌, ℕ, ◌≤◌, ◌<◌, mark_of}
use Rattle.ip_reassembly.proofs.marks.are_later_units.Given as goal

abbrev pub invariant-units : goal.invariant-units
invariant-units l = (i : ℕ) → l.fn.first ≤ i → i < l.unit → mark_of l.marks i ≡ 3
