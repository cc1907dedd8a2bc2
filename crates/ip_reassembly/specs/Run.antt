-- Fragments that arrived in order.
use Rattle.std.specs.Prelude.{◌≡◌, ℕ, ◌+◌, ◌-◌, ◌*◌, ◌%◌, ◌==◌, nat_lt, ◌⊎◌, List, if◌then◌else◌}
use Rattle.ip_reassembly.specs.Marks.{mark_of}
use Rattle.ip_reassembly.specs.declared.run.Run.{Run}

-- the unit after a run
abbrev pub run_end : Run → ℕ
run_end r = r.units * r.count

-- the mark of a unit of a run: each of its fragments has the flag
abbrev pub run_mark : Run → ℕ → ℕ
run_mark r i = if i % r.units == 0 then 1 else 3

-- the mark of a unit by a run, and after it by bytes
abbrev pub mark_by : Run → List ℕ → ℕ → ℕ
mark_by r marks i = if nat_lt i (run_end r) then run_mark r i else mark_of marks i

-- The run q is r with one more fragment, of the units from first to end.
pub record IsLonger (r q : Run) (first end : ℕ) : Type 0 where
  pub start : first ≡ run_end r
  pub units : q.units ≡ end - first
  pub count : (r.count ≡ 0) × (q.count ≡ 1) ⊎ (r.units ≡ q.units) × (q.count ≡ r.count + 1)
