use Rattle.ip_spec.proofs.Common.{ℕ, List, ◌+◌, ◌≤◌, length, vec_capacity, PlacedFields, IsEncodable, placed_len}
use Rattle.ip_ext_chains.specs.ExtsWalk.{left_in, IsAt, HasWritten}
use Rattle.ip_ext_chains.specs.declared.walk.Walk.{Walk}
use Rattle.ip_ext_chains.proofs.WalkedLemmas.{headers_left}
use Rattle.ip_ext_chains.proofs.ipv6_exts_write.append_others.Given as goal

-- what was written before still is, and there is room for what is left
abbrev pub invariant-headers : goal.invariant-headers
invariant-headers g l =
    ((w : Walk) → IsAt w l.fn.headers l.fn.reached l.fn.number l.fn.first → (v : PlacedFields) (f : ℕ) (before : List ℕ) → IsEncodable v
    → HasWritten v f w before l.fn.out.items → HasWritten v f l.walk before l.out.items)
    × (length l.out.items + placed_len (left_in l.walk) ≤ vec_capacity l.out)
    × (vec_capacity l.fn.out ≤ vec_capacity l.out)

abbrev pub decreases-headers : goal.decreases-headers
decreases-headers g l = headers_left l.walk
