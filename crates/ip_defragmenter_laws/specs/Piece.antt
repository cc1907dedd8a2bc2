-- Pieces of a payload.
use Rattle.std.specs.Prelude.{ℕ, ◌-◌, nat_lt, List, length, take, drop}
use Rattle.ip_reassembly.specs.Fragment.{Fragment}

-- the piece of a payload from one offset to another
abbrev pub piece_from : List ℕ → ℕ → ℕ → Fragment
piece_from payload start end = record { offset = start; more = nat_lt end (length payload); bytes = take (end - start) (drop start payload) }
