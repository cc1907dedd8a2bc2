-- The members of a list, as they are walked.
use Rattle.std.specs.Prelude.{◌==◌, ◌||◌, nat_le, length, ℕ, suc, zero, List, [], ◌∷◌, slice_get, if◌then◌else◌}
use Rattle.std.specs.Option.{option_map_or}
use Rattle.ip_lists.specs.declared.members.Members.{Members}

-- The places after this one, before the head or a place beyond the array comes, and at most so many.
abbrev pub members_after : List ℕ → ℕ → ℕ → ℕ → List ℕ
members_after next head from zero = []
members_after next head from (suc n) = option_map_or (λ (p : ℕ). if (p == head) || nat_le (length next) p then [] else p ∷ members_after next head p n) (slice_get next from) []

-- what an iterator has still to return
abbrev pub members_left : Members → List ℕ
members_left it = members_after it.next.now it.head it.place it.left
