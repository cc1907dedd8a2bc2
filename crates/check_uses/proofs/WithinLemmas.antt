-- Headers within the first bytes of all of them joined.
use Rattle.ip_spec.proofs.Common.{◌≡◌, ℕ, ◌-◌, ◌≤◌, List, [], ◌∷◌, length, refl, arith, common_steps, ExtHeader, bytes_of, headers_within}

-- they have no more than j bytes
within_few : (j : ℕ) (c : List ExtHeader) → length (bytes_of (headers_within j c)) ≤ j
within_few j [] = omega arith
within_few j (h ∷ c) = grind (arith, common_steps, within_few (j - length h.bytes) c)

-- and if all of them have no more, they are all
within_all : (j : ℕ) (c : List ExtHeader) → length (bytes_of c) ≤ j → headers_within j c ≡ c
within_all j [] few = refl
within_all j (h ∷ c) few = grind (arith, common_steps, within_all (j - length h.bytes) c)

pub all_within : (j : ℕ) (c : List ExtHeader) → (length (bytes_of c) ≤ j → headers_within j c ≡ c) × (headers_within j c ≡ c → length (bytes_of c) ≤ j)
all_within j c = (within_all j c, λ e. rw (← e) (within_few j c))
