-- The octets of an address built from octets.
use Rattle.std.proofs.Common.{◌≡◌, ℕ, zero, suc, ◌%◌, ◌<◌, List, [], ◌∷◌, length, refl, ap, arith}
use Rattle.std.proofs.lemmas.Nat.{div-mul-add, mod-mul-add}
use Rattle.std.specs.Net.Addr.{octets_of, segments_of}
use Rattle.std.specs.Prelude.{slice_index}

-- splitting an even number of bytes into 16-bit segments and joining them returns the bytes
pub octets_of-segments_of : (xs : List ℕ) → length xs % 2 ≡ 0 → ((k : ℕ) → slice_index xs k < 256) → octets_of (segments_of xs) ≡ xs
octets_of-segments_of [] even fits = refl
octets_of-segments_of (a ∷ []) even fits = absurd (let one : suc zero % 2 ≡ 0 = even in omega arith)
octets_of-segments_of (a ∷ b ∷ xs) even fits =
    rw (div-mul-add a 256 b (fits 1), mod-mul-add a 256 b (fits 1))
    (ap (λ t. a ∷ b ∷ t) (octets_of-segments_of xs (let two : suc (suc (length xs)) % 2 ≡ 0 = even in omega arith) (λ k. fits (suc (suc k)))))
