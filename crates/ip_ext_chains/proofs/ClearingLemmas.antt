-- Reserved bits that are cleared in the joined bytes of headers, one header after the other.
use Rattle.ip_spec.proofs.Common.{common_steps, ◌≡◌, ℕ, ◌+◌, ◌≤◌, List, ◌∷◌, length, take, drop, arith, ap, drop-drop, length-drop, length-append, append_assoc, take-append_seam, drop-append_seam, take-put_mid, drop-put_mid, put_mid, ExtHeader, bytes_of, IsHeader, cleared_header}
use Rattle.ip_ext_chains.specs.Clearing.{Clearing}
use Rattle.ip_spec.proofs.HeaderLemmas.{header-least}
use Rattle.ip_spec.proofs.ClearedLemmas.{cleared_same}

-- one more header
module _ (all : List ℕ) (h : ExtHeader) (left : List ExtHeader) (at : ℕ) (copy : List ℕ) (k : Clearing all (h ∷ left) at copy) where
  -- it is in the copy where the headers before it end
  pub room : at + length h.bytes ≤ length copy
  room = omega (arith, k.within, ap length k.rest, length-append h.bytes (bytes_of left), length-drop at copy)

  next_bytes : take (length h.bytes) (drop at copy) ≡ h.bytes
  next_bytes = rw k.rest (take-append_seam h.bytes (bytes_of left))

  cleared_on : IsHeader h.number h.bytes → (j : ℕ) → j ≡ length h.bytes → Clearing all left (at + length h.bytes) (put_mid at j copy (cleared_header h.number h.bytes))
  cleared_on header j same =
      let b : List ℕ = cleared_header h.number h.bytes in
      let len : length b ≡ length h.bytes = (cleared_same h.bytes h.number header).len in
      let fits = room in
      let before = take-put_mid at j copy b (at + length h.bytes) in
      let after = drop-put_mid at j copy b (at + length h.bytes) in
      record {
        within = grind (arith, common_steps);
        cleared = grind (arith, common_steps, before, append_assoc, k.cleared);
        rest = grind (arith, common_steps, after, drop-drop, k.rest, drop-append_seam);
      }

  -- of number n with the bytes b, which are cleared there
  pub clearing_more : (n : ℕ) (b new : List ℕ) (j : ℕ) → n ≡ h.number → b ≡ h.bytes → IsHeader h.number b → j ≡ length b → (4 ≤ length (take j (drop at copy)) → new ≡ cleared_header n (take j (drop at copy)))
      → Clearing all left (at + length b) (put_mid at j copy new)
  clearing_more n b new j number bytes header len cleared =
      let is : IsHeader h.number h.bytes = rw bytes at header in
      let same : take j (drop at copy) ≡ h.bytes = rw (len, bytes) next_bytes in
      let made : new ≡ cleared_header h.number h.bytes = rw (same, number) at (cleared (omega (arith, ap length same, header-least h.number h.bytes is))) in
      rw (bytes, made) (cleared_on is j (cc (len, bytes)))
