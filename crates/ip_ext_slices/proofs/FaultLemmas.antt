-- An extension header's number has an error wherever the chain ends; at any other number the chain ends without an
-- error.
use Rattle.ip_spec.proofs.Common.{common_steps, ◌≡◌, ℕ, ◌+◌, ◌*◌, List, length, take, refl, arith, ◌⊎◌, Bool, slice_index, rules, None, IsSome, IsTrue, IsHeader, IsExtensionNumber, IsRawNumber, ExtHeader, IsNext, IsEnd}
use Rattle.ip_base.specs.declared.len_source.LenSource.{LenSource}
use Rattle.ip_spec.proofs.PrefixLemmas.{prefix_of-take}
use Rattle.ip_spec.proofs.HeaderLemmas.{header_number, raw_begins, fragment_begins, auth_begins}
use Rattle.ip_ext_headers.specs.HeaderFault.{raw_fault, fragment_fault, auth_fault}
use Rattle.ip_ext_slices.specs.ChainFault.{fault_at}

begins : (first : Bool) (m : ℕ) (r b : List ℕ) → IsHeader m b → take (length b) r ≡ b → (m ≡ 0 → IsTrue first) → (h : ExtHeader) × IsNext first m r h
begins first m r b h f z = (record { number = m; bytes = b }, record { number = refl; header = h; prefix = f; zero_only_first = z })

raw_or_fault : (source : LenSource) (n : ℕ) (first : Bool) (m : ℕ) (r : List ℕ) (k : ℕ) → IsRawNumber m → (m ≡ 0 → IsTrue first) → ((h : ExtHeader) × IsNext first m r h) ⊎ IsSome (raw_fault source n k r)
raw_or_fault source n first m r k raw_number z = grind (arith, common_steps, begins first m r (take (8 * (slice_index r 1 + 1)) r), raw_begins r (8 * (slice_index r 1 + 1)), prefix_of-take)

fragment_or_fault : (source : LenSource) (n : ℕ) (first : Bool) (m : ℕ) (r : List ℕ) (k : ℕ) → m ≡ 44 → ((h : ExtHeader) × IsNext first m r h) ⊎ IsSome (fragment_fault source n k r)
fragment_or_fault source n first m r k e = grind (arith, common_steps, begins first m r (take 8 r), fragment_begins r 8, prefix_of-take)

auth_or_fault : (source : LenSource) (n : ℕ) (first : Bool) (m : ℕ) (r : List ℕ) (k : ℕ) → m ≡ 51 → ((h : ExtHeader) × IsNext first m r h) ⊎ IsSome (auth_fault source n k r)
auth_or_fault source n first m r k e = grind (arith, common_steps, begins first m r (take (4 * (slice_index r 1 + 2)) r), auth_begins r (4 * (slice_index r 1 + 2)), prefix_of-take)

module _ (source : LenSource) (n : ℕ) (r : List ℕ) (k : ℕ) where
  -- if the chain ends at an extension header's number, there is an error
  pub fault_at_end : (first : Bool) (m : ℕ) → IsExtensionNumber m → IsEnd first m r → IsSome (fault_at source n k first m r)
  fault_at_end first m is e =
      search (rules, raw_or_fault source n first m r k, fragment_or_fault source n first m r k, auth_or_fault source n first m r k)

-- at any other number the chain ends
pub end_at_other : (first : Bool) (m : ℕ) (r : List ℕ) → (IsExtensionNumber m → ⊥) → IsEnd first m r
end_at_other first m r other = λ h x. other (header_number m h.bytes x.header)

-- at any other number there is no error
pub no_fault_at_other : (source : LenSource) (n : ℕ) (first : Bool) (m : ℕ) (r : List ℕ) (k : ℕ) → (IsExtensionNumber m → ⊥) → fault_at source n k first m r ≡ None
no_fault_at_other source n first m r k other = search rules
