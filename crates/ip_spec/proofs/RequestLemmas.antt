-- Headers that arrive in parts.
use Rattle.ip_spec.proofs.Common.{◌≡◌, ℕ, ◌+◌, ◌-◌, ◌*◌, ◌≤◌, List, ◌++◌, length, drop, ap, sym, ◌∙◌, arith, slice_index, rules, get_or_append_left, drop-append_seam, common_steps, IsRawHeader, IsAuthHeader, next_header, AuthFields, raw_fields, auth_fields}
use Rattle.std.proofs.Common.{length-append}

-- the fields of a header with h before its check value
abbrev pub with_icv : List ℕ → List ℕ → AuthFields
with_icv h p = record (auth_fields h) { raw_icv = p }

module _ (h p : List ℕ) where
  after : (n : ℕ) → length h ≡ n → drop n (h ++ p) ≡ p
  after n e = ap (λ (k : ℕ). drop k (h ++ p)) (sym e) ∙ drop-append_seam h p

  pub raw_joined : length h ≡ 2 → length p ≡ 8 * slice_index h 1 + 6 → IsRawHeader (h ++ p)
  raw_joined e f = search (rules, length-append, get_or_append_left)

  pub raw_joined_fields : length h ≡ 2 → raw_fields (h ++ p) ≡ record { next_header = next_header h; payload = p }
  raw_joined_fields e = search (rules, get_or_append_left, after)

  pub auth_joined : length h ≡ 12 → 1 ≤ slice_index h 1 → length p ≡ 4 * (slice_index h 1 - 1) → IsAuthHeader (h ++ p)
  auth_joined e l f = search (rules, get_or_append_left, length-append)

  pub auth_joined_fields : length h ≡ 12 → auth_fields (h ++ p) ≡ with_icv h p
  auth_joined_fields e = grind (arith, common_steps, after 12 e)
