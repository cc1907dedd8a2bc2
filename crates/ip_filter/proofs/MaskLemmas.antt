-- Masks of flags, and what they ask of a packet.
use Rattle.std.proofs.Common.{zero, suc, bit_or, max}
use Rattle.ip_spec.proofs.Common.{◌≡◌, ℕ, ◌+◌, ◌<◌, ◌≤◌, ◌*◌, ◌%◌, ◌^◌, ◌⊎◌, inl, inr, List, [], ◌∷◌, take, refl, sym, ap, ◌∙◌, subst, rules, arith, common_steps, eqb_tells, cases_eq, Bool, true, false, not, ◌==◌, ◌&&◌, ◌||◌, if◌then◌else◌, Option, None, Some, is_some, list_any, option_map_or, AllByRecursion, ExtHeader, IsHeader, IsExtensionNumber, raw, fragment, auth, or-false}
use Rattle.std.specs.Int.{bit_at}
use Rattle.std.proofs.lemmas.Nat.Bits.{bit_at_or, bit_at-zero, bit_at-lt, bit_at-pow_same, bit_at-pow_other}
use Rattle.ip_base.specs.Ipv4Header.{version, ipv4_header_len}
use Rattle.ip_dissect.specs.Dissection.{DissectedParts, dissected, without_base}
use Rattle.ip_dissect.specs.End.{base_end}
use Rattle.ip_dissect.specs.Fragment.{ipv4_fragment}
use Rattle.ip_dissect.specs.declared.end.End.{End}
use Rattle.ip_dissect.specs.declared.fragment.Fragment.{Fragment}
use Rattle.ip_dissect.proofs.Ipv4Lemmas.{ipv4_prefix}
use Rattle.ip_dissect.proofs.LaterLemmas.{chain_to_later-longest}
use Rattle.ip_filter.specs.Truth.{is_version, is_first_kind, is_later_kind, says_fragment, some_fragment, is_truncated, fault_in, kind_index}
use Rattle.ip_filter.specs.Flags.{flag_says, any_flag}
use Rattle.ip_filter.specs.Tests.{meets}
use Rattle.ip_filter.specs.declared.filter.Test.{Test}
use Rattle.ip_filter.specs.declared.term.FaultKind.{FaultKind}
use Rattle.ip_filter.specs.declared.term.FaultKind.TheVariants as kind
use Rattle.ip_filter.proofs.FactsLemmas.{one_bit}
use Rattle.ip_filter.proofs.FlagLemmas.{other_fault}

-- ---- masks

larger_bit : (x y : ℕ) → x < 2 → y < 2 → (max x y == 1) ≡ ((x == 1) || (y == 1))
larger_bit x y l m = grind (arith, common_steps, eqb_tells, l, m)

regrouped : (a b x y f : Bool) → ((a || b) || ((x || y) && f)) ≡ ((a || (x && f)) || (b || (y && f)))
regrouped a b x y f = grind (arith, common_steps)

module _ (p : DissectedParts) where
  pub no_flag : (j : ℕ) → any_flag j 0 p ≡ false
  unfolding any_flag
  no_flag zero = refl
  no_flag (suc j) = rw (no_flag j, bit_at-zero j) refl

  flag_above : (j k : ℕ) → j ≤ k → any_flag j (2 ^ k) p ≡ false
  unfolding any_flag
  flag_above zero k above = refl
  flag_above (suc j) k above = rw (flag_above j k (omega (arith, above)), bit_at-pow_other k j (λ e. omega (arith, e, above))) refl

  pub one_flag : (j k : ℕ) → k < j → any_flag j (2 ^ k) p ≡ flag_says k p
  unfolding any_flag
  one_flag zero k below = absurd (omega (arith, below))
  one_flag (suc j) k below = elim (cases_eq j k) [
    | inl same ↦ rw same (rw (flag_above k k (omega arith), bit_at-pow_same k) refl)
    | inr other ↦ rw (one_flag j k (omega (arith, below, other)), bit_at-pow_other k j other) (or-false (flag_says k p))
  ]

  pub either_flag : (j a b : ℕ) → any_flag j (bit_or a b) p ≡ (any_flag j a p || any_flag j b p)
  unfolding any_flag
  either_flag zero a b = refl
  either_flag (suc j) a b = rw (either_flag j a b, bit_at_or a b j, larger_bit (bit_at a j) (bit_at b j) (bit_at-lt a j) (bit_at-lt b j)) (regrouped (any_flag j a p) (any_flag j b p) (bit_at a j == 1) (bit_at b j == 1) (flag_says j p))

  -- a mask that is shifted to a place
  pub shifted_flag : (k : ℕ) → k < 64 → any_flag 64 (1 * 2 ^ k % 2 ^ 64) p ≡ flag_says k p
  shifted_flag k small = ap (λ m. any_flag 64 m p) (one_bit k 64 small) ∙ one_flag 64 k small

-- ---- what a packet has

-- its headers are headers, and it has one of two versions or none
record Sound (p : DissectedParts) : Type 0 where
  headers : AllByRecursion (λ h. IsHeader h.number h.bytes) p.headers
  version_is : (p.version ≡ 0) ⊎ ((p.version ≡ 4) ⊎ (p.version ≡ 6))

sound_of : (s : List ℕ) (o : Option End) (four : Bool) (x y : DissectedParts) → Sound x → Sound y → Sound (option_map_or (without_base s) o (if four then x else y))
sound_of s (Some e) four x y is_x is_y = record { headers = search rules; version_is = inl refl }
sound_of s None true x y is_x is_y = is_x
sound_of s None false x y is_x is_y = is_y

sound : (s : List ℕ) → Sound (dissected s)
unfolding dissected
sound s = sound_of s (base_end s) (version s == 4) _ _
    (record { headers = (ipv4_prefix (take (ipv4_header_len s) s) _).chain.headers; version_is = inr (inl refl) })
    (record { headers = (chain_to_later-longest _ _).has.0.chain.headers; version_is = inr (inr refl) })

-- no header has a number that isn't an extension header's
number_of_header : (n : ℕ) (b : List ℕ) → IsHeader n b → IsExtensionNumber n
number_of_header n b (raw is x) = inl is
number_of_header n b (fragment is x) = inr (inl is)
number_of_header n b (auth is x) = inr (inr is)

no_header : (n : ℕ) → (IsExtensionNumber n → ⊥) → (c : List ExtHeader) → AllByRecursion (λ h. IsHeader h.number h.bytes) c → list_any (λ h. h.number == n) c ≡ false
no_header n none [] all = refl
no_header n none (h ∷ c) all =
    let other : (h.number == n) ≡ false = elim (cases_eq h.number n) [
      | inl same ↦ absurd (none (subst IsExtensionNumber same (number_of_header h.number h.bytes all.0)))
      | inr differs ↦ grind (arith, common_steps, eqb_tells, differs)
    ] in
    rw (other, no_header n none c all.1) refl

-- the flag of a kind of fault
few_kinds : (k : FaultKind) → 12 + kind_index k < 64
few_kinds kind.TooShort = omega arith
few_kinds kind.HopByHopNotAtStart = omega arith
few_kinds kind.ZeroPayloadLen = omega arith
few_kinds kind.UnsupportedIpVersion = omega arith
few_kinds kind.Ipv4HeaderLength = omega arith

same_fault : (i : ℕ) (o : Option FaultKind) → option_map_or (λ k. 12 + i == 12 + kind_index k) o false ≡ option_map_or (λ k. kind_index k == i) o false
same_fault i None = refl
same_fault i (Some k) = grind (arith, common_steps, eqb_tells)

-- two conditions on what the headers say about fragmentation
module _ (q r : Fragment → Bool) where
  either_header : (c : List ExtHeader) → (list_any (says_fragment q) c || list_any (says_fragment r) c) ≡ list_any (says_fragment (λ x. q x || r x)) c
  either_header [] = refl
  either_header (h ∷ c) = grind (arith, common_steps, either_header c)

  either_base : (o : Option Fragment) → (option_map_or q o false || option_map_or r o false) ≡ option_map_or (λ x. q x || r x) o false
  either_base None = refl
  either_base (Some x) = refl

  by_version : (four : Bool) (o : Option Fragment) (c : List ExtHeader) → ((if four then option_map_or q o false else list_any (says_fragment q) c) || (if four then option_map_or r o false else list_any (says_fragment r) c)) ≡ (if four then option_map_or (λ x. q x || r x) o false else list_any (says_fragment (λ x. q x || r x)) c)
  by_version true o c = either_base o
  by_version false o c = either_header c

  either_fragment : (p : DissectedParts) → (some_fragment q p || some_fragment r p) ≡ some_fragment (λ x. q x || r x) p
  either_fragment p = by_version (p.version == 4) (ipv4_fragment p.base) p.headers

-- ---- flags

module _ (s : List ℕ) where
  abbrev p : DissectedParts
  p = dissected s

  no_number : (n : ℕ) → (IsExtensionNumber n → ⊥) → list_any (λ h. h.number == n) p.headers ≡ false
  no_number n none = no_header n none p.headers (sound s).headers

  no_fault_at : (n : ℕ) → (n < 12) ⊎ (16 < n) → option_map_or (λ k. n == 12 + kind_index k) (fault_in p.end) false ≡ false
  no_fault_at n out = other_fault n (fault_in p.end) out

  pub ipv4_mask : any_flag 64 (2 ^ 4) p ≡ is_version 4 p
  ipv4_mask = one_flag p 64 4 (omega arith) ∙ rw (no_number 4 (λ is. search rules), no_fault_at 4 (inl (omega arith))) (simp or-false)

  pub ipv6_mask : any_flag 64 (2 ^ 6) p ≡ is_version 6 p
  ipv6_mask = one_flag p 64 6 (omega arith) ∙ rw (no_number 6 (λ is. search rules), no_fault_at 6 (inl (omega arith))) (simp or-false)

  pub other_version : (v : ℕ) → (v ≡ 4 → ⊥) → (v ≡ 6 → ⊥) → any_flag 64 0 p ≡ is_version v p
  other_version v four six = no_flag p 64 ∙ elim ((sound s).version_is) [
    | inl none ↦ rw none refl
    | inr (inl is) ↦ rw is (grind (arith, common_steps, eqb_tells, four))
    | inr (inr is) ↦ rw is (grind (arith, common_steps, eqb_tells, six))
  ]

  header_flag : (n : ℕ) → IsExtensionNumber n → flag_says n p ≡ list_any (λ h. h.number == n) p.headers
  header_flag n (inl (inl e)) = rw e (rw (no_fault_at 0 (inl (omega arith))) (simp or-false))
  header_flag n (inl (inr (inl e))) = rw e (rw (no_fault_at 43 (inr (omega arith))) (simp or-false))
  header_flag n (inl (inr (inr e))) = rw e (rw (no_fault_at 60 (inr (omega arith))) (simp or-false))
  header_flag n (inr (inl e)) = rw e (rw (no_fault_at 44 (inr (omega arith))) (simp or-false))
  header_flag n (inr (inr e)) = rw e (rw (no_fault_at 51 (inr (omega arith))) (simp or-false))

  pub header_mask : (n : ℕ) → IsExtensionNumber n → any_flag 64 (1 * 2 ^ n % 2 ^ 64) p ≡ list_any (λ h. h.number == n) p.headers
  header_mask n is = shifted_flag p n (search (rules, is)) ∙ header_flag n is

  either_number : (a b : ℕ) (c : List ExtHeader) → (list_any (λ h. h.number == a) c || list_any (λ h. h.number == b) c) ≡ list_any (λ h. (h.number == a) || (h.number == b)) c
  either_number a b [] = refl
  either_number a b (h ∷ c) = grind (arith, common_steps, either_number a b c)

  -- hop-by-hop or destination options
  pub options_mask : any_flag 64 (bit_or 1 (2 ^ 60)) p ≡ list_any (λ h. (h.number == 0) || (h.number == 60)) p.headers
  options_mask =
      either_flag p 64 1 (2 ^ 60)
      ∙ ap (λ x. x || any_flag 64 (2 ^ 60) p) (header_mask 0 (search rules))
      ∙ ap (λ x. list_any (λ h. h.number == 0) p.headers || x) (header_mask 60 (search rules))
      ∙ either_number 0 60 p.headers

  pub other_header : (n : ℕ) → (IsExtensionNumber n → ⊥) → any_flag 64 0 p ≡ list_any (λ h. h.number == n) p.headers
  other_header n none = no_flag p 64 ∙ sym (no_number n none)

  first_flag : flag_says 8 p ≡ some_fragment (λ x. is_first_kind x.kind) p
  first_flag = rw (no_number 8 (λ is. search rules), no_fault_at 8 (inl (omega arith))) (simp or-false)

  later_flag : flag_says 9 p ≡ some_fragment (λ x. is_later_kind x.kind) p
  later_flag = rw (no_number 9 (λ is. search rules), no_fault_at 9 (inl (omega arith))) (simp or-false)

  pub first_mask : any_flag 64 (2 ^ 8) p ≡ some_fragment (λ x. is_first_kind x.kind) p
  first_mask = one_flag p 64 8 (omega arith) ∙ first_flag

  pub later_mask : any_flag 64 (2 ^ 9) p ≡ some_fragment (λ x. is_later_kind x.kind) p
  later_mask = one_flag p 64 9 (omega arith) ∙ later_flag

  pub fragment_mask : any_flag 64 768 p ≡ some_fragment (λ x. is_first_kind x.kind || is_later_kind x.kind) p
  fragment_mask = either_flag p 64 256 512 ∙ ap (λ x. x || any_flag 64 512 p) first_mask ∙ ap (λ y. some_fragment (λ x. is_first_kind x.kind) p || y) later_mask ∙ either_fragment (λ x. is_first_kind x.kind) (λ x. is_later_kind x.kind) p

  pub incomplete_mask : any_flag 64 (2 ^ 10) p ≡ not (p.missing == 0)
  incomplete_mask = one_flag p 64 10 (omega arith) ∙ rw (no_number 10 (λ is. search rules), no_fault_at 10 (inl (omega arith))) (simp or-false)

  pub truncated_mask : any_flag 64 (2 ^ 11) p ≡ is_truncated p.end
  truncated_mask = one_flag p 64 11 (omega arith) ∙ rw (no_number 11 (λ is. search rules), no_fault_at 11 (inl (omega arith))) (simp or-false)

  abbrev is_fault : ℕ → Bool
  is_fault i = option_map_or (λ k. kind_index k == i) (fault_in p.end) false

  fault_flag : (k : FaultKind) → flag_says (12 + kind_index k) p ≡ is_fault (kind_index k)
  fault_flag kind.TooShort = rw (no_number 12 (λ is. search rules)) (same_fault 0 (fault_in p.end))
  fault_flag kind.HopByHopNotAtStart = rw (no_number 13 (λ is. search rules)) (same_fault 1 (fault_in p.end))
  fault_flag kind.ZeroPayloadLen = rw (no_number 14 (λ is. search rules)) (same_fault 2 (fault_in p.end))
  fault_flag kind.UnsupportedIpVersion = rw (no_number 15 (λ is. search rules)) (same_fault 3 (fault_in p.end))
  fault_flag kind.Ipv4HeaderLength = rw (no_number 16 (λ is. search rules)) (same_fault 4 (fault_in p.end))

  pub fault_mask : (k : FaultKind) → any_flag 64 (1 * 2 ^ (12 + kind_index k) % 2 ^ 64) p ≡ is_fault (kind_index k)
  fault_mask k = shifted_flag p (12 + kind_index k) (few_kinds k) ∙ fault_flag k

  any_kind : (o : Option FaultKind) → (option_map_or (λ k. kind_index k == 0) o false || (option_map_or (λ k. kind_index k == 1) o false || (option_map_or (λ k. kind_index k == 2) o false || (option_map_or (λ k. kind_index k == 3) o false || option_map_or (λ k. kind_index k == 4) o false)))) ≡ is_some o
  any_kind None = refl
  any_kind (Some kind.TooShort) = refl
  any_kind (Some kind.HopByHopNotAtStart) = refl
  any_kind (Some kind.ZeroPayloadLen) = refl
  any_kind (Some kind.UnsupportedIpVersion) = refl
  any_kind (Some kind.Ipv4HeaderLength) = refl

  pub faults_mask : any_flag 64 126976 p ≡ is_some (fault_in p.end)
  faults_mask = rw (
    either_flag p 64 4096 122880,
    either_flag p 64 8192 114688,
    either_flag p 64 16384 98304,
    either_flag p 64 32768 65536,
    fault_mask kind.TooShort,
    fault_mask kind.HopByHopNotAtStart,
    fault_mask kind.ZeroPayloadLen,
    fault_mask kind.UnsupportedIpVersion,
    fault_mask kind.Ipv4HeaderLength,
  ) (any_kind (fault_in p.end))

-- a test of flags
pub by_flags : (x : Test) (m : ℕ) (p : DissectedParts) → x.kind ≡ 1 → x.number ≡ m → meets x p ≡ any_flag 64 m p
by_flags x m p kind number = rw (kind, number) refl
