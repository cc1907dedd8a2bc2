-- Another payload after the headers of a packet.
use Rattle.ip_spec.proofs.Common.{◌≡◌, ℕ, ◌≤◌, List, [], ◌∷◌, length, inl, inr, subst, refl, sym, ◌∙◌, arith, common_steps, Bool, true, false, false≢true, cases_Bool, eq-eqb, ◌==◌, ◌↔◌, IsTrue, Option, None, IsExtensionNumber, ExtHeader, is_empty}
use Rattle.ip_dissect.specs.Dissection.{DissectedParts, dissected}
use Rattle.ip_dissect.specs.Summary.{IsBaseOf}
use Rattle.ip_dissect.specs.declared.dissection.BaseHeader.{BaseHeader}
use Rattle.ip_rewrite.specs.Rewritten.{is_extension, is_read_on, rewritten, rewritten_parts}
use Rattle.ip_rewrite.specs.Without.{packet_fault}
use Rattle.ip_rewrite.specs.Payload.{replacement_fault, payload_fault}
use Rattle.ip_rewrite.specs.declared.which.Authentication.{Authentication}
use Rattle.ip_rewrite.proofs.JumbogramLemmas.{has_option}
use Rattle.ip_rewrite.proofs.DissectLemmas.{none_first, IsWholeChain, whole_chain, changed}

pub empty_count : (c : List ExtHeader) → (length c == 0) ≡ is_empty c
empty_count [] = refl
empty_count (h ∷ c) = grind (arith, common_steps)

-- the numbers of extension headers
extension_true : (n : ℕ) → IsExtensionNumber n → is_extension n ≡ true
extension_true n x = elim x [
  | inl raw ↦ elim raw [
    | inl e ↦ rw e refl
    | inr others ↦ elim others [
      | inl e ↦ rw e refl
      | inr e ↦ rw e refl
    ]
  ]
  | inr others ↦ elim others [
    | inl e ↦ rw e refl
    | inr e ↦ rw e refl
  ]
]

extension_is : (n : ℕ) → is_extension n ≡ true → IsExtensionNumber n
extension_is n e = grind (arith, common_steps)

pub extension_tells : (b : Bool) (n : ℕ) → (IsTrue b ↔ IsExtensionNumber n) → b ≡ is_extension n
extension_tells true n t = sym (extension_true n (t.0 refl))
extension_tells false n t = elim (cases_Bool (is_extension n)) [
  | inl s ↦ absurd (false≢true (t.1 (extension_is n s)))
  | inr s ↦ sym s
]

-- The payload isn't read as one more header.
not_extension : (v : ℕ) (c : List ExtHeader) (m : ℕ) → v ≡ 6 → is_read_on v c m ≡ false → IsExtensionNumber m → ⊥
not_extension v c m six e x = false≢true (sym (subst (λ k. is_read_on k c m ≡ false) six e) ∙ extension_true m x)

some_before : (v : ℕ) (c : List ExtHeader) (m : ℕ) → v ≡ 4 → m ≡ 51 → is_read_on v c m ≡ false → 1 ≤ length c
some_before v [] m four n e = absurd (false≢true (sym (subst (λ k. is_read_on k [] m ≡ false) four e) ∙ eq-eqb m 51 n))
some_before v (h ∷ c) m four n e = omega arith

not_read : (a : Authentication) (m : ℕ) (p : DissectedParts) → replacement_fault a m p ≡ None → is_read_on p.version p.headers m ≡ false
not_read a m p e = grind (arith, common_steps)

pub payload_dissects : (a : Authentication) (m : ℕ) (q : List ℕ) (room : ℕ) (s : List ℕ) (o : Option BaseHeader) → IsBaseOf s o → payload_fault a m q (dissected s) room ≡ None
    → dissected (rewritten (dissected s) (dissected s).headers m q) ≡ rewritten_parts (dissected s) (dissected s).headers m q
payload_dissects a m q room s o is e =
    let p : DissectedParts = dissected s in
    let first = none_first (packet_fault p) _ e in
    let second = none_first (replacement_fault a m p) _ first.1 in
    let chain : IsWholeChain p = whole_chain s o is first.0 in
    let other : is_read_on p.version p.headers m ≡ false = not_read a m p second.0 in
    changed p.headers m q room s o is first.0 (record {
      headers = chain.chain.headers;
      zero = chain.chain.zero_only_first;
      later = chain.later;
      demand = chain.demand;
      ipv6 = λ v none. not_extension p.version p.headers m v other;
      ipv4 = chain.ipv4;
      last = λ v n. some_before p.version p.headers m v n other;
    }) (has_option p) second.1
