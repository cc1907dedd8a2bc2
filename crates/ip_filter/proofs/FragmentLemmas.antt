-- What the headers of a packet say about its fragmentation.
use Rattle.std.specs.List.{list_any}
use Rattle.ip_spec.proofs.Common.{◌≡◌, ℕ, ◌≤◌, ◌<◌, inl, inr, List, [], ◌∷◌, length, take, refl, arith, common_steps, eqb_tells, cases_eq, Bool, true, false, ◌==◌, ◌||◌, if◌then◌else◌, Option, None, Some, option_map_or, ExtHeader}
use Rattle.ip_base.specs.Ipv4Header.{version, ipv4_header_len, protocol, ipv4_fragment_offset}
use Rattle.ip_ext_slices.specs.Ipv4Longest.{longest_ipv4_chain}
use Rattle.ip_ext_slices.proofs.Ipv4Lemmas.{ipv4_longest, by_one}
use Rattle.ip_dissect.specs.Dissection.{DissectedParts, dissected, without_base}
use Rattle.ip_dissect.specs.Extent.{after_base, ipv4_stated}
use Rattle.ip_dissect.specs.End.{base_end}
use Rattle.ip_dissect.specs.Fragment.{is_fragment_header, ipv4_fragment, ipv6_fragment}
use Rattle.ip_dissect.specs.declared.fragment.Fragment.{Fragment}
use Rattle.ip_dissect.specs.declared.end.End.{End}
use Rattle.ip_filter.specs.Truth.{says_fragment, some_fragment}

-- a chain of IPv4 has at most one header, and no fragment header
record FewHeaders (c : List ExtHeader) : Type 0 where
  one : length c ≤ 1
  none : list_any is_fragment_header c ≡ false

few : (n : ℕ) (s : List ℕ) → FewHeaders (longest_ipv4_chain n s)
few n s =
    let is = (ipv4_longest n s).has in
    by_one FewHeaders n (record { one = omega arith; none = refl }) (λ b same auth. record { one = omega arith; none = refl }) (longest_ipv4_chain n s) is.0.chain is.1

few_in : (b r : List ℕ) (o : Bool) → FewHeaders (if o then longest_ipv4_chain (protocol b) r else [])
few_in b r true = few (protocol b) r
few_in b r false = record { one = omega arith; none = refl }

-- which fragment the parts say it is
record SaysFragment (p : DissectedParts) : Type 0 where
  ipv4 : p.version ≡ 4 → (p.fragment ≡ ipv4_fragment p.base) × FewHeaders p.headers
  other : (p.version ≡ 4 → ⊥) → p.fragment ≡ ipv6_fragment p.headers

says_of : (s : List ℕ) (o : Option End) (four : Bool) (x y : DissectedParts) → SaysFragment x → SaysFragment y → SaysFragment (option_map_or (without_base s) o (if four then x else y))
says_of s (Some e) four x y is_x is_y = record { ipv4 = λ is. absurd (omega (arith, is)); other = λ is. refl }
says_of s None true x y is_x is_y = is_x
says_of s None false x y is_x is_y = is_y

says : (s : List ℕ) → SaysFragment (dissected s)
unfolding dissected
says s =
    let b = take (ipv4_header_len s) s in
    says_of s (base_end s) (version s == 4) _ _
    (record { ipv4 = λ is. (refl, few_in b (after_base b (ipv4_stated b) s) (ipv4_fragment_offset b == 0)); other = λ is. absurd (is refl) })
    (record { ipv4 = λ is. absurd (omega (arith, is)); other = λ is. refl })

-- none of the headers says anything
nothing_said : (q : Fragment → Bool) (c : List ExtHeader) → list_any is_fragment_header c ≡ false → list_any (says_fragment q) c ≡ false
nothing_said q [] none = refl
nothing_said q (h ∷ c) none = grind (arith, common_steps, nothing_said q c)

-- of at most one header, the fragment of the chain says all
one_said : (q : Fragment → Bool) (c : List ExtHeader) → length c ≤ 1 → option_map_or q (ipv6_fragment c) false ≡ list_any (says_fragment q) c
one_said q [] few = refl
one_said q (h ∷ []) few = grind (arith, common_steps)
one_said q (h ∷ g ∷ c) few = absurd (omega (arith, few))

module _ (q : Fragment → Bool) (s : List ℕ) where
  abbrev p : DissectedParts
  p = dissected s

  -- a fragment header or the base header of IPv4 says so
  pub by_headers : some_fragment q p ≡ (list_any (says_fragment q) p.headers || option_map_or q (if p.version == 4 then p.fragment else None) false)
  by_headers = elim (cases_eq p.version 4) [
    | inl is ↦
        let four = (says s).ipv4 is in
        rw (is, four.0, nothing_said q p.headers four.1.none) refl
    | inr not ↦
        let differs : (p.version == 4) ≡ false = grind (arith, common_steps, eqb_tells, not) in
        rw differs (grind (arith, common_steps))
  ]

  -- with at most one header, the packet's fragment says so
  pub by_one_header : length p.headers ≤ 1 → option_map_or q p.fragment false ≡ some_fragment q p
  by_one_header one = elim (cases_eq p.version 4) [
    | inl is ↦
        let four = (says s).ipv4 is in
        rw (is, four.0) refl
    | inr not ↦
        let differs : (p.version == 4) ≡ false = grind (arith, common_steps, eqb_tells, not) in
        rw (differs, (says s).other not) (one_said q p.headers one)
  ]

  -- with several headers it is a packet of IPv6, and one of them says so
  pub by_several_headers : 1 < length p.headers → list_any (says_fragment q) p.headers ≡ some_fragment q p
  by_several_headers several = elim (cases_eq p.version 4) [
    | inl is ↦
        let four = (says s).ipv4 is in
        let one : length p.headers ≤ 1 = four.1.one in
        absurd (omega (arith, several, one))
    | inr not ↦
        let differs : (p.version == 4) ≡ false = grind (arith, common_steps, eqb_tells, not) in
        rw differs refl
  ]
