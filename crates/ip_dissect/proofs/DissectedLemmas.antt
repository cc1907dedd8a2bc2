-- Which base header bytes start with, and so which parts their packet has.
use Rattle.ip_spec.proofs.Common.{◌≡◌, ℕ, ◌≤◌, List, [], length, take, refl, sym, subst, ap, ◌∙◌, arith, rules, common_steps, ◌/◌, length-take-le, get_or-take, eqb_tells, eq-eqb, Option, None, Some, option_map_or, ◌==◌, if◌then◌else◌, true, false, IsPrefix}
use Rattle.ip_spec.proofs.PrefixLemmas.{prefix-length}
use Rattle.ip_base.specs.Ipv4Header.{version, ihl, ipv4_header_len, IsIpv4Header, ipv4_header_fault}
use Rattle.ip_base.specs.Ipv6Header.{IsIpv6Header, ipv6_header_fault}
use Rattle.ip_base.specs.declared.err.ipv4.header_slice_error.HeaderSliceError.{HeaderSliceError as Ipv4Error}
use Rattle.ip_base.specs.declared.err.ipv6.header_slice_error.HeaderSliceError.{HeaderSliceError as Ipv6Error}
use Rattle.ip_base.specs.Ipv4HeaderSlice as ipv4_header
use Rattle.ip_base.specs.Ipv6HeaderSlice as ipv6_header
use Rattle.ip_base.specs.declared.ipv4_header_slice.Ipv4HeaderSlice.{Ipv4HeaderSlice}
use Rattle.ip_base.specs.declared.ipv6_header_slice.Ipv6HeaderSlice.{Ipv6HeaderSlice}
use Rattle.ip_base.proofs.BaseLemmas.{SaysIpv4, says_ipv4, SaysIpv6, says_ipv6}
use Rattle.ip_dissect.specs.End.{base_end, has_error}
use Rattle.ip_dissect.specs.Dissection.{DissectedParts, without_base, ipv4_dissected, ipv6_dissected, dissected, HasParts, version_of, version_in, base_bytes}
use Rattle.ip_dissect.specs.Summary.{IsBaseOf}
use Rattle.ip_dissect.specs.declared.dissection.BaseHeader.{BaseHeader}
use Rattle.ip_dissect.specs.declared.dissection.BaseHeader.TheVariants.{Ipv4, Ipv6}
use Rattle.ip_dissect.specs.declared.dissection.Dissection.{Dissection}
use Rattle.ip_dissect.specs.declared.end.End.{End}

-- the parts by what the bytes start with
picked_none : (s : List ℕ) (o : Option End) (e : End) (x : DissectedParts) → o ≡ Some e → option_map_or (without_base s) o x ≡ without_base s e
picked_none s o e x is = rw is refl

pub picked4 : (s : List ℕ) (o : Option End) (v : ℕ) (x y : DissectedParts) → o ≡ None → v ≡ 4 → option_map_or (without_base s) o (if v == 4 then x else y) ≡ x
picked4 s o v x y none four = rw (none, eq-eqb v 4 four) refl

picked6 : (s : List ℕ) (o : Option End) (v : ℕ) (x y : DissectedParts) → o ≡ None → v ≡ 6 → option_map_or (without_base s) o (if v == 4 then x else y) ≡ y
picked6 s o v x y none six = rw (none, six) refl

pub dissected-none : (s : List ℕ) (e : End) → base_end s ≡ Some e → dissected s ≡ without_base s e
unfolding dissected
dissected-none s e is = picked_none s (base_end s) e _ is

pub dissected-ipv4 : (s b : List ℕ) → base_end s ≡ None → IsIpv4Header b → IsPrefix b s → dissected s ≡ ipv4_dissected b s
unfolding dissected
dissected-ipv4 s b none header prefix =
    let says : SaysIpv4 b s = says_ipv4 b s header prefix in
    let is : take (ipv4_header_len s) s ≡ b = ap (λ n. take n s) (sym says.len) ∙ prefix in
    picked4 s (base_end s) (version s) _ _ none (sym says.version ∙ header.version) ∙ ap (λ x. ipv4_dissected x s) is

pub dissected-ipv6 : (s b : List ℕ) → base_end s ≡ None → IsIpv6Header b → IsPrefix b s → dissected s ≡ ipv6_dissected b s
unfolding dissected
dissected-ipv6 s b none header prefix = search (rules, SaysIpv6, says_ipv6, picked6)

-- the version says which header it is
four_of : (s : List ℕ) (o : Option End) (v : ℕ) (x y : DissectedParts) → y.version ≡ 6 → (option_map_or (without_base s) o (if v == 4 then x else y)).version ≡ 4 → (o ≡ None) × (v ≡ 4)
four_of s o v x y six e = search (rules, eqb_tells v 4)

six_of : (s : List ℕ) (o : Option End) (v : ℕ) (x y : DissectedParts) → x.version ≡ 4 → (option_map_or (without_base s) o (if v == 4 then x else y)).version ≡ 6 → (o ≡ None) × (v ≡ 4 → ⊥)
six_of s o v x y four e = search (rules, eqb_tells v 4)

base4 : (s : List ℕ) → base_end s ≡ None → version s ≡ 4 → (5 ≤ ihl s) × (ipv4_header_len s ≤ length s)
base4 s none four = (grind (arith, common_steps), grind (arith, common_steps))

pub base6 : (s : List ℕ) → base_end s ≡ None → (version s ≡ 4 → ⊥) → (version s ≡ 6) × (40 ≤ length s)
base6 s none other = (grind (arith, common_steps), grind (arith, common_steps))

-- bytes s start with the IPv4 base header b
pub record BeginIpv4 (s b : List ℕ) : Type 0 where
  pub header : IsIpv4Header b
  pub prefix : IsPrefix b s
  pub is : dissected s ≡ ipv4_dissected b s

-- bytes s start with the IPv6 base header b
pub record BeginIpv6 (s b : List ℕ) : Type 0 where
  pub header : IsIpv6Header b
  pub prefix : IsPrefix b s
  pub is : dissected s ≡ ipv6_dissected b s

prefix_taken : (n : ℕ) (s : List ℕ) → IsPrefix (take n s) s
prefix_taken n s = grind (arith, common_steps)

version_taken : (n : ℕ) (s : List ℕ) → 1 ≤ n → version (take n s) ≡ version s
version_taken n s some = ap (λ x. x / 16) (get_or-take n s 0 0 some)

header4 : (s : List ℕ) → version s ≡ 4 → 5 ≤ ihl s → ipv4_header_len s ≤ length s → IsIpv4Header (take (ipv4_header_len s) s) × IsPrefix (take (ipv4_header_len s) s) s
header4 s four least enough = (grind (arith, common_steps), grind (arith, common_steps))

header6 : (s : List ℕ) → version s ≡ 6 → 40 ≤ length s → IsIpv6Header (take 40 s) × IsPrefix (take 40 s) s
header6 s six enough = search (rules, version_taken, prefix_taken, length-take-le)

pub begin_ipv4 : (s : List ℕ) → (dissected s).version ≡ 4 → BeginIpv4 s (take (ipv4_header_len s) s)
unfolding dissected
begin_ipv4 s v = search (rules, four_of, base4, header4, picked4)

pub begin_ipv6 : (s : List ℕ) → (dissected s).version ≡ 6 → BeginIpv6 s (take 40 s)
unfolding dissected
begin_ipv6 s v = search (rules, six_of, base6, header6, picked6)

base_none_of : (s : List ℕ) (o : Option End) → base_end s ≡ o → (o ≡ None → ⊥) → IsBaseOf s None
base_none_of s (Some e) is some = record { version = ap (λ (p : DissectedParts). p.version) (sym (dissected-none s e is)); base = ap (λ (p : DissectedParts). p.base) (sym (dissected-none s e is)) }
base_none_of s None is some = absurd (some refl)

version_there : (s : List ℕ) (o : Option End) (v : ℕ) (x y : DissectedParts) → x.version ≡ 4 → y.version ≡ 6 → o ≡ None → 0 ≡ (option_map_or (without_base s) o (if v == 4 then x else y)).version → ⊥
version_there s o v x y four six none zero = search (rules, eqb_tells v 4)

has_version : (s : List ℕ) → base_end s ≡ None → 0 ≡ (dissected s).version → ⊥
unfolding dissected
has_version s none zero = version_there s (base_end s) (version s) _ _ refl refl none zero

-- so do bytes whose first 40 are an IPv6 base header, and those whose first ones are an IPv4 base header
none6 : (s : List ℕ) → version s ≡ 6 → 40 ≤ length s → base_end s ≡ None
none6 s six enough = grind (arith, common_steps)

none4 : (s : List ℕ) → version s ≡ 4 → 5 ≤ ihl s → ipv4_header_len s ≤ length s → base_end s ≡ None
none4 s four least enough = grind (arith, common_steps)

pub begun6 : (s b : List ℕ) → IsIpv6Header b → IsPrefix b s → dissected s ≡ ipv6_dissected b s
begun6 s b header prefix =
    let says : SaysIpv6 b s = says_ipv6 b s header prefix in
    dissected-ipv6 s b (none6 s (sym says.version ∙ header.version) (omega (arith, prefix-length b s prefix, header.len))) header prefix

pub begun4 : (s b : List ℕ) → IsIpv4Header b → IsPrefix b s → dissected s ≡ ipv4_dissected b s
begun4 s b header prefix =
    let says : SaysIpv4 b s = says_ipv4 b s header prefix in
    let enough : ipv4_header_len s ≤ length s = omega (arith, prefix-length b s prefix, says.len) in
    let least : 5 ≤ ihl s = omega (arith, header.least, header.len, says.len) in
    dissected-ipv4 s b (none4 s (sym says.version ∙ header.version) least enough) header prefix

pub header_begins6 : (s : List ℕ) → IsIpv6Header (take 40 s) → BeginIpv6 s (take 40 s)
header_begins6 s header = search (rules, prefix_taken, begun6)

pub header_begins4 : (s : List ℕ) → IsIpv4Header (take (ipv4_header_len s) s) → BeginIpv4 s (take (ipv4_header_len s) s)
header_begins4 s header = search (rules, prefix_taken, begun4)

-- which base header they start with, and so which parts they have
pub base_none : (s : List ℕ) → (base_end s ≡ None → ⊥) → IsBaseOf s None
base_none s some = base_none_of s (base_end s) refl some

pub base_none_empty : (s : List ℕ) → length s ≡ 0 → IsBaseOf s None
base_none_empty s e = base_none s (λ none. search rules)

pub base_none_other : (s : List ℕ) → (version s ≡ 4 → ⊥) → (version s ≡ 6 → ⊥) → IsBaseOf s None
base_none_other s four six = base_none s (λ none. six (base6 s none four).0)

pub base_none4 : (s : List ℕ) (e : Ipv4Error) → version s ≡ 4 → Some e ≡ ipv4_header_fault s → IsBaseOf s None
base_none4 s e four fault = base_none s (λ none. grind (arith, common_steps))

pub base_none6 : (s : List ℕ) (e : Ipv6Error) → version s ≡ 6 → Some e ≡ ipv6_header_fault s → IsBaseOf s None
base_none6 s e six fault = base_none s (λ none. grind (arith, common_steps))

pub base_some4 : (s : List ℕ) (h : Ipv4HeaderSlice) → IsIpv4Header (ipv4_header.bytes h) → IsPrefix (ipv4_header.bytes h) s → IsBaseOf s (Some (Ipv4 h))
base_some4 s h header prefix = let is : dissected s ≡ ipv4_dissected (ipv4_header.bytes h) s = begun4 s _ header prefix in record { version = ap (λ (p : DissectedParts). p.version) (sym is); base = ap (λ (p : DissectedParts). p.base) (sym is) }

pub base_some6 : (s : List ℕ) (h : Ipv6HeaderSlice) → IsIpv6Header (ipv6_header.bytes h) → IsPrefix (ipv6_header.bytes h) s → IsBaseOf s (Some (Ipv6 h))
base_some6 s h header prefix = let is : dissected s ≡ ipv6_dissected (ipv6_header.bytes h) s = begun6 s _ header prefix in record { version = ap (λ (p : DissectedParts). p.version) (sym is); base = ap (λ (p : DissectedParts). p.base) (sym is) }

pub begins4 : (s : List ℕ) (o : Option BaseHeader) (b : List ℕ) → IsBaseOf s o → option_map_or version_in o 0 ≡ 4 → option_map_or base_bytes o [] ≡ b → BeginIpv4 s b
begins4 s o b is version base =
    let w : BeginIpv4 s (take (ipv4_header_len s) s) = begin_ipv4 s (sym is.version ∙ version) in
    let P : List ℕ → Type 0 = λ b. BeginIpv4 s b in
    subst P (sym (sym base ∙ is.base ∙ ap (λ (p : DissectedParts). p.base) w.is)) w

pub begins6 : (s : List ℕ) (o : Option BaseHeader) (b : List ℕ) → IsBaseOf s o → option_map_or version_in o 0 ≡ 6 → option_map_or base_bytes o [] ≡ b → BeginIpv6 s b
begins6 s o b is version base = search (rules, begin_ipv6, is)

pub base_error : (s : List ℕ) (e : End) → base_end s ≡ Some e → has_error e ≡ true
base_error s e is = search rules

-- bytes s don't start with a base header, for the reason e
pub record BeginNone (s : List ℕ) : Type 0 where
  pub reason : End
  pub ends : base_end s ≡ Some reason
  pub is : dissected s ≡ without_base s reason

none_of : (s : List ℕ) (o : Option End) → base_end s ≡ o → 0 ≡ (dissected s).version → BeginNone s
none_of s (Some e) is zero = record { reason = e; ends = is; is = dissected-none s e is }
none_of s None is zero = absurd (has_version s is zero)

pub begins_none : (s : List ℕ) → IsBaseOf s None → BeginNone s
begins_none s is = none_of s (base_end s) refl is.version

-- bytes without a base header have no extension headers
no_version_of : (s : List ℕ) (o : Option End) (v : ℕ) (x y : DissectedParts) → x.version ≡ 4 → y.version ≡ 6
    → ((option_map_or (without_base s) o (if v == 4 then x else y)).version ≡ 6 → ⊥) → ((option_map_or (without_base s) o (if v == 4 then x else y)).version ≡ 4 → ⊥)
    → (option_map_or (without_base s) o (if v == 4 then x else y)).headers ≡ []
no_version_of s o v x y four six p q = search (rules, eqb_tells v 4)

no_version : (s : List ℕ) → ((dissected s).version ≡ 6 → ⊥) → ((dissected s).version ≡ 4 → ⊥) → (dissected s).headers ≡ []
unfolding dissected
no_version s p q = no_version_of s (base_end s) (version s) _ _ refl refl p q

pub no_headers : (s : List ℕ) (d : Dissection) → HasParts (dissected s) d → false ≡ (version_of d == 6) → false ≡ (version_of d == 4) → (dissected s).headers ≡ []
no_headers s d h six four = no_version s (search rules) (search rules)
