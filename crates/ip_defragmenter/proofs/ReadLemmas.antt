-- Which fragment a packet is, by its version.
use Rattle.ip_spec.proofs.Common.{◌≡◌, ℕ, List, arith, refl, sym, ◌∙◌, ap, true, false, Option, Some, None, is_some, Result, Ok, Err, option_map, option_map_or, cond-true, cond-false, eq-eqb, ne_eqb, ◌==◌, ExtHeader, find}
use Rattle.ip_base.specs.Ipv4Header.{is_ipv4_fragmenting}
use Rattle.ip_base.specs.declared.ipv4_header_slice.Ipv4HeaderSlice.{Ipv4HeaderSlice}
use Rattle.ip_base.specs.declared.ipv6_header_slice.Ipv6HeaderSlice.{Ipv6HeaderSlice}
use Rattle.ip_dissect.specs.Fragment.{fragments}
use Rattle.ip_dissect.specs.Dissection.{DissectedParts, dissected, version_in}
use Rattle.ip_dissect.specs.Summary.{IsBaseOf}
use Rattle.ip_dissect.specs.declared.dissection.BaseHeader.{BaseHeader}
use Rattle.ip_dissect.specs.declared.dissection.BaseHeader.TheVariants.{Ipv4, Ipv6}
use Rattle.ip_defragmenter.specs.FragmentOf.{FragmentParts, ipv4_fragment_parts, ipv6_fragment_parts, ipv6_fragment_parts_by, fragmented, unusable, fragment_by, packet_fragment}
use Rattle.ip_defragmenter.specs.declared.err.FragmentError.{FragmentError}

pub of_ipv4 : (s : List ℕ) (o : Option BaseHeader) (b : Ipv4HeaderSlice) → IsBaseOf s o → o ≡ Some (Ipv4 b) → ipv4_fragment_parts (dissected s) ≡ fragmented (dissected s)
of_ipv4 s o b is e =
    let version : (dissected s).version ≡ 4 = sym is.version ∙ ap (λ (x : Option BaseHeader). option_map_or version_in x 0) e in
    sym (cond-true ((dissected s).version == 4) (ipv4_fragment_parts (dissected s)) _ (eq-eqb (dissected s).version 4 version))

pub of_ipv6 : (s : List ℕ) (o : Option BaseHeader) (b : Ipv6HeaderSlice) → IsBaseOf s o → o ≡ Some (Ipv6 b) → ipv6_fragment_parts (dissected s) ≡ fragmented (dissected s)
of_ipv6 s o b is e =
    let version : (dissected s).version ≡ 6 = sym is.version ∙ ap (λ (x : Option BaseHeader). option_map_or version_in x 0) e in
    sym (cond-false ((dissected s).version == 4) (ipv4_fragment_parts (dissected s)) _ (ne_eqb (dissected s).version 4 (λ (four : (dissected s).version ≡ 4). omega (arith, four, version)))
    ∙ cond-true ((dissected s).version == 6) (ipv6_fragment_parts (dissected s)) None (eq-eqb (dissected s).version 6 version))

pub of_none : (s : List ℕ) (o : Option BaseHeader) → IsBaseOf s o → o ≡ None → fragmented (dissected s) ≡ None
of_none s o is e =
    let version : (dissected s).version ≡ 0 = sym is.version ∙ ap (λ (x : Option BaseHeader). option_map_or version_in x 0) e in
    cond-false ((dissected s).version == 4) (ipv4_fragment_parts (dissected s)) _ (ne_eqb (dissected s).version 4 (λ (four : (dissected s).version ≡ 4). omega (arith, four, version)))
    ∙ cond-false ((dissected s).version == 6) (ipv6_fragment_parts (dissected s)) None (ne_eqb (dissected s).version 6 (λ (six : (dissected s).version ≡ 6). omega (arith, six, version)))

-- It is no fragment, a fragment, or one that can't be used.
pub is_no_fragment : (p : DissectedParts) → fragmented p ≡ None → (let r : Result (Option FragmentParts) FragmentError = Ok None in r) ≡ packet_fragment p
unfolding packet_fragment
is_no_fragment p e = sym (ap (λ (o : Option FragmentParts). option_map_or (fragment_by p) o (Ok None)) e)

by_test : (p : DissectedParts) (f : FragmentParts) (e : Option FragmentError) → Some f ≡ fragmented p → e ≡ unusable p → option_map_or Err e (Ok (Some f)) ≡ packet_fragment p
unfolding packet_fragment
by_test p f e is test = ap (λ (o : Option FragmentError). option_map_or Err o (let r : Result (Option FragmentParts) FragmentError = Ok (Some f) in r)) test ∙ ap (λ (o : Option FragmentParts). option_map_or (fragment_by p) o (Ok None)) is

pub is_fragment : (p : DissectedParts) (f : FragmentParts) → Some f ≡ fragmented p → None ≡ unusable p → (let r : Result (Option FragmentParts) FragmentError = Ok (Some f) in r) ≡ packet_fragment p
is_fragment p f is test = by_test p f None is test

is_unusable_by : (p : DissectedParts) (o : Option FragmentParts) (e : FragmentError) → o ≡ fragmented p → is_some o ≡ true → Some e ≡ unusable p → (let r : Result (Option FragmentParts) FragmentError = Err e in r) ≡ packet_fragment p
is_unusable_by p None e is some test = absurd (cc)
is_unusable_by p (Some f) e is some test = by_test p f (Some e) is test

pub is_unusable : (p : DissectedParts) (e : FragmentError) → is_some (fragmented p) ≡ true → Some e ≡ unusable p → (let r : Result (Option FragmentParts) FragmentError = Err e in r) ≡ packet_fragment p
is_unusable p e some test = is_unusable_by p (fragmented p) e refl some test

-- there is one exactly if the base header says so, or a fragment header was found
pub some_ipv4 : (p : DissectedParts) → is_ipv4_fragmenting p.base ≡ true → is_some (ipv4_fragment_parts p) ≡ true
some_ipv4 p e = ap is_some (cond-true (is_ipv4_fragmenting p.base) _ None e)

pub none_ipv4 : (p : DissectedParts) → is_ipv4_fragmenting p.base ≡ false → ipv4_fragment_parts p ≡ None
none_ipv4 p e = cond-false (is_ipv4_fragmenting p.base) _ None e

pub some_ipv6 : (p : DissectedParts) (h : ExtHeader) → find fragments p.headers ≡ Some h → is_some (ipv6_fragment_parts p) ≡ true
some_ipv6 p h e = ap (λ (o : Option ExtHeader). is_some (option_map (ipv6_fragment_parts_by p) o)) e

pub none_ipv6 : (p : DissectedParts) → find fragments p.headers ≡ None → ipv6_fragment_parts p ≡ None
none_ipv6 p e = ap (option_map (ipv6_fragment_parts_by p)) e
