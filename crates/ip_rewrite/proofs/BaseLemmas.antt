-- The base header of a packet whose headers end without an error.
use Rattle.ip_spec.proofs.Common.{◌≡◌, ℕ, ◌≤◌, ◌<◌, List, length, subst, refl, sym, ◌∙◌, ap, arith, common_steps, false, false≢true, Option, None, Some, ◌==◌, if◌then◌else◌}
use Rattle.ip_base.specs.Ipv4HeaderSlice as ipv4_header
use Rattle.ip_base.specs.Ipv6HeaderSlice as ipv6_header
use Rattle.ip_dissect.specs.End.{has_error}
use Rattle.ip_dissect.specs.Dissection.{DissectedParts, dissected}
use Rattle.ip_dissect.specs.Summary.{IsBaseOf}
use Rattle.ip_dissect.specs.declared.dissection.BaseHeader.{BaseHeader}
use Rattle.ip_dissect.specs.declared.dissection.BaseHeader.TheVariants.{Ipv4, Ipv6}
use Rattle.ip_dissect.proofs.DissectedLemmas.{BeginIpv4, begins4, BeginIpv6, begins6, BeginNone, begins_none, base_error}
use Rattle.ip_rewrite.specs.Base.{number_offset}

abbrev HasBase : DissectedParts → Type 0
HasBase p = (if p.version == 4 then 20 else 40) ≤ length p.base

has_base : (s : List ℕ) (o : Option BaseHeader) → IsBaseOf s o → has_error (dissected s).end ≡ false → HasBase (dissected s)
has_base s None is none = let w : BeginNone s = begins_none s is in absurd (false≢true (sym none ∙ (ap (λ (p : DissectedParts). has_error p.end) w.is ∙ base_error s w.reason w.ends)))
has_base s (Some (Ipv4 h)) is none =
    let b : List ℕ = ipv4_header.bytes h in
    let w : BeginIpv4 s b = begins4 s (Some (Ipv4 h)) b is refl refl in
    let size : 20 ≤ length b = omega (arith, w.header.least, w.header.len) in
    subst HasBase (sym w.is) size
has_base s (Some (Ipv6 h)) is none =
    let b : List ℕ = ipv6_header.bytes h in
    let w : BeginIpv6 s b = begins6 s (Some (Ipv6 h)) b is refl refl in
    let size : 40 ≤ length b = omega (arith, w.header.len) in
    subst HasBase (sym w.is) size

pub base_there : (s : List ℕ) (o : Option BaseHeader) → IsBaseOf s o → has_error (dissected s).end ≡ false → (if (dissected s).version == 4 then 20 else 40) ≤ length (dissected s).base
base_there s o is none = has_base s o is none

-- The number of what follows is within the base header.
pub offset_within : (p : DissectedParts) → (if p.version == 4 then 20 else 40) ≤ length p.base → number_offset p.version < length p.base
offset_within p fits = grind (arith, common_steps)
