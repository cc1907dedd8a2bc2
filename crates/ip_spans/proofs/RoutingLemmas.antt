-- The routing header at the start of bytes.
use Rattle.std.proofs.Common.{inl}
use Rattle.ip_spec.proofs.Common.{◌≡◌, ◌≤◌, ◌<◌, ℕ, List, length, slice_index, refl, sym, ap, ◌∙◌, subst, arith, get_or-take, IsPrefix, IsRawHeader, raw, HOP_BY_HOP}
use Rattle.ip_spec.proofs.PrefixLemmas.{prefix-append}
use Rattle.ip_spec.proofs.HeaderLemmas.{one_header}
use Rattle.ip_header_contents.proofs.RoutingLemmas.{one_layout}
use Rattle.ip_header_contents.specs.Routing.{IsLayout}
use Rattle.ip_header_contents.specs.declared.routing_layout.AddressLayout.{AddressLayout}
use Rattle.ip_spans.specs.RoutingFields.{HasNoAddress}

one_raw_header : (b d s : List ℕ) → IsRawHeader b → IsRawHeader d → IsPrefix b s → IsPrefix d s → b ≡ d
one_raw_header b d s x y f g = one_header HOP_BY_HOP b d _ _ (raw (inl refl) x) (raw (inl refl) y) (sym (prefix-append b s f) ∙ prefix-append d s g)

byte_4 : (b s : List ℕ) → IsRawHeader b → IsPrefix b s → slice_index b 4 ≡ slice_index s 4
byte_4 b s header prefix =
    let long : 4 < length b = omega (arith, header.len) in
    sym (ap (λ x. slice_index x 4) prefix) ∙ get_or-take (length b) s 4 0 long

-- b is the header at the start of s
module _ (b s : List ℕ) (i : ℕ) (header : IsRawHeader b) (prefix : IsPrefix b s) where
  pub no_layout : ((x : AddressLayout) → IsLayout b x → ⊥) → HasNoAddress s i
  no_layout none d y g x lies = absurd (none x (subst (λ c. IsLayout c x) (one_raw_header d b s y header g prefix) lies))

  pub too_few : (z : AddressLayout) → slice_index s 4 < 256 → IsLayout b z → z.count ≤ i → HasNoAddress s i
  too_few z byte lie few d y g x lies =
      let same : x ≡ z = one_layout b x z (rw (byte_4 b s header prefix) byte) (subst (λ c. IsLayout c x) (one_raw_header d b s y header g prefix) lies) lie in
      subst (λ w. w.count ≤ i) (sym same) few
