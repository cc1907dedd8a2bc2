-- A packet whose headers are put in order dissects as the old one with this order.
use Rattle.ip_spec.proofs.Common.{◌≡◌, ℕ, ◌⊎◌, List, [], ◌∷◌, inl, inr, subst, refl, sym, ◌∙◌, arith, common_steps, Bool, true, false, false≢true, cases_Bool, ◌||◌, list_any, AllByRecursion, None, IsHeader, ExtHeader}
use Rattle.ip_dissect.specs.LaterDemand.{is_later, has_later}
use Rattle.ip_dissect.specs.Fragment.{fragments}
use Rattle.ip_dissect.specs.Dissection.{DissectedParts}
use Rattle.ip_dissect.proofs.LaterLemmas.{met}
use Rattle.ip_rewrite.specs.Order.{in_order, is_in_order, order_fault}
use Rattle.ip_rewrite.specs.declared.which.Authentication.{Authentication}
use Rattle.ip_rewrite.proofs.ChainLemmas.{not_later}
use Rattle.ip_rewrite.proofs.DissectLemmas.{CanFollow}
use Rattle.ip_rewrite.proofs.OrderLemmas.{all_ordered, ordered_count, zero_first}
use Rattle.ip_rewrite.proofs.OrderLawLemmas.{in_order_same}

-- no header is that of a later fragment
none_later : (c : List ExtHeader) → list_any fragments c ≡ false → AllByRecursion (λ h. is_later h ≡ false) c
none_later [] e = tt
none_later (h ∷ c) e = (not_later h (first (fragments h) (list_any fragments c) e), none_later c (second (fragments h) (list_any fragments c) e))
  where
    first : (a b : Bool) → (a || b) ≡ false → a ≡ false
    first true b e = absurd (false≢true (sym e))
    first false b e = refl

    second : (a b : Bool) → (a || b) ≡ false → b ≡ false
    second true b e = absurd (false≢true (sym e))
    second false b e = e

later_none : (c : List ExtHeader) → AllByRecursion (λ h. is_later h ≡ false) c → has_later c ≡ false
later_none [] a = refl
later_none (h ∷ c) a = rw (a.0, later_none c a.1) refl

unfragmented : (a : Authentication) (p : DissectedParts) → is_in_order p.headers ≡ false → order_fault a p ≡ None → list_any fragments p.headers ≡ false
unfragmented a p s e = grind (arith, common_steps)

-- Headers that are in order, or of which none is that of a later fragment, can be put in order.
abbrev pub CanOrder : List ExtHeader → Type 0
CanOrder c = (is_in_order c ≡ true) ⊎ AllByRecursion (λ h. is_later h ≡ false) c

pub can_order : (a : Authentication) (p : DissectedParts) → order_fault a p ≡ None → CanOrder p.headers
can_order a p e = elim (cases_Bool (is_in_order p.headers)) [ inl s ↦ inl s | inr s ↦ inr (none_later p.headers (unfragmented a p s e)) ]

pub follow_ordered : (v : ℕ) (l : Bool) (c : List ExtHeader) (m : ℕ) → CanOrder c → CanFollow v l c m → CanFollow v l (in_order c) m
follow_ordered v l c m (inl s) f = subst (λ d. CanFollow v l d m) (sym (in_order_same 0 c s)) f
follow_ordered v l c m (inr none) f =
    let still : has_later (in_order c) ≡ false = later_none (in_order c) (all_ordered (λ h. is_later h ≡ false) c none) in
    record {
      headers = all_ordered (λ g. IsHeader g.number g.bytes) c f.headers;
      zero = zero_first c f.zero;
      later = still ∙ (sym (later_none c none) ∙ f.later);
      demand = met (in_order c) still;
      ipv6 = f.ipv6;
      ipv4 = λ four. record { one = omega (arith, (f.ipv4 four).one, ordered_count c); number = all_ordered (λ g. g.number ≡ 51) c (f.ipv4 four).number };
      last = λ four n. omega (arith, f.last four n, ordered_count c);
    }
