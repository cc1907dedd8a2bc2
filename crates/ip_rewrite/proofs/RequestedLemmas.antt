-- A packet of which several things are changed dissects as the old one with these changes.
use Rattle.ip_spec.proofs.Common.{◌≡◌, ℕ, List, [], ◌∷◌, inl, inr, subst, refl, sym, ◌∙◌, ap, Bool, true, false, cases_Bool, cond-true, ◌&&◌, nat_le, Option, None, AllByRecursion, cleared_chain, ExtHeader}
use Rattle.ip_dissect.specs.LaterDemand.{is_later}
use Rattle.ip_dissect.specs.Dissection.{DissectedParts, dissected}
use Rattle.ip_dissect.specs.Summary.{IsBaseOf, is_later_end}
use Rattle.ip_dissect.specs.declared.dissection.BaseHeader.{BaseHeader}
use Rattle.ip_rewrite.specs.Jumbogram.{jumbo_offset}
use Rattle.ip_rewrite.specs.Rewritten.{jumbo_fault}
use Rattle.ip_rewrite.specs.Selection.{selects_first, kept, any_selected}
use Rattle.ip_rewrite.specs.Without.{packet_fault, selection_fault}
use Rattle.ip_rewrite.specs.Order.{rank, rank_of, rises_from}
use Rattle.ip_rewrite.specs.Request.{cleared_if, ordered_if, changed_headers, leaving_fault, clearing_step_fault, ordering_step_fault, with_kept, change_fault, requested, requested_parts}
use Rattle.ip_rewrite.specs.Writing.{HasOption}
use Rattle.ip_rewrite.specs.declared.request.Request.{Request}
use Rattle.ip_rewrite.proofs.ChainLemmas.{AreHeaders}
use Rattle.ip_rewrite.proofs.JumbogramLemmas.{has_option}
use Rattle.ip_rewrite.proofs.DissectLemmas.{none_first, IsWholeChain, whole_chain, CanFollow, as_is, follow_kept, has_kept, changed}
use Rattle.ip_rewrite.proofs.ClearingLemmas.{later_same, follow_cleared, has_cleared}
use Rattle.ip_rewrite.proofs.OrderLemmas.{has_ordered}
use Rattle.ip_rewrite.proofs.OrderingLemmas.{CanOrder, can_order, follow_ordered}
use Rattle.ip_rewrite.proofs.RequestLemmas.{cleared_routing}
use Rattle.ip_rewrite.proofs.SelectionLemmas.{all_stay}

-- headers are left out
follow_left : (r : Request) (p : DissectedParts) → IsWholeChain p → leaving_fault r p ≡ None → CanFollow p.version (is_later_end p.end) (kept r.without p.headers) p.number
follow_left r p chain e = elim (cases_Bool (any_selected (λ h. true) r.without 0 p.headers)) [
  | inl s ↦
      let faults = none_first (selection_fault r.without r.authentication p) (jumbo_fault (selects_first r.without p.headers) p) (sym (cond-true (any_selected (λ h. true) r.without 0 p.headers) _ None s) ∙ e) in
      follow_kept r.without r.authentication p chain faults.0
  | inr s ↦ subst (λ c. CanFollow p.version (is_later_end p.end) c p.number) (sym (all_stay r.without 0 p.headers s)) (as_is p chain)
]

option_left : (r : Request) (p : DissectedParts) → leaving_fault r p ≡ None → HasOption (jumbo_offset p) (kept r.without p.headers)
option_left r p e = elim (cases_Bool (any_selected (λ h. true) r.without 0 p.headers)) [
  | inl s ↦
      let faults = none_first (selection_fault r.without r.authentication p) (jumbo_fault (selects_first r.without p.headers) p) (sym (cond-true (any_selected (λ h. true) r.without 0 p.headers) _ None s) ∙ e) in
      has_kept r.without (jumbo_offset p) p.headers faults.1 (has_option p)
  | inr s ↦ subst (HasOption (jumbo_offset p)) (sym (all_stay r.without 0 p.headers s)) (has_option p)
]

-- the others are cleared
follow_cleared_if : (b : Bool) (v : ℕ) (l : Bool) (c : List ExtHeader) (m : ℕ) → CanFollow v l c m → CanFollow v l (cleared_if b c) m
follow_cleared_if true v l c m f = follow_cleared v l c m f
follow_cleared_if false v l c m f = f

option_cleared_if : (b : Bool) (o : Option ℕ) (c : List ExtHeader) → HasOption o c → HasOption o (cleared_if b c)
option_cleared_if true o c a = has_cleared o c a
option_cleared_if false o c a = a

-- which changes neither their order nor whether they fragment
cleared_rises : (k : ℕ) (c : List ExtHeader) → rises_from k (cleared_chain c) ≡ rises_from k c
cleared_rises k [] = refl
cleared_rises k (h ∷ c) =
    ap (λ b. nat_le k (rank_of h.number b) && rises_from (rank_of h.number b) (cleared_chain c)) (cleared_routing c) ∙ ap (λ b. nat_le k (rank h c) && b) (cleared_rises (rank h c) c)

none_later_cleared : (c : List ExtHeader) → AreHeaders c → AllByRecursion (λ h. is_later h ≡ false) c → AllByRecursion (λ h. is_later h ≡ false) (cleared_chain c)
none_later_cleared [] a n = tt
none_later_cleared (h ∷ c) a n = (later_same h a.0 ∙ n.0, none_later_cleared c a.1 n.1)

can_order_cleared : (b : Bool) (c : List ExtHeader) → AreHeaders c → CanOrder c → CanOrder (cleared_if b c)
can_order_cleared false c a x = x
can_order_cleared true c a (inl s) = inl (cleared_rises 0 c ∙ s)
can_order_cleared true c a (inr n) = inr (none_later_cleared c a n)

-- and put in order
follow_ordered_if : (b : Bool) (v : ℕ) (l : Bool) (c : List ExtHeader) (m : ℕ) → (b ≡ true → CanOrder c) → CanFollow v l c m → CanFollow v l (ordered_if b c) m
follow_ordered_if true v l c m x f = follow_ordered v l c m (x refl) f
follow_ordered_if false v l c m x f = f

option_ordered_if : (b : Bool) (o : Option ℕ) (c : List ExtHeader) → HasOption o c → HasOption o (ordered_if b c)
option_ordered_if true o c a = has_ordered o c a
option_ordered_if false o c a = a

orders : (r : Request) (p : DissectedParts) → ordering_step_fault r p ≡ None → r.orders ≡ true → CanOrder (kept r.without p.headers)
orders r p e s = can_order r.authentication (with_kept r p) (sym (cond-true r.orders _ None s) ∙ e)

follow_changed : (r : Request) (p : DissectedParts) → IsWholeChain p → leaving_fault r p ≡ None → ordering_step_fault r p ≡ None → CanFollow p.version (is_later_end p.end) (changed_headers r p.headers) p.number
follow_changed r p chain left ordered =
    let c : List ExtHeader = kept r.without p.headers in
    let f : CanFollow p.version (is_later_end p.end) c p.number = follow_left r p chain left in
    follow_ordered_if r.orders p.version (is_later_end p.end) (cleared_if r.clears c) p.number (λ s. can_order_cleared r.clears c f.headers (orders r p ordered s))
    (follow_cleared_if r.clears p.version (is_later_end p.end) c p.number f)

option_changed : (r : Request) (p : DissectedParts) → leaving_fault r p ≡ None → HasOption (jumbo_offset p) (changed_headers r p.headers)
option_changed r p e =
    option_ordered_if r.orders (jumbo_offset p) (cleared_if r.clears (kept r.without p.headers)) (option_cleared_if r.clears (jumbo_offset p) (kept r.without p.headers) (option_left r p e))

pub request_option : (r : Request) (p : DissectedParts) (room : ℕ) → change_fault r p room ≡ None → HasOption (jumbo_offset p) (changed_headers r p.headers)
request_option r p room e = option_changed r p (none_first (leaving_fault r p) _ (none_first (packet_fault p) _ e).1).0

pub request_dissects : (r : Request) (room : ℕ) (s : List ℕ) (o : Option BaseHeader) → IsBaseOf s o → change_fault r (dissected s) room ≡ None → dissected (requested r (dissected s)) ≡ requested_parts r (dissected s)
request_dissects r room s o is e =
    let p : DissectedParts = dissected s in
    let first = none_first (packet_fault p) _ e in
    let second = none_first (leaving_fault r p) _ first.1 in
    let third = none_first (clearing_step_fault r p) _ second.1 in
    let fourth = none_first (ordering_step_fault r p) _ third.1 in
    changed (changed_headers r p.headers) p.number p.payload room s o is first.0 (follow_changed r p (whole_chain s o is first.0) second.0 fourth.0) (option_changed r p second.0) fourth.1
