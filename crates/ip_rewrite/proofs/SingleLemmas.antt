-- Requests for a single change.
use Rattle.ip_spec.proofs.Common.{◌≡◌, ℕ, ◌+◌, List, [], ◌∷◌, refl, ◌∙◌, ap, Bool, true, false, ◌||◌, ◌&&◌, not, cond-true, cond-false, and-false, Option, None, Some, option_or, cleared_chain, ExtHeader}
use Rattle.ip_dissect.specs.Dissection.{DissectedParts}
use Rattle.ip_rewrite.specs.Rewritten.{jumbo_fault, room_fault}
use Rattle.ip_rewrite.specs.Selection.{selects, selects_first, kept, any_selected}
use Rattle.ip_rewrite.specs.Without.{packet_fault, selection_fault, without_fault, has_segments, keeps_checksums}
use Rattle.ip_rewrite.specs.Clearing.{reserved_fault, clearing_fault}
use Rattle.ip_rewrite.specs.Order.{in_order, order_fault, ordering_fault}
use Rattle.ip_rewrite.specs.Request.{changed_headers, leaving_fault, with_kept, change_fault, no_headers, leaving, clearing, ordering}
use Rattle.ip_rewrite.specs.declared.which.Which.{Which}
use Rattle.ip_rewrite.specs.declared.which.Authentication.{Authentication}
use Rattle.ip_rewrite.specs.declared.request.Request.{Request}
use Rattle.ip_rewrite.specs.declared.err.RewriteError.{RewriteError}
use Rattle.ip_rewrite.specs.declared.err.RewriteError.TheVariants as err
use Rattle.ip_rewrite.proofs.SelectionLemmas.{all_stay}

-- No header is selected.
none_of : (a b c d e : Bool) → (a && false || b && false || c && false || d && false || e && false) ≡ false
none_of a b c d e = rw (and-false a, and-false b, and-false c, and-false d, and-false e) refl

none_is : (i : ℕ) (h : ExtHeader) → selects no_headers i h ≡ false
none_is i h = none_of _ _ _ _ _

pub none_any : (t : ExtHeader → Bool) (i : ℕ) (c : List ExtHeader) → any_selected t no_headers i c ≡ false
none_any t i [] = refl
none_any t i (h ∷ c) = ap (λ b. b && t h || any_selected t no_headers (i + 1) c) (none_is i h) ∙ none_any t (i + 1) c

all_kept : (c : List ExtHeader) → kept no_headers c ≡ c
all_kept c = all_stay no_headers 0 c (none_any (λ h. true) 0 c)

pub keeps_all : (p : DissectedParts) → keeps_checksums no_headers p ≡ true
keeps_all p = ap (λ b. not b) (none_any has_segments 0 p.headers)

-- Reserved bits alone are cleared.
pub only_cleared : (a : Authentication) (c : List ExtHeader) → changed_headers (clearing a) c ≡ cleared_chain c
only_cleared a c = ap cleared_chain (all_kept c)

no_leaving : (r : Request) (p : DissectedParts) → any_selected (λ h. true) r.without 0 p.headers ≡ false → leaving_fault r p ≡ None
no_leaving r p e = cond-false (any_selected (λ h. true) r.without 0 p.headers) (option_or (selection_fault r.without r.authentication p) (jumbo_fault (selects_first r.without p.headers) p)) None e

pub clearing_is : (a : Authentication) (p : DissectedParts) (room : ℕ) → change_fault (clearing a) p room ≡ clearing_fault a p room
clearing_is a p room =
    ap (λ x. option_or (packet_fault p) (option_or x (option_or (reserved_fault a (with_kept (clearing a) p)) (room_fault p (cleared_chain (kept no_headers p.headers)) p.payload room)))) (no_leaving (clearing a) p (none_any (λ h. true) 0 p.headers))
    ∙ ap (λ (c : List ExtHeader). option_or (packet_fault p) (option_or (reserved_fault a (record p { headers = c })) (room_fault p (cleared_chain c) p.payload room))) (all_kept p.headers)

-- The order alone changes.
pub only_ordered : (a : Authentication) (c : List ExtHeader) → changed_headers (ordering a) c ≡ in_order c
only_ordered a c = ap in_order (all_kept c)

pub ordering_is : (a : Authentication) (p : DissectedParts) (room : ℕ) → change_fault (ordering a) p room ≡ ordering_fault a p room
ordering_is a p room =
    ap (λ x. option_or (packet_fault p) (option_or x (option_or (order_fault a (with_kept (ordering a) p)) (room_fault p (in_order (kept no_headers p.headers)) p.payload room)))) (no_leaving (ordering a) p (none_any (λ h. true) 0 p.headers))
    ∙ ap (λ (c : List ExtHeader). option_or (packet_fault p) (option_or (order_fault a (record p { headers = c })) (room_fault p (in_order c) p.payload room))) (all_kept p.headers)

-- Headers are left out, of which there are some.
joined : (a b c : Option RewriteError) → option_or (option_or a b) c ≡ option_or a (option_or b c)
joined None b c = refl
joined (Some x) b c = refl

pub leaving_is : (w : Which) (a : Authentication) (p : DissectedParts) (room : ℕ) → any_selected (λ h. true) w 0 p.headers ≡ true → change_fault (leaving w a) p room ≡ without_fault w a p room
leaving_is w a p room some =
    let selection : Option RewriteError = selection_fault w a p in
    let jumbo : Option RewriteError = jumbo_fault (selects_first w p.headers) p in
    let last : Option RewriteError = room_fault p (kept w p.headers) p.payload room in
    ap (λ x. option_or (packet_fault p) (option_or x last)) (cond-true (any_selected (λ h. true) w 0 p.headers) (option_or selection jumbo) None some) ∙ ap (λ x. option_or (packet_fault p) x) (joined selection jumbo last)

-- There are none.
pub leaving_none : (w : Which) (a : Authentication) (p : DissectedParts) (room : ℕ) → any_selected (λ h. true) w 0 p.headers ≡ false → without_fault w a p room ≡ option_or (packet_fault p) (Some err.NoHeader)
leaving_none w a p room none = rw none refl
