use Rattle.std.proofs.Common.{◌≡◌, ℕ, ◌+◌, ◌≤◌, List, length, sym, ap, ◌∙◌, arith, not, ltb, inl, inr}
use Rattle.std.specs.Prelude.{Some, None, Ok, is_some, ◌==◌}
use Rattle.std.proofs.lemmas.Option.{none-some}
use Rattle.std.proofs.lemmas.Bool.{cases_Bool, cond-false, leb-true, le-ltb}
use Rattle.ip_base.specs.Ipv4Header.{version}
use Rattle.ip_defragmenter.specs.Memory.{Stored, FirstParts, IsWritable, stored_after}
use Rattle.ip_defragmenter.specs.FragmentOf.{parts_of}
use Rattle.ip_defragmenter.specs.Whole.{are_headers, stated_by, whole_fault}
use Rattle.check_uses.proofs.fragments.written_when_whole.Goals as goal

len_within : (b : List ℕ) (n : ℕ) → stated_by b n ≤ 65535 → length b + n ≤ 65575
len_within b n fits = elim (cases_Bool (version b == 4)) [
  | inl four ↦ grind (arith, four)
  | inr six ↦ grind (arith, six)
]

-- A packet that can be written has no fault where there is room for every packet.
no_fault : (s : Stored) (f : FirstParts) (payload : List ℕ) (room : ℕ) → IsWritable s f payload → 65575 ≤ room → whole_fault f.headers f.link (length payload) room ≡ None
no_fault s f payload room w enough =
    let fits : stated_by f.headers (length payload) ≤ 65535 = leb-true (stated_by f.headers (length payload)) 65535 w.fits in
    cond-false (not (are_headers f.headers f.link)) _ _ (ap not w.headers)
    ∙ (cond-false (ltb 65535 (stated_by f.headers (length payload))) _ _ (le-ltb 65535 (stated_by f.headers (length payload)) fits)
    ∙ cond-false (ltb room (length f.headers + length payload)) _ _ (le-ltb room (length f.headers + length payload) (omega (arith, len_within f.headers (length payload) fits, enough))))

pub returns-in-Ok : goal.returns-in-Ok
returns-in-Ok c = λ s h whole.
    let w = c.in-Ok-Whole.ensures.whole s h (ap Ok c.in-Ok-Whole.field-0-is) in
    let there = (c.in-Ok.ensures.written (stored_after s (parts_of c.args.fragment.now)) w.0 w.1.0 (c.in-Ok-Whole.ensures.stored s h) w.1.1.whole w.1.1.first).0 in
    let is : c.in-Ok.len ≡ Some (length w.0.headers + length w.1.0) = cc in
    ap is_some is

pub returns-in-Err : goal.returns-in-Err
returns-in-Err c = λ s h whole.
    let w = c.in-Ok-Whole.ensures.whole s h (ap Ok c.in-Ok-Whole.field-0-is) in
    let fault = c.in-Err.ensures.fault (stored_after s (parts_of c.args.fragment.now)) w.0 w.1.0 (c.in-Ok-Whole.ensures.stored s h) w.1.1.whole w.1.1.first in
    absurd (none-some c.in-Err.field-0 (sym (fault ∙ no_fault (stored_after s (parts_of c.args.fragment.now)) w.0 w.1.0 (length c.args.out.now) w.1.1 c.requires)))
