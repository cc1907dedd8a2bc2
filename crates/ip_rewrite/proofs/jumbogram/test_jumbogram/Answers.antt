use Rattle.ip_spec.proofs.Common.{◌≡◌, refl, sym, ap, ◌∙◌, Bool, true, false, not, None, is_some}
use Rattle.ip_dissect.specs.Dissection.{DissectedParts, dissected}
use Rattle.ip_dissect.specs.declared.summary.Summary.{Summary}
use Rattle.ip_rewrite.specs.Jumbogram.{jumbo_offset}
use Rattle.ip_rewrite.specs.Rewritten.{jumbo_fault}
use Rattle.ip_rewrite.proofs.JumbogramLemmas.{stated_no_jumbogram}
use Rattle.ip_rewrite.proofs.jumbogram.test_jumbogram.Goals as goal
use Rattle.ip_rewrite.proofs.jumbogram.test_jumbogram.Goals.{else-ends-via-then-ends+then-is_none+else-is_some, else-ends-via-then-ends+else-is_none, else-ends-via-else-ends}

none_ends : (ends : Bool) (p : DissectedParts) → is_some (jumbo_offset p) ≡ false → jumbo_fault ends p ≡ None
none_ends true p e = rw e refl
none_ends false p e = refl

not_ends : (ends : Bool) (p : DissectedParts) → ends ≡ false → jumbo_fault ends p ≡ None
not_ends ends p e = rw e refl

pub returns : goal.returns
returns c =
    let p : DissectedParts = dissected c.args.packet.now.bytes.now in
    elim c.else-ends.branch [
      | else-ends-via-then-ends+then-is_none+else-is_some w ↦ sym (none_ends c.args.ends p (sym (w.is_some.ensures ∙ ap is_some w.jumbo_offset.ensures) ∙ w.if-is_some.false))
      | else-ends-via-then-ends+else-is_none w ↦
          let stated : is_some p.stated ≡ true = sym (ap (λ (o : Summary). is_some o.stated_len) c.args.packet.now.summary_is) ∙ (w.is_none.ensures ∙ ap not w.if-is_none.false) in
          sym (none_ends c.args.ends p (ap is_some (stated_no_jumbogram p stated)))
      | else-ends-via-else-ends w ↦ sym (not_ends c.args.ends p w.if-ends.false)
    ]
