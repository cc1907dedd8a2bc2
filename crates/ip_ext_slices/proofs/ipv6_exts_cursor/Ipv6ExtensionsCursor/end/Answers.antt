use Rattle.ip_spec.proofs.Common.{◌≡◌, ◌∷◌, sym, ◌∙◌, true, false, [], None, IsExtensionNumber}
use Rattle.ip_base.specs.declared.len_source.LenSource.TheVariants.{Slice}
use Rattle.ip_ext_slices.proofs.FaultLemmas.{fault_at_end, end_at_other, no_fault_at_other}
use Rattle.ip_ext_slices.proofs.LongestLemmas.{longest_from_next}
use Rattle.ip_ext_slices.proofs.ParseLemmas.{cursor_at_end}
use Rattle.ip_ext_slices.proofs.ipv6_exts_cursor.Ipv6ExtensionsCursor.end.Goals as goal

pub returns-then-not-is_extension-clause-answer : goal.returns-then-not-is_extension-clause-answer
returns-then-not-is_extension-clause-answer c =
    let x = c.args.self.now in
    let other : IsExtensionNumber x.number.0 → ⊥ = λ e. let no : true ≡ false = sym (c.is_extension.ensures.1 e) ∙ c.if-not-is_extension.true in cc in
    (cursor_at_end x.start.0 x.bytes.now _ x.number.0 x.rest.now x.leads x.after (end_at_other _ x.number.0 x.rest.now other)).answers None (sym (no_fault_at_other Slice _ _ x.number.0 x.rest.now _ other))

pub cold_fault-fault-requires : goal.cold_fault-fault-requires
cold_fault-fault-requires c =
    let x = c.args.self.now in
    fault_at_end Slice _ _ _ _ _ (c.is_extension.ensures.0 c.if-not-is_extension.false) (cursor_at_end _ _ _ _ _ x.leads x.after c.in-None.ensures.end).ends

pub returns-in-Some-clause-before : goal.returns-in-Some-clause-before
returns-in-Some-clause-before c = λ e. let no : _ ∷ _ ≡ [] = sym (longest_from_next _ _ _ _ c.in-Some.ensures.next) ∙ e in cc

pub returns-in-None-clause-answer : goal.returns-in-None-clause-answer
returns-in-None-clause-answer c = (cursor_at_end _ _ _ _ _ c.args.self.now.leads c.args.self.now.after c.in-None.ensures.end).answers _ (sym c.cold_fault-fault.ensures)
