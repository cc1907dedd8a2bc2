use Rattle.ip_reassembly.proofs.Common.{sym, ◌∙◌, cond-true, cond-false, is_some}
use Rattle.ip_reassembly.specs.Payload.{payload_of}
use Rattle.ip_reassembly.specs.declared.progress.Progress.TheVariants.{Whole, MoreWanted}
use Rattle.ip_reassembly.proofs.ReceivedLemmas.{whole_is}
use Rattle.ip_reassembly.specs.Reassembly.{state_fields}
use Rattle.ip_reassembly.proofs.state.ReassemblyState.progress.Goals as goal

pub returns-then-is_whole : goal.returns-then-is_whole
returns-then-is_whole c = λ s h. sym (cond-true (is_some (payload_of s.fragments)) Whole MoreWanted (sym (whole_is (state_fields c.args.self.now c.args.buffer.now) s h) ∙ (sym c.is_whole.ensures ∙ c.if-is_whole.true)))

pub returns-else-is_whole : goal.returns-else-is_whole
returns-else-is_whole c = λ s h. sym (cond-false (is_some (payload_of s.fragments)) Whole MoreWanted (sym (whole_is (state_fields c.args.self.now c.args.buffer.now) s h) ∙ (sym c.is_whole.ensures ∙ c.if-is_whole.false)))
