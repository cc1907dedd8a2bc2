use Rattle.ip_reassembly.proofs.Common.{arith, refl}
use Rattle.ip_reassembly.specs.Reassembly.{state_fields}
use Rattle.ip_reassembly.proofs.ReceivedLemmas.{kept, free_by}
use Rattle.ip_reassembly.proofs.state.ReassemblyState.keep.Goals as goal

pub returns-clause-kept : goal.returns-clause-kept
returns-clause-kept c = λ s h new.
    let free = free_by (state_fields c.args.self.now c.args.buffer.now) s c.args.first c.div_ceil.result c.args.more c.args.bytes.now h new c.div_ceil.ensures in
    kept (state_fields c.args.self.now c.args.buffer.now) _ s c.args.first c.div_ceil.result c.args.more c.args.bytes.now h new
    record {
      next_unit = c.div_ceil.ensures;
      buffer = c.store.ensures;
      room = c.store.auto.buffer;
      marks = c.mark_by_run-self.ensures.marks free;
      unused = c.mark_by_run-self.ensures.unused free h.unused;
      reach = c.max-reach.ensures;
      count = λ fits. omega (arith, fits, c.saturating_add-count.ensures);
      ended = c.ended_after-ended.ensures;
      abandoned = refl;
      abandons = refl;
    }
