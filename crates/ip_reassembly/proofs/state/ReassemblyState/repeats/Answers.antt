use Rattle.ip_reassembly.proofs.Common.{sym, ◌∙◌, both_ways, fragment_at}
use Rattle.ip_reassembly.proofs.ReceivedLemmas.{repeated_units, repeated_end, repeated_bytes}
use Rattle.ip_reassembly.specs.Reassembly.{state_fields}
use Rattle.ip_reassembly.proofs.state.ReassemblyState.repeats.Goals as goal
use Rattle.ip_reassembly.proofs.state.ReassemblyState.repeats.Goals.{else-not-more-via-then-not-more+else-end-self, else-not-more-via-else-not-more}

pub returns-then-not-is_fragment : goal.returns-then-not-is_fragment
returns-then-not-is_fragment c = λ s h sound.
    sym (repeated_units (state_fields c.args.self.now c.args.buffer.now) s c.args.first c.div_ceil.result c.args.more c.args.bytes.now h sound c.requires.some c.div_ceil.ensures
    (λ units. both_ways c.is_fragment.result c.if-not-is_fragment.true (c.is_fragment.ensures.1 (units.0 ∙ sym c.first_mark_of.ensures, units.1, units.2))))

pub returns-then-end-self : goal.returns-then-end-self
returns-then-end-self c = λ s h sound. sym (repeated_end (state_fields c.args.self.now c.args.buffer.now) s (fragment_at c.args.first c.args.more c.args.bytes.now) h c.if-not-more.true c.if-end-self.true)

pub returns : goal.returns
returns c = λ s h sound.
    let units = c.is_fragment.ensures.0 c.if-not-is_fragment.false in
    c.eq.ensures
    ∙ repeated_bytes (state_fields c.args.self.now c.args.buffer.now) s c.args.first c.div_ceil.result c.args.more c.args.bytes.now h sound c.requires.some c.div_ceil.ensures
    (units.0 ∙ c.first_mark_of.ensures, units.1, units.2)
    (λ last. elim c.else-not-more.branch [
      | else-not-more-via-then-not-more+else-end-self w ↦ w.if-end-self.false
      | else-not-more-via-else-not-more w ↦ absurd (both_ways c.args.more last w.if-not-more.false)
    ])
