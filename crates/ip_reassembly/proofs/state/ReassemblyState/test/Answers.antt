use Rattle.ip_reassembly.proofs.Common.{◌≡◌, true, list_any, is_same, sym, ◌∙◌, arith, both_ways, fragment_at, IsSound}
use Rattle.ip_reassembly.proofs.ReceivedLemmas.{refused_among, refused_unaligned, refused_too_long, tested_two_ends, tested_new, tested_overlap}
use Rattle.ip_reassembly.specs.Reassembly.{state_fields}
use Rattle.ip_reassembly.proofs.state.ReassemblyState.test.Goals as goal

pub returns-then-is_unaligned-clause-verdict : goal.returns-then-is_unaligned-clause-verdict
returns-then-is_unaligned-clause-verdict c = λ s h. refused_unaligned s.limit s.fragments (fragment_at c.args.first c.args.more c.args.bytes.now) (sym c.is_unaligned.ensures ∙ c.if-is_unaligned.true)

pub returns-then-end-min-clause-verdict : goal.returns-then-end-min-clause-verdict
returns-then-end-min-clause-verdict c = λ s h. refused_too_long s.limit s.fragments (fragment_at c.args.first c.args.more c.args.bytes.now) (sym c.is_unaligned.ensures ∙ c.if-is_unaligned.false) (omega (arith, h.limit))

pub returns-then-not-are_free-clause-verdict : goal.returns-then-not-are_free-clause-verdict
returns-then-not-are_free-clause-verdict c = λ s h.
    tested_overlap (state_fields c.args.self.now c.args.buffer.now) s c.args.first c.div_ceil.result c.args.more c.args.bytes.now h (record { offset = omega arith; aligned = sym c.is_unaligned.ensures ∙ c.if-is_unaligned.false; within = omega (arith, h.limit) }) c.div_ceil.ensures
    (λ free. both_ways c.are_free.result c.if-not-are_free.true ((c.are_free.ensures.free c.args.buffer.now s h).1 free)) (λ sound. sym (c.repeats.ensures s h sound) ∙ c.if-repeats.false)

pub returns-then-ends_elsewhere-clause-verdict : goal.returns-then-ends_elsewhere-clause-verdict
returns-then-ends_elsewhere-clause-verdict c = λ s h.
    tested_two_ends (state_fields c.args.self.now c.args.buffer.now) s c.args.first c.div_ceil.result c.args.more c.args.bytes.now h (record { offset = omega arith; aligned = sym c.is_unaligned.ensures ∙ c.if-is_unaligned.false; within = omega (arith, h.limit) }) c.div_ceil.ensures
    ((c.are_free.ensures.free c.args.buffer.now s h).0 c.if-not-are_free.false) (sym c.ends_elsewhere.ensures ∙ c.if-ends_elsewhere.true)

pub returns-clause-verdict : goal.returns-clause-verdict
returns-clause-verdict c = λ s h.
    tested_new (state_fields c.args.self.now c.args.buffer.now) s c.args.first c.div_ceil.result c.args.more c.args.bytes.now h (record { offset = omega arith; aligned = sym c.is_unaligned.ensures ∙ c.if-is_unaligned.false; within = omega (arith, h.limit) }) c.div_ceil.ensures
    ((c.are_free.ensures.free c.args.buffer.now s h).0 c.if-not-are_free.false) (sym c.ends_elsewhere.ensures ∙ c.if-ends_elsewhere.false)

pub returns-then-repeats-clause-verdict : goal.returns-then-repeats-clause-verdict
returns-then-repeats-clause-verdict c = λ s h.
    let sound : IsSound s.limit (fragment_at c.args.first c.args.more c.args.bytes.now) = record { offset = omega arith; aligned = sym c.is_unaligned.ensures ∙ c.if-is_unaligned.false; within = omega (arith, h.limit) } in
    let same : list_any (is_same (fragment_at c.args.first c.args.more c.args.bytes.now)) s.fragments ≡ true = sym (c.repeats.ensures s h sound) ∙ c.if-repeats.true in
    (refused_among s.limit s.fragments (fragment_at c.args.first c.args.more c.args.bytes.now) sound.aligned sound.within same, same)
