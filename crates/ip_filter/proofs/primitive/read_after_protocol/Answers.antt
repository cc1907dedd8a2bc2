use Rattle.ip_spec.proofs.Common.{rules, arith, common_steps, nat_tests, refl, ℕ, ◌+◌, List}
use Rattle.ip_filter.specs.Reading.{IsFirstWord, ReadsSide}
use Rattle.ip_filter.proofs.QualifierLemmas.{protocol_read}
use Rattle.ip_filter.proofs.PrimitiveLemmas.{protocol_full, protocol_refused}
use Rattle.ip_filter.proofs.primitive.read_after_protocol.Goals as goal

pub returns-then-terms-clause-err : goal.returns-then-terms-clause-err
returns-then-terms-clause-err c text x w is named next =
    rw c.unexpected.ensures (protocol_full x c.args.terms text w is c.args.protocol named c.args.word next
    (grind (arith, common_steps, c.begins_side_or_kind.ensures, c.if-not-begins_side_or_kind.false)) (grind (arith, common_steps, nat_tests, c.if-terms.true)))

pub returns-in-Ok-Some-clause-some : goal.returns-in-Ok-Some-clause-some
returns-in-Ok-Some-clause-some c text w is named next =
    let reads : (t : List ℕ) → IsFirstWord t c.args.word → ReadsSide (c.args.terms + 1) t c.in-Ok-Some.head = search rules in
    protocol_read c.args.terms text w is c.args.protocol c.in-Ok-Some.head _ named (reads w.rest.now next) (grind (arith, common_steps, nat_tests, c.if-terms.false)) refl refl

pub returns-in-Err-clause-err : goal.returns-in-Err-clause-err
returns-in-Err-clause-err c text x w is named next =
    protocol_refused x c.args.terms text w is c.args.protocol named (c.args.terms + 1) _ _ refl (grind (arith, common_steps, nat_tests, c.if-terms.false)) (c.in-Err.ensures.err w.rest.now next)
