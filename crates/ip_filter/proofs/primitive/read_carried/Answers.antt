use Rattle.ip_spec.proofs.Common.{rules, arith, common_steps, nat_tests, sym, ◌∙◌, ◌≡◌, false, false≢true}
use Rattle.ip_filter.specs.Grammar.{is_identifier}
use Rattle.ip_filter.proofs.PrimitiveLemmas.{carried_read, carried_long, carried_refused, carried_other}
use Rattle.ip_filter.proofs.primitive.read_carried.Goals as goal

pub returns-then-not-is_identifier-clause-err : goal.returns-then-not-is_identifier-clause-err
returns-then-not-is_identifier-clause-err c text is none none2 sign =
    let no : is_identifier c.args.word.bytes.now ≡ false = grind (arith, common_steps, c.is_identifier.ensures, c.if-not-is_identifier.true) in
    rw c.unexpected.ensures (carried_refused c.args.before c.args.terms text c.args.word is none none2 sign (λ vs q y. false≢true (sym no ∙ y.4)))

pub returns-else-terms-clause-ok : goal.returns-else-terms-clause-ok
returns-else-terms-clause-ok c text is =
    let f = c.in-Some-identified.ensures.some in
    carried_read c.args.before c.args.terms text c.args.word is (grind (arith, common_steps, c.is_identifier.ensures, c.if-not-is_identifier.false)) c.in-Some.qualifiers (search rules) f.0 f.1 c.in-Some-identified.primitive f.2
    (grind (arith, common_steps, nat_tests, c.if-terms.false, c.terms.ensures.count, c.terms.ensures.few))

pub returns-then-terms-clause-err : goal.returns-then-terms-clause-err
returns-then-terms-clause-err c text is none none2 sign =
    let f = c.in-Some-identified.ensures.some in
    rw c.unexpected-then-terms.ensures (carried_long c.args.before c.args.terms text c.args.word is (grind (arith, common_steps, c.is_identifier.ensures, c.if-not-is_identifier.false)) c.in-Some.qualifiers (search rules) f.0 f.1
    c.in-Some-identified.primitive f.2 (grind (arith, common_steps, nat_tests, c.if-terms.true, c.terms.ensures.count, c.terms.ensures.few)))

pub returns-in-None-identified-clause-err : goal.returns-in-None-identified-clause-err
returns-in-None-identified-clause-err c text is none none2 sign =
    rw c.unexpected-in-None-identified.ensures (carried_refused c.args.before c.args.terms text c.args.word is none none2 sign
    (carried_other c.args.before c.args.word.bytes.now c.in-Some.qualifiers (search rules) c.in-None-identified.ensures.none))

pub returns-in-None-clause-err : goal.returns-in-None-clause-err
returns-in-None-clause-err c text is none none2 sign =
    rw c.unexpected-in-None.ensures (carried_refused c.args.before c.args.terms text c.args.word is none none2 sign (λ vs q y. cc (sym y.2 ∙ c.in-None.is)))
