use Rattle.ip_spec.proofs.Common.{rules, arith, common_steps}
use Rattle.ip_spans.specs.Written.{LiesIn}
use Rattle.ip_spans.proofs.WrittenLemmas.{written_len}
use Rattle.check_uses.proofs.OptionLemmas.{if_none}
use Rattle.check_uses.proofs.span_outcomes.write_one.Goals as goal

pub returns-clause-none : goal.returns-clause-none
returns-clause-none c =
    if_none c.write_headers.result _ _
    (λ no within header.
    let lies : LiesIn c.args.bytes.now c.args.span = record { within = within; header = header } in
    no (search (rules, lies)) (grind (arith, common_steps, written_len c.args.bytes.now c.args.span lies)))
    c.write_headers.ensures.none
