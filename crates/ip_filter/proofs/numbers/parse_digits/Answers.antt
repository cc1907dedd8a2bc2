use Rattle.ip_spec.proofs.Common.{arith, digits_value_more}
use Rattle.ip_filter.proofs.NumberLemmas.{digits_go_on}
use Rattle.ip_filter.proofs.numbers.parse_digits.Goals as goal

pub digits-preserved : goal.digits-preserved
digits-preserved c =
    let more = digits_value_more c.args.radix c.args.digits.now c.digits.byte-index c.digits-test.true in
    record {
      digits = digits_go_on 0 _ _ c.digits.byte-index c.digits-test.true c.digits.invariant.digits (grind (arith, c.in_ok-digit.ensures.value));
      value = grind (arith, more, c.digits.invariant.value, c.in_ok-digit.ensures.value, c.in_ok-checked_mul.ensures, c.in_ok-number.ensures);
      fits = grind (arith, c.in_ok-number.ensures);
    }
