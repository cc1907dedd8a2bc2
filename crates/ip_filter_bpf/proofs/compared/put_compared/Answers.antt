use Rattle.std.proofs.Common.{◌≡◌, ◌≢◌, ℕ, subst, arith}
use Rattle.ip_filter_bpf.specs.Blocks.{Returns}
use Rattle.ip_filter_bpf.specs.Fields.{field_value}
use Rattle.ip_filter_bpf.proofs.FieldLemmas.{Lowered, equal, not_equal, less, at_most, greater, at_least, no_comparison}
use Rattle.ip_filter_bpf.proofs.compared.put_compared.Goals as goal

pub returns-in-1-clause-leads : goal.returns-in-1-clause-leads
returns-in-1-clause-leads c = λ packet r there bytes small h.
    let x = c.args.test.now in
    let is : x.comparison ≡ 1 = omega arith in
    let low : Lowered x.number c.of_32_bits-number.result = record { same = c.of_32_bits-number.ensures.same; more = c.of_32_bits-number.ensures.more } in
    c.put_field.ensures.leads packet r there bytes
    (subst (λ (l : ℕ). Returns c.args.code.now l packet r) (equal x (field_value c.args.field packet) c.of_32_bits-number.result c.args.if_met c.args.if_not small low is) h)

pub returns-in-2-clause-leads : goal.returns-in-2-clause-leads
returns-in-2-clause-leads c = λ packet r there bytes small h.
    let x = c.args.test.now in
    let is : x.comparison ≡ 2 = omega arith in
    let low : Lowered x.number c.of_32_bits-number.result = record { same = c.of_32_bits-number.ensures.same; more = c.of_32_bits-number.ensures.more } in
    c.put_field-in-2.ensures.leads packet r there bytes
    (subst (λ (l : ℕ). Returns c.args.code.now l packet r) (not_equal x (field_value c.args.field packet) c.of_32_bits-number.result c.args.if_met c.args.if_not small low is) h)

pub returns-in-3-clause-leads : goal.returns-in-3-clause-leads
returns-in-3-clause-leads c = λ packet r there bytes small h.
    let x = c.args.test.now in
    let is : x.comparison ≡ 3 = omega arith in
    let low : Lowered x.number c.of_32_bits-number.result = record { same = c.of_32_bits-number.ensures.same; more = c.of_32_bits-number.ensures.more } in
    c.put_field-in-3.ensures.leads packet r there bytes
    (subst (λ (l : ℕ). Returns c.args.code.now l packet r) (less x (field_value c.args.field packet) c.of_32_bits-number.result c.args.if_met c.args.if_not small low is) h)

pub returns-in-4-clause-leads : goal.returns-in-4-clause-leads
returns-in-4-clause-leads c = λ packet r there bytes small h.
    let x = c.args.test.now in
    let is : x.comparison ≡ 4 = omega arith in
    let low : Lowered x.number c.of_32_bits-number.result = record { same = c.of_32_bits-number.ensures.same; more = c.of_32_bits-number.ensures.more } in
    c.put_field-in-4.ensures.leads packet r there bytes
    (subst (λ (l : ℕ). Returns c.args.code.now l packet r) (at_most x (field_value c.args.field packet) c.of_32_bits-number.result c.args.if_met c.args.if_not small low is) h)

pub returns-in-5-clause-leads : goal.returns-in-5-clause-leads
returns-in-5-clause-leads c = λ packet r there bytes small h.
    let x = c.args.test.now in
    let is : x.comparison ≡ 5 = omega arith in
    let low : Lowered x.number c.of_32_bits-number.result = record { same = c.of_32_bits-number.ensures.same; more = c.of_32_bits-number.ensures.more } in
    c.put_field-in-5.ensures.leads packet r there bytes
    (subst (λ (l : ℕ). Returns c.args.code.now l packet r) (greater x (field_value c.args.field packet) c.of_32_bits-number.result c.args.if_met c.args.if_not small low is) h)

pub returns-in-6-clause-leads : goal.returns-in-6-clause-leads
returns-in-6-clause-leads c = λ packet r there bytes small h.
    let x = c.args.test.now in
    let is : x.comparison ≡ 6 = omega arith in
    let low : Lowered x.number c.of_32_bits-number.result = record { same = c.of_32_bits-number.ensures.same; more = c.of_32_bits-number.ensures.more } in
    c.put_field-in-6.ensures.leads packet r there bytes
    (subst (λ (l : ℕ). Returns c.args.code.now l packet r) (at_least x (field_value c.args.field packet) c.of_32_bits-number.result c.args.if_met c.args.if_not small low is) h)

pub returns-in_default-clause-leads : goal.returns-in_default-clause-leads
returns-in_default-clause-leads c = λ packet r there bytes small h.
    let x = c.args.test.now in
    let low : Lowered x.number c.of_32_bits-number.result = record { same = c.of_32_bits-number.ensures.same; more = c.of_32_bits-number.ensures.more } in
    let one : x.comparison ≢ 1 = omega arith in
    let two : x.comparison ≢ 2 = omega arith in
    let three : x.comparison ≢ 3 = omega arith in
    let four : x.comparison ≢ 4 = omega arith in
    let five : x.comparison ≢ 5 = omega arith in
    let six : x.comparison ≢ 6 = omega arith in
    subst (λ (l : ℕ). Returns c.args.code.now l packet r) (no_comparison x (field_value c.args.field packet) c.of_32_bits-number.result c.args.if_met c.args.if_not small low one two three four five six) h
