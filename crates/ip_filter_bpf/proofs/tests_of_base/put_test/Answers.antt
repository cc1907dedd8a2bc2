use Rattle.std.proofs.Common.{◌≡◌, ◌≢◌, ◌⊎◌, ℕ, ◌<◌, ◌≤◌, inl, inr, subst, arith}
use Rattle.std.proofs.lemmas.Bool.{cases_lt}
use Rattle.ip_dissect.specs.Dissection.{dissected}
use Rattle.ip_filter_bpf.specs.Blocks.{Returns}
use Rattle.ip_filter_bpf.proofs.TestLemmas.{by_source, by_destination, by_either, by_quantity, by_none, field_kind, other_kind}
use Rattle.ip_filter_bpf.proofs.tests_of_base.put_test.Goals as goal

pub returns-in-8-clause-leads : goal.returns-in-8-clause-leads
returns-in-8-clause-leads c = λ packet r of_version bytes h.
    let kind : c.args.test.now.kind ≡ 8 = omega arith in
    c.put_source.ensures.leads packet r of_version bytes
    (subst (λ (l : ℕ). Returns c.args.code.now l packet r) (by_source c.args.test.now (dissected packet) c.args.if_met c.args.if_not c.args.if_undecided kind) h)

pub returns-in-9-clause-leads : goal.returns-in-9-clause-leads
returns-in-9-clause-leads c = λ packet r of_version bytes h.
    let kind : c.args.test.now.kind ≡ 9 = omega arith in
    c.put_destination.ensures.leads packet r of_version bytes
    (subst (λ (l : ℕ). Returns c.args.code.now l packet r) (by_destination c.args.test.now (dissected packet) c.args.if_met c.args.if_not c.args.if_undecided kind) h)

pub returns-in-10-clause-leads : goal.returns-in-10-clause-leads
returns-in-10-clause-leads c = λ packet r of_version bytes h.
    let kind : c.args.test.now.kind ≡ 10 = omega arith in
    c.put_either.ensures.leads packet r of_version bytes
    (subst (λ (l : ℕ). Returns c.args.code.now l packet r) (by_either c.args.test.now (dissected packet) c.args.if_met c.args.if_not c.args.if_undecided kind) h)

pub returns-in-12-to-15-clause-leads : goal.returns-in-12-to-15-clause-leads
returns-in-12-to-15-clause-leads c = λ packet r of_version bytes h.
    let low : 12 ≤ c.args.test.now.kind = omega arith in
    let high : c.args.test.now.kind ≤ 15 = omega arith in
    c.put_quantity.ensures.leads packet r of_version bytes
    (subst (λ (l : ℕ). Returns c.args.code.now l packet r) (by_quantity c.args.test.now (dissected packet) c.args.if_met c.args.if_not c.args.if_undecided (field_kind c.args.test.now.kind low high)) h)

pub returns-in_default-clause-leads : goal.returns-in_default-clause-leads
returns-in_default-clause-leads c = λ packet r of_version bytes h.
    let a : c.args.test.now.kind ≢ 8 = omega arith in
    let b : c.args.test.now.kind ≢ 9 = omega arith in
    let d : c.args.test.now.kind ≢ 10 = omega arith in
    let out : (c.args.test.now.kind < 12) ⊎ (15 < c.args.test.now.kind) = elim (cases_lt c.args.test.now.kind 12) [ inl less ↦ inl less | inr above ↦ inr (omega arith) ] in
    subst (λ (l : ℕ). Returns c.args.code.now l packet r) (by_none c.args.test.now (dissected packet) c.args.if_met c.args.if_not c.args.if_undecided a b d (other_kind c.args.test.now.kind out)) h

pub returns-in_default-2-clause-leads : goal.returns-in_default-2-clause-leads
returns-in_default-2-clause-leads c = λ packet r of_version bytes h.
    let a : c.args.test.now.kind ≢ 8 = omega arith in
    let b : c.args.test.now.kind ≢ 9 = omega arith in
    let d : c.args.test.now.kind ≢ 10 = omega arith in
    let out : (c.args.test.now.kind < 12) ⊎ (15 < c.args.test.now.kind) = elim (cases_lt c.args.test.now.kind 12) [ inl less ↦ inl less | inr above ↦ inr (omega arith) ] in
    subst (λ (l : ℕ). Returns c.args.code.now l packet r) (by_none c.args.test.now (dissected packet) c.args.if_met c.args.if_not c.args.if_undecided a b d (other_kind c.args.test.now.kind out)) h
