use Rattle.std.proofs.Common.{◌≡◌, ◌≢◌, ℕ, suc, ◌+◌, ◌-◌, ◌*◌, ◌<◌, ◌≤◌, true, inl, inr, length, get_or, set, refl, sym, ap, ◌∙◌, subst, arith, ne_eqb, get_or-set_same, get_or-set_other}
use Rattle.std.proofs.lemmas.Bool.{cases_eq}
use Rattle.std.proofs.lemmas.List.{length-set}
use Rattle.ip_bpf.proofs.AssemblyLemmas.{extends-refl, extends-trans, extends-length}
use Rattle.ip_bpf.specs.Assembly.{Extends}
use Rattle.ip_filter_bpf.specs.Blocks.{Returns, NeedsNothing}
use Rattle.ip_filter_bpf.specs.Compiled.{room_of, returned, passes_from}
use Rattle.ip_filter_bpf.proofs.BlockLemmas.{returns_kept, nothing_kept}
use Rattle.ip_filter_bpf.proofs.LeadLemmas.{none_after, put_returns, exit_by, end_by, labels_start, one_more}
use Rattle.ip_filter_bpf.proofs.compile.put_tests.Goals as goal

pub tests-init : goal.tests-init
tests-init c = record {
  most = omega arith;
  front = extends-refl c.args.code.now;
  len = omega arith;
  size = refl;
  some = λ j small. let one = labels_start j small in omega (arith, one);
  there = λ j small. let one = labels_start j small in omega (arith, one);
  words = λ reject accept j small. subst (λ (n : ℕ). NeedsNothing c.args.code.now n) (sym (labels_start j small)) reject;
  leads = λ packet of_version bytes reject accept j from small.
      let other : j ≢ 64 = omega arith in
      let value = none_after c.args.undecided c.args.tests.now packet j j from ∙ ne_eqb j 64 other in
      subst (λ (n : ℕ). Returns c.args.code.now n packet (returned (passes_from c.args.undecided c.args.tests.now j j packet))) (sym (labels_start j small))
      (subst (λ b. Returns c.args.code.now 1 packet (returned b)) (sym value) reject);
}

pub tests-preserved : goal.tests-preserved
tests-preserved c =
    let old = c.args.code.now in
    let code = c.tests.code in
    let new = c.put_test.new.code in
    let xs = c.args.tests.now in
    let labels = c.tests.labels in
    let label = c.put_test.result in
    let i : ℕ = c.tests.index - 1 in
    let n : ℕ = length xs in
    let r : ℕ = room_of c.args.version in
    let some_left : 0 < c.tests.index = c.tests-test.true in
    let most : c.tests.index ≤ n = c.tests.invariant.most in
    let few : n ≤ 64 = c.requires.few in
    let within : i < n = omega arith in
    let small : i < 64 = omega arith in
    let next : suc i ≡ c.tests.index = omega arith in
    let size : length labels ≡ 64 = c.tests.invariant.size in
    let there : i < length labels = omega arith in
    let more : Extends new code = c.put_test.ensures.front in
    let longer : length code ≤ length new = extends-length new code more in
    let front : Extends code old = c.tests.invariant.front in
    let ends : 2 ≤ length old = c.requires.ends in
    let one_there : 1 ≤ length old = omega arith in
    let at_new : (j : ℕ) → j ≡ i → get_or (set labels i label) j 0 ≡ label = λ j same. ap (λ (k : ℕ). get_or (set labels i label) k 0) same ∙ get_or-set_same labels i label 0 there in
    let at_old : (j : ℕ) → j ≢ i → get_or (set labels i label) j 0 ≡ get_or labels j 0 = λ j other. get_or-set_other labels i j label 0 other in
    let room : 2 * r * (n - c.tests.index) + 2 * r ≡ 2 * r * (n - i) = ap (λ (k : ℕ). 2 * r * (n - k) + 2 * r) (sym next) ∙ one_more r n i within in
    record {
      most = omega arith;
      front = extends-trans new code old more front;
      len =
          let before : length code ≤ length old + 2 * r * (n - c.tests.index) = c.tests.invariant.len in
          let after : length new ≤ length code + 2 * r = c.put_test.ensures.len in
          omega (arith, before, after, room);
      size = length-set labels i label ∙ size;
      some = λ j less. elim (cases_eq j i) [
        | inl same ↦ subst (λ (k : ℕ). 0 < k) (sym (at_new j same)) c.put_test.ensures.some
        | inr other ↦ subst (λ (k : ℕ). 0 < k) (sym (at_old j other)) (c.tests.invariant.some j less)
      ];
      there = λ j less. elim (cases_eq j i) [
        | inl same ↦ subst (λ (k : ℕ). k ≤ length new) (sym (at_new j same)) c.put_test.ensures.there
        | inr other ↦
            let before : get_or labels j 0 ≤ length code = c.tests.invariant.there j less in
            let after : get_or labels j 0 ≤ length new = omega (arith, before, longer) in
            subst (λ (k : ℕ). k ≤ length new) (sym (at_old j other)) after
      ];
      words = λ reject accept j less.
          let one : NeedsNothing code 1 = nothing_kept code old 1 front one_there reject in
          let two : NeedsNothing code 2 = nothing_kept code old 2 front ends accept in
          let each : (k : ℕ) → k < 64 → NeedsNothing code (get_or labels k 0) = c.tests.invariant.words reject accept in
          elim (cases_eq j i) [
            | inl same ↦ subst (NeedsNothing new) (sym (at_new j same)) (c.put_test.ensures.words
                (subst (NeedsNothing code) (sym c.exit.ensures) (exit_by (NeedsNothing code) labels i _ one two each))
                (subst (NeedsNothing code) (sym c.exit-in-tests.ensures) (exit_by (NeedsNothing code) labels i _ one two each))
                (subst (NeedsNothing code) (sym c.end.ensures) (end_by (NeedsNothing code) c.args.undecided one two)))
            | inr other ↦ subst (NeedsNothing new) (sym (at_old j other)) (nothing_kept new code (get_or labels j 0) more (c.tests.invariant.there j less) (each j less))
          ];
      leads = λ packet of_version bytes reject accept j from less.
          let one : Returns code 1 packet 0 = returns_kept code old 1 packet 0 front one_there reject in
          let two : Returns code 2 packet (returned true) = returns_kept code old 2 packet (returned true) front ends accept in
          let later : (k : ℕ) → i < k → k < 64 → Returns code (get_or labels k 0) packet (returned (passes_from c.args.undecided xs k k packet)) =
          λ k above below. let on : c.tests.index ≤ k = omega arith in c.tests.invariant.leads packet of_version bytes reject accept k on below in
          elim (cases_eq j i) [
            | inl same ↦
                let here : Returns new label packet (returned (passes_from c.args.undecided xs i i packet)) =
                c.put_test.ensures.leads packet (returned (passes_from c.args.undecided xs i i packet)) of_version bytes
                (put_returns c.args.undecided xs packet few i small code labels one two later _ _ _ _ within c.exit.ensures c.exit-in-tests.ensures c.end.ensures) in
                subst (λ (k : ℕ). Returns new k packet (returned (passes_from c.args.undecided xs j j packet))) (sym (at_new j same))
                (subst (λ (k : ℕ). Returns new label packet (returned (passes_from c.args.undecided xs k k packet))) (sym same) here)
            | inr other ↦
                let above : i < j = omega arith in
                subst (λ (k : ℕ). Returns new k packet (returned (passes_from c.args.undecided xs j j packet))) (sym (at_old j other))
                (returns_kept new code (get_or labels j 0) packet (returned (passes_from c.args.undecided xs j j packet)) more (c.tests.invariant.there j less) (later j above less))
          ];
    }
