use Rattle.std.proofs.Common.{◌≡◌, ℕ, ◌-◌, ◌≤◌, true, inl, inr, List, [], ◌∷◌, length, map, refl, sym, ap, ◌∙◌, subst, arith}
use Rattle.std.specs.Prelude.{Some, ◌==◌}
use Rattle.ip_bpf.proofs.AssemblyLemmas.{extends-trans, whole_program}
use Rattle.ip_bpf.specs.Assembly.{Extends, AreRight}
use Rattle.ip_bpf.specs.Encoding.{instruction_of}
use Rattle.ip_bpf.specs.Machine.{start, result_from}
use Rattle.ip_bpf.specs.declared.instruction.Instruction.{Instruction}
use Rattle.ip_bpf.specs.declared.instruction.Operation.TheVariants.{ReturnConstant}
use Rattle.ip_dissect.specs.Dissection.{dissected}
use Rattle.ip_filter.specs.Program.{led_to}
use Rattle.ip_filter.specs.Tests.{meets}
use Rattle.ip_filter.specs.declared.filter.Test.{Test}
use Rattle.ip_filter_bpf.specs.Blocks.{Returns, NeedsNothing}
use Rattle.ip_filter_bpf.specs.Compiled.{returned, label_of, passes_from}
use Rattle.ip_filter_bpf.specs.Verdict.{settled, end_of, verdict}
use Rattle.ip_filter_bpf.proofs.BlockLemmas.{returns_kept, nothing_kept}
use Rattle.ip_filter_bpf.proofs.LeadLemmas.{drop_none}
use Rattle.ip_filter_bpf.proofs.PacketLemmas.{versions}
use Rattle.ip_filter_bpf.proofs.compile.compile_filter.Goals as goal

pub returns-clause-accepted : goal.returns-clause-accepted
returns-clause-accepted c =
    let c2 = c.put-2.new.self in
    let c3 = c.put_tests-none.new.code in
    let c4 = c.put_tests-ipv4.new.code in
    let c5 = c.put_tests-ipv6.new.code in
    let code = c.put_start.new.code in
    let f3 : Extends c3 c2 = c.put_tests-none.ensures.front in
    let f4 : Extends c4 c2 = extends-trans c4 c3 c2 c.put_tests-ipv4.ensures.front f3 in
    let f53 : Extends c5 c3 = extends-trans c5 c4 c3 c.put_tests-ipv6.ensures.front c.put_tests-ipv4.ensures.front in
    let ends : c2 ≡ instruction_of (ReturnConstant 4294967295) ∷ (instruction_of (ReturnConstant 0) ∷ []) = c.put-2.ensures ∙ ap (λ rest. instruction_of (ReturnConstant 4294967295) ∷ rest) (c.put.ensures ∙ ap (λ rest. instruction_of (ReturnConstant 0) ∷ rest) c.clear.ensures) in
    let two : 2 ≡ length c2 = sym (ap length ends) in
    let one_there : 1 ≤ length c2 = omega arith in
    let two_there : 2 ≤ length c2 = omega arith in
    let first : NeedsNothing c2 1 = subst (λ (x : List Instruction). NeedsNothing x 1) (sym ends) (λ k. refl) in
    let second : NeedsNothing c2 2 = subst (λ (x : List Instruction). NeedsNothing x 2) (sym ends) (λ k. refl) in
    let none : NeedsNothing c3 c.put_tests-none.result = c.put_tests-none.ensures.words first second in
    let ipv4 : NeedsNothing c4 c.put_tests-ipv4.result = c.put_tests-ipv4.ensures.words (nothing_kept c3 c2 1 f3 one_there first) (nothing_kept c3 c2 2 f3 two_there second) in
    let ipv6 : NeedsNothing c5 c.put_tests-ipv6.result = c.put_tests-ipv6.ensures.words (nothing_kept c4 c2 1 f4 one_there first) (nothing_kept c4 c2 2 f4 two_there second) in
    let all : NeedsNothing code (length code) = c.put_start.ensures.words
    (nothing_kept c5 c3 c.put_tests-none.result f53 c.put_tests-none.ensures.there none)
    (nothing_kept c5 c4 c.put_tests-ipv4.result c.put_tests-ipv6.ensures.front c.put_tests-ipv4.ensures.there ipv4)
    ipv6 in
    whole_program code c.put_start.ensures.some
    (subst (λ (x : List Instruction). length x ≤ 4096) c.instructions.ensures.value c.instructions.ensures.few)
    (subst AreRight c.instructions.ensures.value c.instructions.ensures.right)
    all

pub returns-clause-returns : goal.returns-clause-returns
returns-clause-returns c = λ packet bytes short.
    let c2 = c.put-2.new.self in
    let c3 = c.put_tests-none.new.code in
    let c4 = c.put_tests-ipv4.new.code in
    let c5 = c.put_tests-ipv6.new.code in
    let code = c.put_start.new.code in
    let f3 : Extends c3 c2 = c.put_tests-none.ensures.front in
    let f4 : Extends c4 c2 = extends-trans c4 c3 c2 c.put_tests-ipv4.ensures.front f3 in
    let f53 : Extends c5 c3 = extends-trans c5 c4 c3 c.put_tests-ipv6.ensures.front c.put_tests-ipv4.ensures.front in
    let ends : c2 ≡ instruction_of (ReturnConstant 4294967295) ∷ (instruction_of (ReturnConstant 0) ∷ []) = c.put-2.ensures ∙ ap (λ rest. instruction_of (ReturnConstant 4294967295) ∷ rest) (c.put.ensures ∙ ap (λ rest. instruction_of (ReturnConstant 0) ∷ rest) c.clear.ensures) in
    let two : 2 ≡ length c2 = sym (ap length ends) in
    let one_there : 1 ≤ length c2 = omega arith in
    let two_there : 2 ≤ length c2 = omega arith in
    let u = c.args.undecided in
    let xs = c.used_tests-tests.result.now in
    let r : ℕ = returned (passes_from u xs 0 0 packet) in
    let first : Returns c2 1 packet 0 = subst (λ (x : List Instruction). Returns x 1 packet 0) (sym ends) (λ m. refl) in
    let second : Returns c2 2 packet (returned true) = subst (λ (x : List Instruction). Returns x 2 packet (returned true)) (sym ends) (λ m. refl) in
    let none : (dissected packet).version ≡ 0 → Returns c5 c.put_tests-none.result packet r = λ v. returns_kept c5 c3 c.put_tests-none.result packet r f53 c.put_tests-none.ensures.there (c.put_tests-none.ensures.leads packet v bytes first second) in
    let ipv4 : (dissected packet).version ≡ 4 → Returns c5 c.put_tests-ipv4.result packet r = λ v. returns_kept c5 c4 c.put_tests-ipv4.result packet r c.put_tests-ipv6.ensures.front c.put_tests-ipv4.ensures.there (c.put_tests-ipv4.ensures.leads packet v bytes (returns_kept c3 c2 1 packet 0 f3 one_there first) (returns_kept c3 c2 2 packet (returned true) f3 two_there second)) in
    let ipv6 : (dissected packet).version ≡ 6 → Returns c5 c.put_tests-ipv6.result packet r = λ v. c.put_tests-ipv6.ensures.leads packet v bytes (returns_kept c4 c2 1 packet 0 f4 one_there first) (returns_kept c4 c2 2 packet (returned true) f4 two_there second) in
    let label : ℕ → ℕ = label_of c.put_tests-none.result c.put_tests-ipv4.result c.put_tests-ipv6.result in
    let led : Returns c5 (label (dissected packet).version) packet r = elim (versions packet) [
      | inl four ↦ subst (λ (l : ℕ). Returns c5 l packet r) (sym (ap label four)) (ipv4 four)
      | inr others ↦ elim others [
        | inl six ↦ subst (λ (l : ℕ). Returns c5 l packet r) (sym (ap label six)) (ipv6 six)
        | inr zero ↦ subst (λ (l : ℕ). Returns c5 l packet r) (sym (ap label zero)) (none zero)
      ]
    ] in
    let nothing : 0 ≡ length code - length code = omega arith in
    let value : passes_from u xs 0 0 packet ≡ verdict u c.args.filter.now packet = ap (λ (ys : List Test). led_to (λ x. meets x (dissected packet)) 0 0 (map (settled (end_of u)) ys) == 64) (drop_none xs ∙ c.used_tests-tests.ensures.tests) in
    ap (λ (n : ℕ). result_from code n packet start) nothing
    ∙ c.put_start.ensures.leads packet r bytes short led start
    ∙ ap (λ b. Some (returned b)) value
