use Rattle.std.proofs.Common.{arith, rules, ◌∙◌, ◌≡◌, length}
use Rattle.ip_filter.specs.Program.{tests_of}
use Rattle.ip_filter.proofs.CompileLemmas.{negated_odd_times, negated_even_times, whole_redirected, used_len}
use Rattle.ip_filter.proofs.compile.Compiler.negate_last.Goals as goal

pub returns-then-nots-eq1 : goal.returns-then-nots-eq1
returns-then-nots-eq1 c = λ f fs few are frame.
    let filter = c.args.self.now.filter in
    let all : length (tests_of filter) ≡ c.min.result = used_len filter.count c.min.result filter.tests (search rules) c.min.ensures in
    negated_odd_times frame c.args.nots f fs c.args.self.now.starts.items c.redirect.new.self.starts.items (tests_of filter) (tests_of c.redirect.new.self.filter) c.if-nots-eq1.true few c.redirect.ensures.starts
    (λ rest i is within. c.redirect.ensures.tests rest i is (omega (arith, within, all)) (omega (arith, all)) ∙ whole_redirected i 65 64 c.min.result (tests_of filter) all) (are frame)

pub returns-else-nots-eq1 : goal.returns-else-nots-eq1
returns-else-nots-eq1 c = λ f fs few are frame. negated_even_times frame c.args.nots f fs _ _ c.if-nots-eq1.false (are frame)
