use Rattle.ip_spec.proofs.Common.{arith, rules, refl, ap, length}
use Rattle.ip_filter.proofs.CompileLemmas.{used_again}
use Rattle.ip_filter.proofs.ParseLemmas.{begin, go_on, fewer_words, first_error, parsed, missing_end}
use Rattle.ip_filter.proofs.filter.Filter.parse.Goals as goal

pub words-init : goal.words-init
words-init c = begin c.args.text.now c.new-builder.result c.new-builder.ensures

pub words-smaller : goal.words-smaller
words-smaller c = fewer_words _ _ _ _ c.in-Some.word _ c.words.invariant (search rules) c.in-Some.ensures.some c.in-Ok.ensures.ok

pub words-preserved : goal.words-preserved
words-preserved c = go_on _ _ _ _ c.in-Some.word _ c.words.invariant (search rules) c.in-Some.ensures.some c.in-Ok.ensures.ok

pub overflow_sub-result : goal.overflow_sub-result
overflow_sub-result c =
    let g = c.words.invariant in
    let r = c.in-Err.ensures.err c.words.rest.now g.state c.in-Some.ensures.some g.holds in
    omega (arith, r.place.within, g.end.0)

pub returns-in-Err-clause-err : goal.returns-in-Err-clause-err
returns-in-Err-clause-err c = first_error _ _ _ c.in-Some.word _ _ c.words.invariant c.in-Some.ensures.some c.in-Err.ensures.err

pub returns-in-Ok-finish-clause-ok : goal.returns-in-Ok-finish-clause-ok
returns-in-Ok-finish-clause-ok c =
    let x = c.finish.new.self.compiler.filter in
    let used = c.used_tests.ensures.tests in
    parsed _ _ _ c.finish.new.self.compiler _ c.words.invariant (search rules) c.in_default.ensures.none c.in-Ok-finish.ensures.ok
    (used_again x.count _ x.tests _ used refl) (ap length used)

pub returns-in-Err-finish-clause-err : goal.returns-in-Err-finish-clause-err
returns-in-Err-finish-clause-err c = missing_end _ _ _ _ c.words.invariant c.in_default.ensures.none c.in-Err-finish.ensures.err
