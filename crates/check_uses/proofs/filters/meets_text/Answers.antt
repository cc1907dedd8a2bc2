use Rattle.std.proofs.Common.{Some}
use Rattle.ip_spec.proofs.Common.{◌≡◌, ◌-◌, ◌++◌, length, drop, refl, ap, ◌∙◌, arith}
use Rattle.ip_filter.specs.Words.{words}
use Rattle.check_uses.proofs.filters.meets_text.Goals as goal

pub returns-in-Ok-clause-some : goal.returns-in-Ok-clause-some
returns-in-Ok-clause-some c =
    let p = c.in-Ok.ensures.ok in (
      p.written,
      p.filter,
      p.words_of,
      c.matches.ensures ∙ p.formula (Some c.args.packet.now),
    )

pub returns-in-Err-clause-none : goal.returns-in-Err-clause-none
returns-in-Err-clause-none c =
    let text = c.args.text.now in
    let e = c.in-Err.ensures.err.2 in
    let within = e.within in
    let back : length text - (length text - c.in-Err.field-0.offset) ≡ c.in-Err.field-0.offset = omega (arith, within) in
    λ d is same. e.none d (words (drop c.in-Err.field-0.offset text)) is (same ∙ e.place.words_before ∙ ap (λ k. e.front ++ words (drop k text)) back) refl
