use Rattle.std.proofs.Common.{◌≡◌, ◌+◌, ◌++◌, ℕ, List, length, drop, Option, None, Some, Result, Ok, Err, ap, ◌∙◌, sym}
use Rattle.std.specs.Prelude.{OnOk}
use Rattle.std.specs.Result.{result_err}
use Rattle.std.proofs.lemmas.Option.{none-some}
use Rattle.ip_defragmenter.specs.declared.err.WholeError.{WholeError}
use Rattle.ip_defragmenter_laws.proofs.calls.write_whole.Goals as goal

of_ok : (r : Result (Option ℕ) WholeError) (P : Type 0) → result_err r ≡ None → OnOk r P → P
of_ok (Ok x) P none is = is
of_ok (Err e) P none is = absurd (none-some _ (sym none))

pub returns-clause-sent : goal.returns-clause-sent
returns-clause-sent c = λ s has enough.
    let out : List ℕ = c.args.out.now in
    let both = of_ok c.write.result _ (c.write.ensures.fault has.stored has.first has.payload has.holds has.payload_is has.first_is ∙ has.writable (length out) enough)
    (c.write.ensures.written has.stored has.first has.payload has.holds has.payload_is has.first_is) in (
      both.0 ∙ ap (λ (n : ℕ). (let r : Result (Option ℕ) WholeError = Ok (Some n) in r)) has.len,
      both.1 ∙ (ap (λ (x : List ℕ). x ++ drop (length has.first.headers + length has.payload) out) has.packet ∙ ap (λ (n : ℕ). s ++ drop n out) has.len),
    )
