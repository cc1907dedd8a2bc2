use Rattle.ip_spec.proofs.Common.{rules, ℕ, ◌≡◌, ◌≢◌, ◌<◌, arith, eq-eqb, ne_eqb, length, get_or, take_rest, false, position_or_len, slice_split_none, All-from_get_or, ◌==◌, Bool}
use Rattle.std.proofs.lemmas.List.Splits.{slice_split_first}
use Rattle.std.proofs.lemmas.List.Sums.{position_or_len_is}
use Rattle.ipexts_tool.proofs.search.split_once.Goals as goal

pub returns-in_err-end-clause-absent : goal.returns-in_err-end-clause-absent
returns-in_err-end-clause-absent c =
    let text = c.args.text.now in
    let none : (k : ℕ) → k < length text → get_or text k 0 ≢ c.args.separator = search rules in
    rw c.from_residual.ensures (slice_split_none _ text (All-from_get_or (λ b. (b == c.args.separator) ≡ false) text 0 (λ k inside. ne_eqb _ _ (none k inside))))

pub returns-clause-found : goal.returns-clause-found
returns-clause-found c =
    let text = c.args.text.now in
    let p : ℕ → Bool = λ b. b == c.args.separator in
    let inside : c.in_ok-end.end < length text = search rules in
    let at : position_or_len p text ≡ c.in_ok-end.end = search (rules, position_or_len_is, ne_eqb, eq-eqb) in
    rw (take_rest, ← at) (slice_split_first p text 0 (omega (arith, at)))
