use Rattle.std.proofs.Common.{◌++◌, ◌∷◌, [], ℕ, List, sym, ap, ◌∙◌, take, append_assoc}
use Rattle.std.proofs.lemmas.List.{take_more, take_all}
use Rattle.ip_chain_counts.proofs.KeyLemmas.{has_as}
use Rattle.ip_chain_counts.proofs.key_bytes.KeyBytes.extend.Goals as goal

pub bytes-preserved : goal.bytes-preserved
bytes-preserved c = λ xs has.
    let i : ℕ = c.bytes.byte-index in
    let bs : List ℕ = c.args.bytes.now in
    has_as _ _ _ (append_assoc xs (take i bs) (_ ∷ []) ∙ ap (λ (ys : List ℕ). xs ++ ys) (sym (take_more bs i 0 c.bytes-test.true))) (c.push.ensures (xs ++ take i bs) (c.bytes.invariant xs has))

pub returns : goal.returns
returns c = λ xs has.
    has_as _ _ _ (ap (λ (ys : List ℕ). xs ++ ys) (take_all c.bytes.byte-index c.args.bytes.now c.bytes-test.false)) (c.bytes.invariant xs has)
