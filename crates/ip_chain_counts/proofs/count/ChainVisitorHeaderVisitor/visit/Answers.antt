use Rattle.std.proofs.Common.{◌++◌, ◌∷◌, [], ℕ, List, sym, ap, ◌∙◌, append_assoc}
use Rattle.std.proofs.lemmas.List.{map-append}
use Rattle.ip_spec.specs.Chain.{ExtHeader}
use Rattle.ip_chain_counts.specs.Chain.{numbers_of}
use Rattle.ip_chain_counts.proofs.KeyLemmas.{has_as}
use Rattle.ip_chain_counts.proofs.count.ChainVisitorHeaderVisitor.visit.Goals as goal

pub returns : goal.returns
returns c = λ old k chain before index offset.
    let h : ExtHeader = record { number = c.args.number.0; bytes = c.args._header.now } in (
      before.0,
      before.1,
      before.2,
      λ xs has.
          has_as _ _ _ (append_assoc xs (numbers_of chain) (h.number ∷ []) ∙ ap (λ (ys : List ℕ). xs ++ ys) (sym (map-append (λ (x : ExtHeader). x.number) chain (h ∷ []))))
          (c.push.ensures (xs ++ numbers_of chain) (before.3 xs has)),
    )
