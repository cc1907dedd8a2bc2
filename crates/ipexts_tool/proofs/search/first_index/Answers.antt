use Rattle.std.proofs.Common.{sym, ◌∙◌, inl, inr, ◌==◌, ℕ, Bool, arith, eqb-true}
use Rattle.std.proofs.lemmas.Bool.{cases_lt, eqb-false}
use Rattle.std.proofs.lemmas.Simd.{none_from_empty_mask}
use Rattle.ipexts_tool.proofs.SearchLemmas.{first-inside, first-passes, before-fails}
use Rattle.ipexts_tool.proofs.search.first_index.Goals as goal

pub returns-then-places-ne0-clause-inside : goal.returns-then-places-ne0-clause-inside
returns-then-places-ne0-clause-inside c =
    let p : ℕ → Bool = λ other. other == c.args.byte in
    omega (arith, first-inside p c.args.text.now c.search.at _ (omega arith) c.places_in_block-places.ensures (omega arith))

pub returns-then-places-ne0-clause-here : goal.returns-then-places-ne0-clause-here
returns-then-places-ne0-clause-here c =
    let p : ℕ → Bool = λ other. other == c.args.byte in
    eqb-true _ _ (first-passes p c.args.text.now c.search.at _ (omega arith) c.places_in_block-places.ensures (omega arith))

pub returns-then-places-ne0-clause-first : goal.returns-then-places-ne0-clause-first
returns-then-places-ne0-clause-first c k below =
    let p : ℕ → Bool = λ other. other == c.args.byte in
    elim (cases_lt k c.search.at) [
      | inl before ↦ c.search.invariant.before k before
      | inr within ↦ eqb-false _ _ (before-fails p c.args.text.now c.search.at _ (omega arith) c.places_in_block-places.ensures (omega arith) k within below)
    ]

pub search-preserved : goal.search-preserved
search-preserved c =
    let p : ℕ → Bool = λ other. other == c.args.byte in
    record {
      inside = omega arith;
      before = λ k below.
          elim (cases_lt k c.search.at) [
            | inl before ↦ c.search.invariant.before k before
            | inr within ↦ eqb-false _ _ (none_from_empty_mask p c.args.text.now c.search.at 16 0 (omega arith) (sym c.places_in_block-places.ensures ∙ c.if-places-ne0.false) k within below)
          ];
    }
