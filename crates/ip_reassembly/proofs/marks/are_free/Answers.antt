use Rattle.ip_reassembly.proofs.Common.{arith, both_ways, ◌+◌, ◌*◌, ◌/◌, ◌-◌, cases_lt, inl, inr, refl}
use Rattle.ip_reassembly.proofs.marks.are_free.Goals as goal

pub returns-then-start-last : goal.returns-then-start-last
returns-then-start-last c = (
  λ free i low high. c.are_free_in.ensures.0 free i (omega (arith, low)) (omega (arith, high, c.if-start-last.true)),
  λ all. c.are_free_in.ensures.1 (λ i low high. all i (omega (arith, low)) (omega (arith, high, c.requires.ordered, c.if-first-end.false))),
)

pub returns-then-not-are_free_in : goal.returns-then-not-are_free_in
returns-then-not-are_free_in c = (
  λ no. absurd (both_ways _ refl no),
  λ all. absurd (both_ways c.are_free_in-2.result c.if-not-are_free_in.true (c.are_free_in-2.ensures.1 (λ i low high. all i (omega (arith, low)) (omega (arith, high, c.requires.ordered, c.if-first-end.false, c.if-start-last.false))))),
)

pub returns : goal.returns
returns c = (
  λ last i low high. elim (cases_lt i (4 * (c.args.first / 4 + 1))) [
    | inl before ↦ c.are_free_in-2.ensures.0 c.if-not-are_free_in.false i (omega (arith, low)) (omega (arith, before))
    | inr from ↦ elim (cases_lt i (4 * ((c.args.end - 1) / 4))) [
      | inl inside ↦ c.are_free_bytes.ensures.0 c.if-not-are_free_bytes.false i from inside
      | inr after ↦ c.are_free_in-3.ensures.0 last i (omega (arith, after)) (omega (arith, high))
    ]
  ],
  λ all. c.are_free_in-3.ensures.1 (λ i low high. all i (omega (arith, low, c.requires.ordered, c.if-first-end.false, c.if-start-last.false)) (omega (arith, high, c.requires.ordered, c.if-first-end.false))),
)
