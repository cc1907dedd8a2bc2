use Rattle.ip_reassembly.proofs.Common.{arith, both_ways, ◌*◌, ◌/◌, cases_lt, inl, inr, refl}
use Rattle.ip_reassembly.proofs.marks.are_later_marks.Goals as goal

pub returns-then-not-are_later_units : goal.returns-then-not-are_later_units
returns-then-not-are_later_units c = (
  λ no. absurd (both_ways _ refl no),
  λ all. absurd (both_ways c.are_later_units-2.result c.if-not-are_later_units.true (c.are_later_units-2.ensures.1 (λ i low high. all i low (omega (arith, high, c.if-start-last.false))))),
)

pub returns-then-not-are_later_bytes : goal.returns-then-not-are_later_bytes
returns-then-not-are_later_bytes c = (
  λ no. absurd (both_ways _ refl no),
  λ all. absurd (both_ways c.are_later_bytes.result c.if-not-are_later_bytes.true (c.are_later_bytes.ensures.1 (λ i low high. all i (omega (arith, low, c.div_ceil-start.ensures)) (omega (arith, high))))),
)

pub returns : goal.returns
returns c = (
  λ last i low high. elim (cases_lt i (4 * c.div_ceil-start.result)) [
    | inl before ↦ c.are_later_units-2.ensures.0 c.if-not-are_later_units.false i low before
    | inr from ↦ elim (cases_lt i (4 * (c.args.end / 4))) [
      | inl inside ↦ c.are_later_bytes.ensures.0 c.if-not-are_later_bytes.false i from inside
      | inr after ↦ c.are_later_units-3.ensures.0 last i after high
    ]
  ],
  λ all. c.are_later_units-3.ensures.1 (λ i low high. all i (omega (arith, low, c.div_ceil-start.ensures, c.if-start-last.false)) high),
)
