use Rattle.ip_reassembly.proofs.Common.{◌≡◌, ℕ, ◌%◌, ◌<◌, ap, arith, leb-true, le-leb}
use Rattle.ip_reassembly.proofs.RunLemmas.{some_units, later_in_run, later_fit}
use Rattle.ip_reassembly.proofs.marks.are_later_in_run.Goals as goal

pub returns : goal.returns
returns c =
    let units : ◌≡◌ {A = ℕ} c.from-units.result c.args.run.units = c.from-units.ensures in
    let place : ◌≡◌ {A = ℕ} (c.args.first % c.from-units.result) (c.args.first % c.args.run.units) = ap (λ (n : ℕ). c.args.first % n) units in
    let some : 0 < c.args.run.units = some_units c.args.run c.args.first (omega (arith, c.requires.ordered, c.requires.within)) in (
      λ fits i from below. later_in_run c.args.run c.args.first c.args.end i (omega (arith, place, c.if-place-eq0.false)) (omega (arith, place, units, leb-true _ _ fits)) from below,
      λ later. le-leb _ _ (omega (arith, place, units, later_fit c.args.run c.args.first c.args.end some later)),
    )
