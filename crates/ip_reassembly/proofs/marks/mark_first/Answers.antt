use Rattle.ip_reassembly.proofs.Common.{ℕ, ◌<◌, ◌-◌, ◌≡◌, arith, first_mark, subst, sym}
use Rattle.ip_reassembly.proofs.ByteMarkLemmas.{marked_first, missing_bit}
use Rattle.ip_reassembly.proofs.marks.mark_first.Goals as goal

pub returns : goal.returns
returns c = λ i.
    let bit : (c.from.result < 2) × (first_mark c.args.more ≡ 2 - c.from.result) = subst (λ (n : ℕ). (n < 2) × (first_mark c.args.more ≡ 2 - n)) (sym c.from.ensures) (missing_bit c.args.more) in
    marked_first c.args.marks.now c.args.unit c.from.result (first_mark c.args.more) i (omega (arith, c.requires.within)) bit.0 bit.1 c.requires.later
