use Rattle.ip_reassembly.proofs.Common.{ℕ, ◌≡◌, ◌+◌, ◌-◌, ◌*◌, ◌/◌, ◌%◌, leb, ltb, ◌&&◌, cond, ap, ◌∙◌, arith, mark_of}
use Rattle.ip_reassembly.proofs.ByteMarkLemmas.{three_parts}
use Rattle.ip_reassembly.proofs.marks.mark_later.Goals as goal

-- A part by its bounds.
between : (a b a' b' i x : ℕ) → a ≡ a' → b ≡ b' → cond (leb a i && ltb i b) 3 x ≡ cond (leb a' i && ltb i b') 3 x
between a b a' b' i x e f = ap (λ (n : ℕ). cond (leb n i && ltb i b) 3 x) e ∙ ap (λ (n : ℕ). cond (leb a' i && ltb i n) 3 x) f

pub returns-else-start-last-clause-marks : goal.returns-else-start-last-clause-marks
returns-else-start-last-clause-marks c = λ i.
    let first = c.args.first in
    let end = c.args.end in
    let start = first / 4 in
    let last = (end - 1) / 4 in
    three_parts first (4 * (start + 1)) (4 * last) end i (mark_of c.args.marks.now i) (mark_of c.mark_in-else-start-last.new.marks i) (mark_of c.mark_bytes.new.marks i) (mark_of c.mark_in-else-start-last-2.new.marks i)
    (omega arith) (omega (arith, c.requires.ordered, c.if-start-last.false)) (omega (arith, c.requires.ordered))
    (c.mark_in-else-start-last-2.ensures.marks i ∙ between (4 * last + 0) (4 * last + (end - 4 * last)) (4 * last) end i _ (omega arith) (omega (arith, c.requires.ordered)))
    (c.mark_bytes.ensures.marks i)
    (c.mark_in-else-start-last.ensures.marks i ∙ between (4 * start + first % 4) (4 * start + 4) first (4 * (start + 1)) i _ (omega arith) (omega arith))
