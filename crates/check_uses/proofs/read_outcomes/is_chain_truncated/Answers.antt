use Rattle.ip_spec.proofs.Common.{common_steps, ℕ, ◌<◌, ◌+◌, List, true, arith, ap, length, Option, Some, Consumes, length-append, bytes_of}
use Rattle.ip_base.specs.ExactRead.{IfSteady}
use Rattle.check_uses.proofs.read_outcomes.is_chain_truncated.Goals as goal

-- fewer than count bytes are left after `done`
too_few : (xs done : List ℕ) (left : Option (List ℕ)) (count : ℕ) → Consumes (Some xs) left done → IfSteady true left (λ s. length s < count) → length xs < length done + count
too_few xs done left count consumed short = grind (arith, common_steps)

pub returns-in-Err-Io-clause-headers : goal.returns-in-Err-Io-clause-headers
returns-in-Err-Io-clause-headers c =
    let k = rw c.in-Err-Io.field-0-is at c.in-Err-Io.ensures.refused in
    let (done, count, r) = k.refused.1 in
    let few = too_few k.between.now done r.left count r.consumed r.refusal.short in
    (k.headers, k.chain, k.fits, k.free, (done, count, r.asked, omega (arith, ap length k.consumed.bytes, length-append (bytes_of k.headers) k.between.now, few)))
