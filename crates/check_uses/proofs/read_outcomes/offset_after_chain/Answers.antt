use Rattle.ip_spec.proofs.Common.{◌∙◌, ◌+◌, ap, arith}
use Rattle.ip_base.specs.LimitedReader.{limits_of}
use Rattle.check_uses.proofs.LimitLemmas.{limits_after-same, limits_after-last}
use Rattle.check_uses.proofs.read_outcomes.offset_after_chain.Goals as goal

pub returns-in-Ok-clause-limits : goal.returns-in-Ok-clause-limits
returns-in-Ok-clause-limits g c =
    let read = c.in-Ok.ensures.answer in
    let old = limits_of c.args.reader.now in
    let offset = ap (λ l. l.layer_offset + l.read_len) read.consumed.limits ∙ (limits_after-same read.headers old).0 in (
      read.headers,
      read.chain,
      omega (arith, offset, c.layer_offset.ensures, c.read_len.ensures.value),
      λ d h e. ap (λ l. l.layer) read.consumed.limits ∙ rw e (limits_after-last d h old),
    )

pub returns-in-Ok-clause-source : goal.returns-in-Ok-clause-source
returns-in-Ok-clause-source g c =
    let read = c.in-Ok.ensures.answer in cc (read.consumed.limits, (limits_after-same read.headers (limits_of c.args.reader.now)).1)
