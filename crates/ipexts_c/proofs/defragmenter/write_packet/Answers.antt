use Rattle.std.proofs.Common.{◌≡◌, ℕ, ◌+◌, ◌++◌, length, drop, sym, ap, ◌∙◌, refl}
use Rattle.std.specs.Prelude.{Ok}
use Rattle.ip_defragmenter.specs.Ecn.{is_congested, marked}
use Rattle.ip_defragmenter.specs.Whole.{whole_packet}
use Rattle.ipexts_c.proofs.defragmenter.write_packet.Goals as goal

pub returns-in-Ok-Some-clause-written : goal.returns-in-Ok-Some-clause-written
returns-in-Ok-Some-clause-written c = λ s f payload h whole first is.
    let w = c.in-Ok-Some.ensures.written s f payload h whole first in
    let stored = c.in-Ok-Some.field-0-is in
    let there = w.0 in
    let size : c.in-Ok-Some.written ≡ length f.headers + length payload = cc in (
      size,
      w.1 ∙ ap (λ (k : ℕ). whole_packet (marked (is_congested s.points) f.headers) f.link f.number payload ++ drop k c.args.out.now) (sym size),
      sym (c.in-Ok-Some.ensures.fault s f payload h whole first),
    )

pub returns-in-Ok-None-clause-refused : goal.returns-in-Ok-None-clause-refused
returns-in-Ok-None-clause-refused c = λ s f payload h whole first is none.
    let w = c.in-Ok-None.ensures.written s f payload h whole first in
    let stored = c.in-Ok-None.field-0-is in
    let there = w.0 in
    absurd (cc)

pub returns-in-Ok-None-clause-same : goal.returns-in-Ok-None-clause-same
returns-in-Ok-None-clause-same c = λ e. (c.in-Ok-None.ensures.nothing (ap Ok c.in-Ok-None.field-0-is), refl)
