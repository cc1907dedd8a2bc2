use Rattle.ip_bpf.proofs.AssemblyLemmas.{extends-put, extends-trans}
use Rattle.ip_filter_bpf.proofs.start.put_version.Goals as goal

pub returns-clause-front : goal.returns-clause-front
returns-clause-front c =
    extends-trans c.put.new.self c.put_shift.new.code c.args.code.now
    (extends-put c.put.new.self c.put_shift.new.code _ c.put.ensures)
    (extends-trans c.put_shift.new.code c.branch-code.new.self c.args.code.now c.put_shift.ensures.front c.branch-code.ensures.front)
