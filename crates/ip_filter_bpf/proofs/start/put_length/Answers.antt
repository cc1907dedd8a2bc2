use Rattle.ip_bpf.proofs.AssemblyLemmas.{extends-put, extends-trans}
use Rattle.ip_filter_bpf.proofs.start.put_length.Goals as goal

pub returns-clause-front : goal.returns-clause-front
returns-clause-front c =
    extends-trans c.put.new.self c.branch-code.new.self c.args.code.now (extends-put c.put.new.self c.branch-code.new.self _ c.put.ensures) c.branch-code.ensures.front
