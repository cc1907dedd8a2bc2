use Rattle.ip_filter.proofs.CompileLemmas.{term_compiled}
use Rattle.ip_filter.proofs.compile.Compiler.add.Goals as goal

pub returns : goal.returns
returns c =
    term_compiled c.args.term c.of.result c.args.self.now c.push.new.self c.of.ensures.meets c.of.ensures.framed c.of.ensures.if_met c.of.ensures.if_not
    c.push.ensures.tests c.push.ensures.starts
