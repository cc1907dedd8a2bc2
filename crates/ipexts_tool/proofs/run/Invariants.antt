use Rattle.ip_spec.proofs.Common.{[]}
use Rattle.ipexts_tool.specs.Progress.{Advances}
use Rattle.ipexts_tool.proofs.run.Given as goal

-- some bytes have been read, the lines that end in them were answered, and what follows is kept
abbrev pub invariant-loop : goal.invariant-loop
invariant-loop g l = Advances (g.R.Read.remaining l.fn.input) (g.R.Read.remaining l.input)
    (g.W.Write.contents l.fn.output) (g.W.Write.contents l.output) [] l.line.items
