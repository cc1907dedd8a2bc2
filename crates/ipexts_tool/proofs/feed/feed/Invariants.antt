use Rattle.ip_spec.proofs.Common.{◌≡◌, List, ℕ, ◌++◌, length, Appends}
use Rattle.ipexts_tool.specs.Answers.{answers_to}
use Rattle.ipexts_tool.specs.OpenLine.{ended_lines, open_line}
use Rattle.ipexts_tool.proofs.feed.feed.Given as goal

-- some lines ended and were answered, and the rest continues the started line
abbrev pub invariant-loop-part : goal.invariant-loop-part
invariant-loop-part g l = record {
  going_on : open_line l.fn.line.items l.chunk ≡ open_line l.line.items l.rest;
  told : (told : List (List ℕ)) × (ended_lines l.fn.line.items l.chunk ≡ told ++ ended_lines l.line.items l.rest)
      × Appends (g.W.Write.contents l.fn.output) (g.W.Write.contents l.output) (answers_to told);
}

abbrev pub decreases-loop-part : goal.decreases-loop-part
decreases-loop-part g l = length l.rest
