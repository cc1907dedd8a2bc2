use Rattle.ip_spec.proofs.Common.{◌≡◌, ◌++◌, map, drop, string_bytes}
use Rattle.ipexts_tool.specs.Answers.{answers, answers_to}
use Rattle.check_reference.proofs.answers.plain_answers.Given as goal

-- the answers so far and those to the remaining lines are all answers
abbrev pub invariant-loop-line : goal.invariant-loop-line
invariant-loop-line l = string_bytes l.text ++ answers_to (map (λ line. line.now) (drop l.line-index l.line-items)) ≡ answers l.fn.input
