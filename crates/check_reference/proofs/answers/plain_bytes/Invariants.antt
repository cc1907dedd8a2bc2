use Rattle.ip_spec.proofs.Common.{◌*◌, drop}
use Rattle.check_reference.proofs.AnswerLemmas.{SoFar}
use Rattle.check_reference.proofs.answers.plain_bytes.Given as goal

abbrev pub invariant-loop-pair : goal.invariant-loop-pair
invariant-loop-pair l = SoFar l.text (drop (2 * l.pair) l.text) l.bytes.items
