use Rattle.std.proofs.Common.{ap, ◌∙◌}
use Rattle.ip_bpf.specs.Codes.{operation_of}
use Rattle.ip_bpf.proofs.EncodingLemmas as lemmas
use Rattle.ip_bpf.proofs.instruction.Operation.instruction.Goals as goal

pub returns-clause-decoded : goal.returns-clause-decoded
returns-clause-decoded c = ap operation_of c.instruction_of.ensures ∙ lemmas.decoded c.args.self
