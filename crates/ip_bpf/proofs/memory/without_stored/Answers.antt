use Rattle.std.proofs.Common.{ap}
use Rattle.std.specs.Prelude.{Some}
use Rattle.ip_bpf.proofs.BitLemmas.{cleared}
use Rattle.ip_bpf.specs.Programs.{word_stored}
use Rattle.ip_bpf.specs.declared.instruction.Operation.{Operation}
use Rattle.ip_bpf.proofs.memory.without_stored.Goals as goal

pub returns-in-Store : goal.returns-in-Store
returns-in-Store c = λ j less. cleared c.args.words c.in-Store.k j (word_stored (Some c.args.operation)) c.if-k-lt16.true less (ap (λ (o : Operation). word_stored (Some o)) c.in-Store.is)
