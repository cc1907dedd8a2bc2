use Rattle.std.proofs.Common.{◌≡◌, length}
use Rattle.ip_bpf.specs.Machine.{result_from, result_of}
use Rattle.ip_bpf.proofs.run.result_of.Given as goal

-- what is left of the program returns what the program does
abbrev pub invariant-steps : goal.invariant-steps
invariant-steps l = result_from l.rest 0 l.packet l.machine ≡ result_of l.fn.program l.packet

abbrev pub decreases-steps : goal.decreases-steps
decreases-steps l = length l.rest
