-- A step as the code has it: where it leads, and the machine that it changed.
use Rattle.ip_bpf.specs.Machine.{Step, Returns, Continues, Stuck}
use Rattle.ip_bpf.specs.declared.machine.Machine.{Machine}
use Rattle.ip_bpf.specs.declared.machine.Next.{Next}
use Rattle.ip_bpf.specs.declared.machine.Next.TheVariants as next

abbrev pub joined : Next → Machine → Step
joined (next.Return n) m = Returns n
joined (next.Skip skipped) m = Continues skipped m
joined next.Stuck m = Stuck
