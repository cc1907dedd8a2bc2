use Rattle.ip_spec.proofs.Common.{append_assoc}
use Rattle.check_reference.proofs.packet.push_payload.Goals as goal

pub returns : goal.returns
returns c =
    let h = rw (c.yes_or_no-fragmented.ensures, c.name-source.ensures) at c.writeln.ensures.bytes in
    simp append_assoc h
