use Rattle.ip_spec.proofs.Common.{◌≡◌, ◌++◌, string_bytes}
use Rattle.std.specs.Prelude.{OnOk}
use Rattle.ipexts_tool.proofs.PacketLemmas.{fault_answer}
use Rattle.check_reference.proofs.PacketLemmas.{parts_answer}
use Rattle.check_reference.proofs.packet.push_packet.Goals as goal

pub returns-in-Ok : goal.returns-in-Ok
returns-in-Ok c =
    let told = rw c.in-Ok.is at c.in_ok-name.ensures in
    parts_answer c.args.bytes.now c.in-Ok.name.now c.in-Ok.packet
    (λ lines. OnOk c.push_parts.result (string_bytes c.push_parts.new.text ≡ string_bytes c.args.text.now ++ lines))
    told.fault told.ipv4 told.ipv6 c.push_parts.ensures

pub returns-in-Err : goal.returns-in-Err
returns-in-Err c = rw (fault_answer c.args.bytes.now c.in-Err.fault (rw c.in-Err.is at c.in_ok-name.ensures.fault)) c.push_fault.ensures
