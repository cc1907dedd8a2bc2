use Rattle.ip_spec.proofs.Common.{◌≡◌, ◌∙◌, ◌==◌, refl, ap, Bool, true, false}
use Rattle.ip_spans.specs.ChainParts.{flag}
use Rattle.ip_spans.specs.PacketParts.{parts_in}
use Rattle.check_uses.proofs.span_outcomes.numbers_in_packet.Goals as goal

flag_is : (b : Bool) → (flag b == 1) ≡ b
flag_is true = refl
flag_is false = refl

pub returns-in-Ok-clause-fragmented : goal.returns-in-Ok-clause-fragmented
returns-in-Ok-clause-fragmented c =
    ap (λ parts. parts.fragmented == 1) c.in-Ok.ensures.packet.fields ∙ flag_is (parts_in c.args.bytes.now).fragmented
