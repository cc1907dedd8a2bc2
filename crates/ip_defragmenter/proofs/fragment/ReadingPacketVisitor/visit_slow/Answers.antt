use Rattle.ip_spec.proofs.Common.{ℕ, List, ap, sym, ◌∙◌, length}
use Rattle.ip_dissect.specs.Dissection.{dissected}
use Rattle.ip_defragmenter.specs.Finder.{found_after}
use Rattle.ip_defragmenter.proofs.fragment.ReadingPacketVisitor.visit_slow.Goals as goal

pub read_packet-requires : goal.read_packet-requires
read_packet-requires c =
    c.walk-packet.ensures.visited (c.new-finder.ensures (length (dissected c.args.start.bytes.now).base))
    ∙ ap (λ (s : List ℕ). found_after (length (dissected s).base) (dissected s).headers) (sym c.walk-packet.ensures.bytes)
