use Rattle.ip_spec.proofs.Common.{◌≡◌, List, [], ◌∷◌, true, refl, ap, ◌∙◌, length, ExtHeader, is_empty, is_some, not, ◌&&◌}
use Rattle.std.proofs.lemmas.Bool.{and_parts}
use Rattle.ip_dissect.specs.Dissection.{dissected}
use Rattle.ip_dissect.specs.End.{has_error}
use Rattle.ip_defragmenter.specs.Finder.{found_after}
use Rattle.ip_defragmenter.proofs.fragment.ReadingPacketVisitor.visit_plain.Goals as goal

is_nil : (c : List ExtHeader) → is_empty c ≡ true → [] ≡ c
is_nil [] e = refl
is_nil (h ∷ c) e = absurd (cc)

pub read_packet-requires : goal.read_packet-requires
read_packet-requires c =
    let p = dissected c.args.packet.bytes.now in
    let empty = (and_parts _ _ (and_parts (not (has_error p.end) && is_empty p.headers) (not (is_some p.fragment)) c.requires).0).1 in
    c.new.ensures (length p.base) ∙ ap (found_after (length p.base)) (is_nil p.headers empty)
