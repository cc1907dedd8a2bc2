use Rattle.ip_reassembly.proofs.MarkLemmas.{all_marked, marked_all}
use Rattle.ip_reassembly.proofs.ByteMarkLemmas.{later_bytes, bytes_later}
use Rattle.ip_reassembly.proofs.marks.are_later_bytes.Goals as goal

pub returns : goal.returns
returns c = (
  λ all. later_bytes c.args.marks.now c.args.first c.args.end (all_marked c.args.marks.now c.args.first c.args.end 255 c.requires.within (c.are_all_later.ensures.0 all)),
  λ later. c.are_all_later.ensures.1 (marked_all c.args.marks.now c.args.first c.args.end 255 c.requires.within
      (λ j low high. bytes_later c.args.marks.now c.args.first c.args.end j (c.type_inv.marks j).fits later low high)),
)
