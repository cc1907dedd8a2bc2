use Rattle.ip_reassembly.proofs.Common.{sym, ◌∙◌, eq-eqb, eqb-true, refl}
use Rattle.ip_reassembly.proofs.MarkLemmas.{all_marked, marked_all, largest_none, none_largest}
use Rattle.ip_reassembly.proofs.ByteMarkLemmas.{free_bytes, bytes_free}
use Rattle.ip_reassembly.proofs.marks.are_free_bytes.Goals as goal

pub returns : goal.returns
returns c = (
  λ none. free_bytes c.args.marks.now c.args.first c.args.end (all_marked c.args.marks.now c.args.first c.args.end 0 c.requires.within (largest_none _ 0 (sym c.largest.ensures ∙ eqb-true c.largest.result 0 none)).1),
  λ free. eq-eqb c.largest.result 0 (c.largest.ensures ∙ none_largest _ 0 refl (marked_all c.args.marks.now c.args.first c.args.end 0 c.requires.within
      (λ j low high. bytes_free c.args.marks.now c.args.first c.args.end j (c.type_inv.marks j).fits free low high))),
)
