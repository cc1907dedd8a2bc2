use Rattle.std.proofs.Common.{◌≡◌, ◌+◌, ◌++◌, take, drop, arith, append_assoc}
use Rattle.std.proofs.lemmas.List.{take-append-drop, drop-drop}
use Rattle.ip_ext_headers.proofs.appending.append_blocks.Goals as goal

pub blocks-2-preserved : goal.blocks-2-preserved
blocks-2-preserved g c =
    let from = c.args.from.now in
    let end = c.blocks-2.end in
    let rest : drop g.row.N (drop end from) ≡ drop (end + g.row.N) from = drop-drop g.row.N end from in
    let joined : take g.row.N (drop end from) ++ drop g.row.N (drop end from) ≡ drop end from = take-append-drop g.row.N (drop end from) in (
      cc (c.append_block.ensures.appended, append_assoc c.blocks-2.to.items (take g.row.N (drop end from)) (drop g.row.N (drop end from)), c.blocks-2.invariant.0),
      omega (arith, c.append_block.ensures.len, c.blocks-2.invariant.1),
      omega arith,
    )
