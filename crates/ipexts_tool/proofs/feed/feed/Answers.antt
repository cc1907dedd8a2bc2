use Rattle.ip_spec.proofs.Common.{◌++◌, ◌∷◌, [], ℕ, List, length, append_assoc, rules, flat_map_more, Appends-trans, Appends-kept, take-append_seam, err_from_is_err_and}
use Rattle.ipexts_tool.specs.OpenLine.{ended_lines}
use Rattle.ipexts_tool.proofs.OpenLineLemmas.{lines_found}
use Rattle.ipexts_tool.proofs.MemoryLemmas.{IfMemory-weaker}
use Rattle.ipexts_tool.proofs.feed.feed.Goals as goal

pub loop-part-preserved : goal.loop-part-preserved
loop-part-preserved g c =
    let found = lines_found c.loop-part.line.items c.loop-part.rest.now c.in-Some.part.now c.in-Some.after.now c.in-Some.ensures.found in
    let begun = c.in_ok-end_line.ensures.begun in
    let so_far = c.loop-part.invariant in
    let line : List ℕ = c.loop-part.line.items ++ c.in-Some.part.now in
    record {
      going_on = cc (so_far.going_on, found.1, begun);
      told = (
        so_far.told.0 ++ line ∷ [],
        cc (so_far.told.1, found.0, begun, append_assoc so_far.told.0 (line ∷ []) (ended_lines [] c.in-Some.after.now)),
        search (rules, flat_map_more, Appends-trans),
      );
    }

pub returns-in_err-end_line-clause-memory : goal.returns-in_err-end_line-clause-memory
returns-in_err-end_line-clause-memory g c =
    let p = err_from_is_err_and c.from_residual.result c.from_residual.ensures.1 in
    let told = c.loop-part.invariant.told in
    rw (p.1, p.2) (IfMemory-weaker c.in_err-end_line.field-0.0 (λ kept. (length told.0, search (rules, told.1, take-append_seam told.0, Appends-kept))) c.in_err-end_line.ensures.memory)
