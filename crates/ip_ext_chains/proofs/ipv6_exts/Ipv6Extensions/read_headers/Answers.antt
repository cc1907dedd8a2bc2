use Rattle.ip_spec.proofs.Common.{rules, sym, arith, ◌∙◌}
use Rattle.ip_ext_chains.proofs.ReadingLemmas.{fewer, nested, none_occupied, next_occupied, occupied_more, reading_next, is_number_in, not_occupied, no_place_answers}
use Rattle.ip_ext_chains.proofs.ipv6_exts.Ipv6Extensions.read_headers.Goals as goal

pub headers-init : goal.headers-init
headers-init g c =
    let occupied = none_occupied _ _ c.new-occupied.ensures c.requires.empty in search (rules, occupied, g.met.S.HeaderSource.reads_none)

pub read_into-requires : goal.read_into-requires
read_into-requires g c = nested _ _ _ _ _ c.headers.invariant.1 _ (sym (c.in-Some.ensures ∙ next_occupied _ _ _ _ c.headers.invariant.5))

pub headers-preserved : goal.headers-preserved
headers-preserved g c =
    let came = c.headers.invariant in
    let next = sym (c.in-Some.ensures ∙ next_occupied _ _ _ _ c.headers.invariant.5) in
    let number = is_number_in _ _ _ _ _ came.1 _ next in
    let reading = reading_next _ _ _ _ _ came.1 _ next _ _ _ c.in-Ok.ensures.ok in
    let occupied = occupied_more _ _ _ _ _ came.1 _ next _ _ _ _ _ c.in-Ok.ensures.ok came.5 c.put.ensures in
    search (rules, occupied, g.met.S.HeaderSource.reads_next)

pub headers-smaller : goal.headers-smaller
headers-smaller g c = fewer _ _ _ _ _ c.headers.invariant.1 _ (sym (c.in-Some.ensures ∙ next_occupied _ _ _ _ c.headers.invariant.5)) _ _ _ c.in-Ok.ensures.ok

pub returns-in-Err-clause-refused : goal.returns-in-Err-clause-refused
returns-in-Err-clause-refused g c =
    let came = c.headers.invariant in
    let next = sym (c.in-Some.ensures ∙ next_occupied _ _ _ _ c.headers.invariant.5) in
    let number = is_number_in _ _ _ _ _ came.1 _ next in
    let free = not_occupied _ _ _ _ _ came.1 _ next in
    search (rules, g.met.S.HeaderSource.refuses_there)

pub returns-then-eq-clause-refused : goal.returns-then-eq-clause-refused
returns-then-eq-clause-refused g c = let none = c.in_default.ensures ∙ next_occupied _ _ _ _ c.headers.invariant.5 in search rules

pub returns-clause-answer : goal.returns-clause-answer
returns-clause-answer g c = let answer = no_place_answers _ _ _ _ _ c.headers.invariant.1 (grind arith) (sym (c.in_default.ensures ∙ next_occupied _ _ _ _ c.headers.invariant.5)) in search rules
