use Rattle.ip_spec.proofs.Common.{take, ◌++◌, ◌∷◌, [], List, subst, refl, rules, ExtHeader}
use Rattle.ip_spec.proofs.ParsedLemmas.{has_parsed_none}
use Rattle.ip_dissect.proofs.LaterLemmas.{count_fits, goes_on, stops_at_later, chain_at_later, at_end, chain_at_end, none_after_later, error_there, count_is, offset_is}
use Rattle.ip_dissect.proofs.walk.pass.Goals as goal

pub with-found-requires : goal.with-found-requires
with-found-requires g c = count_fits _ _ _ _ _ _ c.headers.invariant.1 (search rules)

pub headers-init : goal.headers-init
headers-init g c = ([], record { read = has_parsed_none _ _; said = c.none-found.ensures; none = refl }, g.met.V.HeaderVisitor.none _ _)

pub headers-preserved : goal.headers-preserved
headers-preserved g c =
    let w = c.headers.invariant.1 in
    let header = c.in-Some.ensures in
    let said = c.with-found.ensures _ _ w.said (c.fragment_at.ensures _ header.next.header header.next.prefix) in (
      c.headers.invariant.0 ++ record { number = c.headers.number.0; bytes = take c.in-Some.len c.headers.rest.now } ∷ [],
      goes_on _ _ _ _ _ _ w _ _ _ header.next header.within c.after-rest.ensures said c.if-found.false,
      c.visit.ensures _ _ c.headers.invariant.0 c.headers.invariant.2 (count_is _ _ _ _ _ _ w) (offset_is _ _ _ _ _ _ w c.args.offset),
    )

pub returns-then-found : goal.returns-then-found
returns-then-found g c =
    let w = c.headers.invariant.1 in
    let header = c.in-Some.ensures in
    let said = c.with-found.ensures _ _ w.said (c.fragment_at.ensures _ header.next.header header.next.prefix) in
    let end = stops_at_later _ _ _ _ _ _ w _ _ _ header.next header.within c.after-rest.ensures said c.if-found.true in
    let is = chain_at_later _ _ _ _ _ _ w _ _ _ header.next header.within c.after-rest.ensures said c.if-found.true in
    let P : List ExtHeader → Type 0 = λ d. g.V.HeaderVisitor.visited c.args.visitor.now c.args.offset d c.visit.new.self in
    record {
      passed = record { number = end.number; rest = end.rest; found = end.said; error = λ k. none_after_later _ _ c.if-found.true };
      visited = subst P is (c.visit.ensures _ _ c.headers.invariant.0 c.headers.invariant.2 (count_is _ _ _ _ _ _ w) (offset_is _ _ _ _ _ _ w c.args.offset));
    }

pub returns : goal.returns
returns g c =
    let w = c.headers.invariant.1 in
    let stop = c.in_default.ensures.end in
    let end = at_end _ _ _ _ _ _ w stop in
    let P : List ExtHeader → Type 0 = λ d. g.V.HeaderVisitor.visited c.args.visitor.now c.args.offset d c.headers.visitor in
    record {
      passed = record { number = end.number; rest = end.rest; found = end.said; error = error_there _ _ _ _ _ _ w stop _ c.is_extension.ensures };
      visited = subst P (chain_at_end _ _ _ _ _ _ w stop) c.headers.invariant.2;
    }
