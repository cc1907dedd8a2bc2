use Rattle.ip_spec.proofs.Common.{refl, arith, ap}
use Rattle.ip_spec.proofs.SpellingLemmas.{leads_where_none}
use Rattle.ip_ext_chains.specs.ExtsWalk.{left_in}
use Rattle.ip_ext_chains.specs.Ipv6Extensions.{placed_fields}
use Rattle.ip_ext_chains.proofs.PlacedFieldsLemmas.{exts_sum}
use Rattle.ip_ext_chains.proofs.WalkedLemmas.{left_len, written_none, written_walk, stop_where_none}
use Rattle.ip_ext_chains.proofs.ipv6_exts.Ipv6Extensions.append.Goals as goal

pub append_in_order-requires : goal.append_in_order-requires
append_in_order-requires g c =
    omega (arith, c.requires.room, exts_sum c.args.self.now, left_len (placed_fields c.args.self.now) c.new-walk.result (ap placed_fields c.new-walk.ensures.headers) c.new-walk.ensures.reached)

pub returns-then-append_in_order-clause-written : goal.returns-then-append_in_order-clause-written
returns-then-append_in_order-clause-written g c =
    let begun = c.new-walk.ensures in
    let w0 = written_none _ _ c.new-walk.result (ap placed_fields begun.headers) begun.number begun.first begun.reached _ _ refl in
    let w = c.append_in_order.new.walk in
    let none = c.if-append_in_order.ensures.whole refl in
    written_walk _ _ w w _ _ (c.append_in_order.ensures.written _ _ _ c.requires.encodable w0) (stop_where_none w none) _ (cc (leads_where_none w.number.0 (left_in w) none))

pub returns-clause-written : goal.returns-clause-written
returns-clause-written g c =
    let begun = c.new-walk.ensures in
    let w0 = written_none _ _ c.new-walk.result (ap placed_fields begun.headers) begun.number begun.first begun.reached _ _ refl in
    c.append_others.ensures.written c.append_in_order.new.walk (record { headers_are = refl; reached_are = refl; number_is = refl; first_is = refl }) _ _ _ c.requires.encodable (c.append_in_order.ensures.written _ _ _ c.requires.encodable w0)
