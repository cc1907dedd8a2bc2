use Rattle.ip_spec.proofs.Common.{ℕ, List, PlacedFields, IsEncodable}
use Rattle.ip_ext_chains.specs.ExtsWalk.{HasWritten}
use Rattle.ip_ext_chains.proofs.ipv6_exts_write.append_in_order.Goals as goal
use Rattle.ip_ext_chains.proofs.ipv6_exts_write.append_in_order.Goals.{then-append_next, else-append_next, then-append_next-2, else-append_next-2, then-append_next-3, else-append_next-3, then-append_next-4, else-append_next-4, Joined-append_next-4}

-- the headers in the first five places
five : (g : _) (c : Joined-append_next-4 g) (v : PlacedFields) (f : ℕ) (before : List ℕ) → IsEncodable v → HasWritten v f c.args.walk.now before c.args.out.now.items → HasWritten v f c.if-append_next-4.walk before c.if-append_next-4.out.items
five g c v f before e k =
    let w1 = c.append_next.ensures.written v f before e k in
    let w2 : HasWritten v f c.if-append_next.walk before c.if-append_next.out.items =
    elim c.if-append_next.branch [
      | then-append_next w ↦ rw (w.walk-is, w.out-is) (w.append_next-then-append_next.ensures.written v f before e w1)
      | else-append_next w ↦ rw (w.walk-is, w.out-is) w1
    ] in
    let w3 : HasWritten v f c.if-append_next-2.walk before c.if-append_next-2.out.items =
    elim c.if-append_next-2.branch [
      | then-append_next-2 w ↦ rw (w.walk-is, w.out-is) (w.append_next-then-append_next-2.ensures.written v f before e w2)
      | else-append_next-2 w ↦ rw (w.walk-is, w.out-is) w2
    ] in
    let w4 : HasWritten v f c.if-append_next-3.walk before c.if-append_next-3.out.items =
    elim c.if-append_next-3.branch [
      | then-append_next-3 w ↦ rw (w.walk-is, w.out-is) (w.append_next-then-append_next-3.ensures.written v f before e w3)
      | else-append_next-3 w ↦ rw (w.walk-is, w.out-is) w3
    ] in
    elim c.if-append_next-4.branch [
      | then-append_next-4 w ↦ rw (w.walk-is, w.out-is) (w.append_next-then-append_next-4.ensures.written v f before e w4)
      | else-append_next-4 w ↦ rw (w.walk-is, w.out-is) w4
    ]

pub returns-then-append_next-5-clause-written : goal.returns-then-append_next-5-clause-written
returns-then-append_next-5-clause-written g c v f before e k = c.append_next-then-append_next-5.ensures.written v f before e (five g (goal.at.returns-then-append_next-5-clause-written g c).Joined-append_next-4 v f before e k)

pub returns-else-append_next-5-clause-written : goal.returns-else-append_next-5-clause-written
returns-else-append_next-5-clause-written g c = five g (goal.at.returns-else-append_next-5-clause-written g c).Joined-append_next-4
