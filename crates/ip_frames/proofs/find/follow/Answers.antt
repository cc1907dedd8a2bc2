use Rattle.std.proofs.Common.{◌≡◌, length, drop, arith, rules}
use Rattle.std.proofs.lemmas.Slice.{between_to_end}
use Rattle.ip_frames.specs.Headers.{reading}
use Rattle.ip_frames.specs.declared.header.HeaderReading.TheVariants.{Whole, End}
use Rattle.ip_frames.proofs.HeadersLemmas.{reached_more, reached_all, next_len}
use Rattle.ip_frames.proofs.find.follow.Goals as goal

pub overflow_add-offset : goal.overflow_add-offset
overflow_add-offset c =
    let bytes = c.args.bytes.now in
    let rest = between_to_end bytes c.headers.offset (length bytes) (omega arith) in
    let is : reading c.headers.announced (drop c.headers.offset bytes) ≡ Whole c.in-Whole.header = cc in
    let bounds = next_len bytes c.headers.announced c.headers.offset c.in-Whole.header is c.headers.invariant.within in
    search (rules, bounds.1)

pub headers-smaller : goal.headers-smaller
headers-smaller c =
    let bytes = c.args.bytes.now in
    let rest = between_to_end bytes c.headers.offset (length bytes) (omega arith) in
    let is : reading c.headers.announced (drop c.headers.offset bytes) ≡ Whole c.in-Whole.header = cc in
    let bounds = next_len bytes c.headers.announced c.headers.offset c.in-Whole.header is c.headers.invariant.within in
    omega (arith, bounds.0, bounds.1)

pub headers-preserved : goal.headers-preserved
headers-preserved c =
    let bytes = c.args.bytes.now in
    let rest = between_to_end bytes c.headers.offset (length bytes) (omega arith) in
    let is : reading c.headers.announced (drop c.headers.offset bytes) ≡ Whole c.in-Whole.header = cc in
    rw c.or-number.ensures (reached_more _ _ bytes _ _ _ c.headers.vlans _ c.in-Whole.header c.headers.invariant is c.with-vlans.ensures)

pub returns-in-End-clause-found : goal.returns-in-End-clause-found
returns-in-End-clause-found c =
    let bytes = c.args.bytes.now in
    let rest = between_to_end bytes c.headers.offset (length bytes) (omega arith) in
    let is : reading c.headers.announced (drop c.headers.offset bytes) ≡ End c.in-End.end c.in-End.found = cc in
    rw c.or.ensures (reached_all _ _ bytes _ _ _ _ c.in-End.end c.in-End.found c.headers.invariant is)
