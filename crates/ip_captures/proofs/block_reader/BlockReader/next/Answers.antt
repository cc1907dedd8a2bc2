use Rattle.std.proofs.Common.{arith, length, take, sym, subst, ap, ◌∙◌, ◌≡◌}
use Rattle.std.proofs.lemmas.List.{length-take-le}
use Rattle.ip_captures.specs.PcapngCapture.{section_at}
use Rattle.ip_captures.specs.PcapngNext.{IsNextBlock}
use Rattle.ip_captures.specs.Block.{entered, kind_of, block_type}
use Rattle.ip_captures.specs.declared.next.Next.{Next}
use Rattle.ip_captures.proofs.BlockLemmas.{HasHead, says_head, room_left, read_of, wrong_of}
use Rattle.ip_captures.proofs.block_reader.BlockReader.next.Goals as goal

pub enter-requires-clause-room : goal.enter-requires-clause-room
enter-requires-clause-room c = λ i.
    let it = c.args.self.now in
    let said = c.in-Ok.ensures in
    let head : HasHead it.limit it.byte_order c.args.bytes.now c.in-Ok.head.order c.in-Ok.head.len =
    record { right = said.right; ordered = said.order; len = said.fields.1; fits = omega arith } in
    let says = says_head it.limit it.byte_order c.args.bytes.now c.in-Ok.head.order c.in-Ok.head.len head in
    let type : block_type c.in-Ok.head.order c.split_at.result.0.now ≡ c.in-Ok.head.block_type =
    ap (block_type c.in-Ok.head.order) c.split_at.ensures.front ∙ says.type ∙ sym said.fields.0 in
    let less = room_left (length c.args.interfaces.now) (take it.count c.args.interfaces.now) c.in-Ok.head.order c.split_at.result.0.now c.in-Ok-read.ensures.right (ap kind_of type ∙ i) in
    omega (arith, less, length-take-le it.count c.args.interfaces.now c.requires)

pub returns-in-Err-read-clause-next : goal.returns-in-Err-read-clause-next
returns-in-Err-read-clause-next c =
    let it = c.args.self.now in
    let said = c.in-Ok.ensures in
    let head : HasHead it.limit it.byte_order c.args.bytes.now c.in-Ok.head.order c.in-Ok.head.len =
    record { right = said.right; ordered = said.order; len = said.fields.1; fits = omega arith } in
    let wrong = wrong_of it.limit (length c.args.interfaces.now) (section_at it c.args.interfaces.now) it.offset c.args.bytes.now c.in-Ok.head.order c.in-Ok.head.len _ _ head c.split_at.ensures.front c.in-Err-read.ensures.error in
    subst (λ (x : Next). IsNextBlock it.limit (length c.args.interfaces.now) (section_at it c.args.interfaces.now) it.offset c.args.bytes.now x) (sym c.error-in-Err-read.ensures) wrong

pub returns-clause-next : goal.returns-clause-next
returns-clause-next c =
    let it = c.args.self.now in
    let said = c.in-Ok.ensures in
    let head : HasHead it.limit it.byte_order c.args.bytes.now c.in-Ok.head.order c.in-Ok.head.len =
    record { right = said.right; ordered = said.order; len = said.fields.1; fits = omega arith } in
    (read_of it.limit (length c.args.interfaces.now) (section_at it c.args.interfaces.now) it.offset c.args.bytes.now c.in-Ok.head.order c.in-Ok.head.len _ c.in-Ok-read.next head c.split_at.ensures.front c.in-Ok-read.ensures.right c.in-Ok-read.ensures.given).next

pub returns-clause-section : goal.returns-clause-section
returns-clause-section c =
    let it = c.args.self.now in
    let said = c.in-Ok.ensures in
    let head : HasHead it.limit it.byte_order c.args.bytes.now c.in-Ok.head.order c.in-Ok.head.len =
    record { right = said.right; ordered = said.order; len = said.fields.1; fits = omega arith } in
    let is_read = read_of it.limit (length c.args.interfaces.now) (section_at it c.args.interfaces.now) it.offset c.args.bytes.now c.in-Ok.head.order c.in-Ok.head.len _ c.in-Ok-read.next head c.split_at.ensures.front c.in-Ok-read.ensures.right c.in-Ok-read.ensures.given in
    c.enter.ensures.section ∙ ap (λ t. entered (section_at it c.args.interfaces.now) c.in-Ok.head.order (kind_of t) c.split_at.result.0.now) said.fields.0
    ∙ ap (λ b. entered (section_at it c.args.interfaces.now) c.in-Ok.head.order (kind_of (block_type c.in-Ok.head.order c.args.bytes.now)) b) c.split_at.ensures.front ∙ is_read.section

pub returns-clause-offset : goal.returns-clause-offset
returns-clause-offset c =
    let it = c.args.self.now in
    let said = c.in-Ok.ensures in
    let head : HasHead it.limit it.byte_order c.args.bytes.now c.in-Ok.head.order c.in-Ok.head.len =
    record { right = said.right; ordered = said.order; len = said.fields.1; fits = omega arith } in
    let is_read = read_of it.limit (length c.args.interfaces.now) (section_at it c.args.interfaces.now) it.offset c.args.bytes.now c.in-Ok.head.order c.in-Ok.head.len _ c.in-Ok-read.next head c.split_at.ensures.front c.in-Ok-read.ensures.right c.in-Ok-read.ensures.given in
    c.enter.ensures.offset ∙ is_read.moved
