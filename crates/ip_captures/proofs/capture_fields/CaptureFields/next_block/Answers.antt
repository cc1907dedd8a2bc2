use Rattle.std.proofs.Common.{ap, length, take, subst, ◌∙◌, ◌≡◌, List}
use Rattle.std.proofs.lemmas.List.{take_min}
use Rattle.ip_captures.specs.Block.{Section}
use Rattle.ip_captures.specs.PcapngNext.{IsNextBlock, section_next}
use Rattle.ip_captures.specs.CaptureFields.{section_in, captured_at, order_in}
use Rattle.ip_captures.specs.declared.byte_order.ByteOrder.{ByteOrder}
use Rattle.ip_captures.specs.declared.interface.Interface.{Interface}
use Rattle.ip_captures.proofs.CaptureLemmas.{captured_by}
use Rattle.ip_captures.proofs.capture_fields.CaptureFields.next_block.Goals as goal

pub returns-clause-next : goal.returns-clause-next
returns-clause-next c =
    let f = c.args.self.now in
    let s = c.args.bytes.now in
    let x = c.next-next.result in
    let room = length f.interfaces.now in
    let section : ByteOrder → List Interface → Section = λ o is. record { order = o; interfaces = is } in
    let described = ap (λ n. take n f.interfaces.now) c.min.ensures ∙ take_min f.interface_count f.interfaces.now in
    let old : section c.with_code-byte_order.result (take c.min.result f.interfaces.now) ≡ section_in f =
    ap (λ o. section o (take c.min.result f.interfaces.now)) c.with_code-byte_order.ensures ∙ ap (section (order_in f.byte_order)) described in
    let is : IsNextBlock f.limit room (section_in f) f.offset s x = subst (λ (t : Section). IsNextBlock f.limit room t f.offset s x) old c.next-next.ensures.next in (
      x,
      is,
      record {
        offset = c.captured_at-offset.result;
        fields = c.of.ensures;
        captured = captured_by f.limit room (section_in f) f.offset s x c.captured_at-offset.result
            (λ enough. c.captured_at-offset.ensures enough ∙ ap (λ o. captured_at o s) c.with_code-byte_order.ensures) is;
      },
      ap (λ o. section o (take c.next-next.new.self.count c.next-next.new.interfaces)) c.code-self.ensures.again ∙ c.next-next.ensures.section
          ∙ ap (λ t. section_next t s x) old,
      c.next-next.ensures.offset,
    )
