use Rattle.std.proofs.Common.{ap, refl, subst, ◌∙◌}
use Rattle.ip_captures.specs.ClassicRecord.{header_len}
use Rattle.ip_captures.specs.ClassicNext.{IsNext}
use Rattle.ip_captures.specs.RecordFields.{record_fields}
use Rattle.ip_captures.specs.CaptureFields.{classic_in}
use Rattle.ip_captures.specs.declared.byte_order.ByteOrder.{ByteOrder}
use Rattle.ip_captures.specs.declared.classic_capture.ClassicCapture.{ClassicCapture}
use Rattle.ip_captures.proofs.CaptureLemmas.{captured_in_record, moved}
use Rattle.ip_captures.proofs.capture_fields.CaptureFields.next_record.Goals as goal

pub returns-clause-next : goal.returns-clause-next
returns-clause-next c =
    let f = c.args.self.now in
    let s = c.args.bytes.now in
    let x = c.next-next.result in
    let reader : ByteOrder → ClassicCapture = λ o. record { header = record { byte_order = o; variant = c.args.variant; snap_len = f.snap_len; link_type = f.link_type }; limit = f.limit; offset = f.offset } in
    let is : IsNext (classic_in c.args.variant f) s x = subst (λ (o : ByteOrder). IsNext (reader o) s x) c.with_code.ensures c.next-next.ensures.next in (
      x,
      is,
      record {
        offset = header_len c.args.variant;
        fields = c.of.ensures ∙ ap (λ n. record_fields n x) c.record_header_len.ensures;
        captured = captured_in_record (classic_in c.args.variant f) s x is;
      },
      refl,
      ap (λ (r : ClassicCapture). r.offset) c.next-next.ensures.after ∙ moved _ s x c.next-next.ensures.next,
    )
