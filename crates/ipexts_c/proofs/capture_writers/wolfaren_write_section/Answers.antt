use Rattle.std.proofs.Common.{◌≡◌, ◌++◌, ◌∙◌, List, ℕ, ap, arith, length, take, drop, sym, subst}
use Rattle.std.proofs.lemmas.List.{length-take-le, take_at, drop_at}
use Rattle.ip_captures.specs.BlockWriter.{IsSectionHeader}
use Rattle.ip_captures.specs.CaptureFields.{order_in}
use Rattle.ip_captures.specs.declared.byte_order.ByteOrder.{ByteOrder}
use Rattle.ipexts_c.proofs.capture_writers.wolfaren_write_section.Goals as goal

pub copy_from_slice-requires : goal.copy_from_slice-requires
copy_from_slice-requires c =
    let size : length c.section_header-header.result ≡ 28 = omega arith in
    length-take-le 28 c.args.out.now c.if-out-lt28.false ∙ sym size

pub returns-clause-written : goal.returns-clause-written
returns-clause-written c = λ written.
    let header = c.section_header-header.result in
    let rest = drop 28 c.args.out.now in
    let copied : c.copy_from_slice.new.self ≡ header = c.copy_from_slice.ensures.after in
    let size : length c.copy_from_slice.new.self ≡ 28 = ap length copied ∙ omega arith in
    let front : take 28 (c.copy_from_slice.new.self ++ rest) ≡ header = take_at c.copy_from_slice.new.self rest 28 size ∙ copied in
    let is : IsSectionHeader (order_in c.args.byte_order) header = subst (λ (o : ByteOrder). IsSectionHeader o header) c.with_code.ensures c.section_header-header.ensures in
    (c.if-out-lt28.false, subst (λ (b : List ℕ). IsSectionHeader (order_in c.args.byte_order) b) (sym front) is, drop_at c.copy_from_slice.new.self rest 28 size)
