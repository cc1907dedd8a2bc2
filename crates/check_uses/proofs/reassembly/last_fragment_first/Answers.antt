use Rattle.std.proofs.Common.{◌≡◌, ◌++◌, false, [], ◌∷◌, length, min, None, Some, sym, ap, ◌∙◌, arith}
use Rattle.std.proofs.lemmas.List.{length-append}
use Rattle.std.proofs.lemmas.Option.{same_Some, none-some}
use Rattle.ip_reassembly.specs.Fragment.{fragment_at}
use Rattle.check_uses.proofs.ReassemblyLemmas.{two_fragments, made_offset, whole_from_both}
use Rattle.check_uses.proofs.reassembly.last_fragment_first.Goals as goal

pub copy_from_slice-requires : goal.copy_from_slice-requires
copy_from_slice-requires c =
    let bytes : c.in-Some.bytes.now ≡ c.args.first.now ++ c.args.last.now = same_Some c.in-Some.bytes.now (c.args.first.now ++ c.args.last.now) (whole_from_both c.unwrap-start.result c.args.offset (min (length c.args.buffer.now) 65535) c.args.first.now c.args.last.now (Some c.in-Some.bytes.now)
    (made_offset c.try_new.result c.unwrap-start.result 0 c.unwrap-start.ensures c.try_new.ensures.value) c.requires.some c.requires.units (omega (arith, c.requires.room, c.requires.short))
    (c.in-Some.ensures.pieces (c.args.first.now ++ c.args.last.now) (two_fragments c.unwrap-start.result c.args.offset c.args.first.now c.args.last.now) (two_fragments c.unwrap-start.result c.args.offset c.args.first.now c.args.last.now) (min (length c.args.buffer.now) 65535) false
    (c.add-2.ensures.given (min (length c.args.buffer.now) 65535) false (fragment_at c.args.offset false c.args.last.now ∷ []) (c.add.ensures.given (min (length c.args.buffer.now) 65535) false [] c.new-reassembly.ensures.given)))) in
    c.requires.size ∙ (sym (length-append c.args.first.now c.args.last.now) ∙ sym (ap length bytes))

pub unreachable-requires : goal.unreachable-requires
unreachable-requires c = none-some (c.args.first.now ++ c.args.last.now) (whole_from_both c.unwrap-start.result c.args.offset (min (length c.args.buffer.now) 65535) c.args.first.now c.args.last.now None
    (made_offset c.try_new.result c.unwrap-start.result 0 c.unwrap-start.ensures c.try_new.ensures.value) c.requires.some c.requires.units (omega (arith, c.requires.room, c.requires.short))
    (c.in-None.ensures.pieces (c.args.first.now ++ c.args.last.now) (two_fragments c.unwrap-start.result c.args.offset c.args.first.now c.args.last.now) (two_fragments c.unwrap-start.result c.args.offset c.args.first.now c.args.last.now) (min (length c.args.buffer.now) 65535) false
    (c.add-2.ensures.given (min (length c.args.buffer.now) 65535) false (fragment_at c.args.offset false c.args.last.now ∷ []) (c.add.ensures.given (min (length c.args.buffer.now) 65535) false [] c.new-reassembly.ensures.given))))

pub returns : goal.returns
returns c = c.copy_from_slice.ensures.after ∙ same_Some c.in-Some.bytes.now (c.args.first.now ++ c.args.last.now) (whole_from_both c.unwrap-start.result c.args.offset (min (length c.args.buffer.now) 65535) c.args.first.now c.args.last.now (Some c.in-Some.bytes.now)
    (made_offset c.try_new.result c.unwrap-start.result 0 c.unwrap-start.ensures c.try_new.ensures.value) c.requires.some c.requires.units (omega (arith, c.requires.room, c.requires.short))
    (c.in-Some.ensures.pieces (c.args.first.now ++ c.args.last.now) (two_fragments c.unwrap-start.result c.args.offset c.args.first.now c.args.last.now) (two_fragments c.unwrap-start.result c.args.offset c.args.first.now c.args.last.now) (min (length c.args.buffer.now) 65535) false
    (c.add-2.ensures.given (min (length c.args.buffer.now) 65535) false (fragment_at c.args.offset false c.args.last.now ∷ []) (c.add.ensures.given (min (length c.args.buffer.now) 65535) false [] c.new-reassembly.ensures.given))))
