use Rattle.std.proofs.Common.{◌≡◌, ◌<◌, length, sym, ◌∙◌, subst, arith}
use Rattle.std.proofs.lemmas.Option.{slice_get_within, get_or_from_slice_get}
use Rattle.ip_defragmenter.specs.Memory.{HoldsStored}
use Rattle.ip_defragmenter.specs.declared.memory.PacketMemory.{PacketMemory}
use Rattle.ipexts_c.proofs.defragmenter.wolfaren_defragmenter_packet.Goals as goal

pub returns-in-Some-clause-written : goal.returns-in-Some-clause-written
returns-in-Some-clause-written c = λ m s f payload there h whole first is.
    let memories = c.args.defragmenter.now.memories.now in
    let same : c.in-Some.memory.now ≡ m = c.in-Some.ensures.lookup.1 ∙ get_or_from_slice_get memories c.args.slot m c.in-Some.memory.now there in
    c.write_packet.ensures.written s f payload (subst (λ (x : PacketMemory). HoldsStored x s) (sym same) h) whole first is

pub returns-in-None-clause-refused : goal.returns-in-None-clause-refused
returns-in-None-clause-refused c = λ m s f payload there h whole first is none.
    let within : c.args.slot < length c.args.defragmenter.now.memories.now = slice_get_within c.args.defragmenter.now.memories.now c.args.slot m there in
    let beyond = c.in-None.ensures.lookup.3 in
    absurd (omega (arith, beyond))
