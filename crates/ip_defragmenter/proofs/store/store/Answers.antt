use Rattle.std.proofs.Common.{◌≡◌, length, sym, subst}
use Rattle.std.specs.Prelude.{slice_set}
use Rattle.std.proofs.lemmas.List.{get_or-set_same, length-set}
use Rattle.std.proofs.lemmas.Option.{get_or_from_slice_get, slice_get_read}
use Rattle.ip_defragmenter.specs.FragmentOf.{parts_of}
use Rattle.ip_defragmenter.specs.Memories.{IsStored}
use Rattle.ip_defragmenter.specs.declared.memory.PacketMemory.{PacketMemory}
use Rattle.ip_defragmenter.proofs.store.store.Goals as goal

pub returns-clause-own : goal.returns-clause-own
returns-clause-own c = λ m there.
    let xs = c.args.memories.now in
    let i = c.args.index in
    let n = c.store_one.new.memory in
    let size : length xs ≡ length (slice_set xs i n) = sym (length-set xs i n) in (
      n,
      (
        slice_get_read (slice_set xs i n) (length xs) i n size c.requires.within (sym (get_or-set_same xs i n n c.requires.within)),
        subst (λ (x : PacketMemory). IsStored x n c.args.is_known (parts_of c.args.fragment.now) c.store_one.result) (get_or_from_slice_get xs i m _ there) c.store_one.ensures,
      ),
    )
