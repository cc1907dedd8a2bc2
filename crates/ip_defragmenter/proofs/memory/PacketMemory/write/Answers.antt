use Rattle.std.proofs.Common.{List, ℕ, length, drop, ◌+◌, ◌++◌, ◌≡◌, subst}
use Rattle.std.specs.Prelude.{Some, Ok, OnOk}
use Rattle.ip_defragmenter.specs.Ecn.{is_congested, marked}
use Rattle.ip_defragmenter.specs.Memory.{stored_none, stored_all}
use Rattle.ip_defragmenter.specs.Whole.{whole_packet}
use Rattle.ip_defragmenter.proofs.PiecesLemmas.{joined_payload, joined_points}
use Rattle.ip_defragmenter.proofs.memory.PacketMemory.write.Goals as goal

pub returns-clause-pieces : goal.returns-clause-pieces
returns-clause-pieces c = λ payload pieces limit given f h split fits all joinable every first.
    subst (λ (points : List ℕ). OnOk c.write_stored.result ((c.write_stored.result ≡ Ok (Some (length f.headers + length payload))) × (c.write_stored.new.out ≡ whole_packet (marked (is_congested points) f.headers) f.link f.number payload ++ drop (length f.headers + length payload) c.args.out.now)))
    (joined_points payload pieces limit given split fits all joinable)
    (c.write_stored.ensures.written (stored_all (stored_none limit) given) f payload h (joined_payload payload pieces limit given split fits all joinable every) first)
