use Rattle.std.proofs.Common.{ℕ, ◌≤◌, List, [], ◌∷◌, length, refl, arith, Some, None}
use Rattle.std.specs.Prelude.{drop}
use Rattle.ip_reassembly.specs.Fragment.{Fragment}
use Rattle.ip_defragmenter.specs.Slots.{HasRoomForSlots}
use Rattle.ip_defragmenter.specs.declared.key.FragmentKey.{FragmentKey}
use Rattle.ip_defragmenter_laws.specs.Ipv6.{ipv6_key}
use Rattle.ip_defragmenter_laws.specs.Room.{PacketName}
use Rattle.ip_defragmenter_laws.specs.Run.{Adds, Call, Clears, GiveUp, GivesUp, IsCallRun, Step, TableState}
use Rattle.check_uses.proofs.TwoFragmentLemmas.{one_missing, both_there, first_among, second_among, named, timely}
use Rattle.check_uses.proofs.fragments.two_fragments_after_others.Goals as goal

pub returns : goal.returns
returns c = λ s n link id p q fresh sent few split one two.
    let context : ℕ = c.args.context in
    let time : ℕ = c.args.time in
    let key : FragmentKey = ipv6_key s id in
    let pieces : List Fragment = p ∷ q ∷ [] in
    let names : List PacketName = record { context = context; key = key } ∷ [] in
    let start : TableState = record { slots = c.args.slots.now; memories = c.args.memories.now } in
    let used : TableState = record { slots = c.defragment_in_run.new.slots; memories = c.defragment_in_run.new.memories } in
    let empty : TableState = record { slots = c.clear_in_run.new.slots; memories = c.defragment_in_run.new.memories } in
    let begun : TableState = record { slots = c.defragment_in_run-2.new.slots; memories = c.defragment_in_run-2.new.memories } in
    let looked : TableState = record { slots = c.give_up_in_run.new.slots; memories = c.defragment_in_run-2.new.memories } in
    let end : TableState = record { slots = c.defragment_in_run-3.new.slots; memories = c.defragment_in_run-3.new.memories } in
    let other : Call = record { context = context; time = time; bytes = c.args.other.now; piece = None; added = c.defragment_in_run.result } in
    let first : Call = record { context = context; time = time; bytes = c.args.first.now; piece = Some p; added = c.defragment_in_run-2.result } in
    let look : GiveUp = record { index = c.args.index; timeout = c.args.settings.now.timeout; time = time; lost = c.give_up_in_run.result } in
    let last : Call = record { context = context; time = time; bytes = c.args.last.now; piece = Some q; added = c.defragment_in_run-3.result } in
    let before : List Step = Adds other ∷ [] in
    let calls : List Step = GivesUp look ∷ Adds first ∷ Clears ∷ before in
    let begins : IsCallRun c.args.settings.now start before used = (start, refl, c.defragment_in_run.ensures.call None) in
    let valid = (c.tables_stay_valid.ensures c.args.settings.now start used before fresh begins).2 in
    let room : HasRoomForSlots used.slots = record { as_many = valid.as_many; room = valid.room; has_bucket = valid.has_bucket } in
    let cleared = c.clear_in_run.ensures.call (c.clear_in_run.ensures.room.1 room) used.memories in
    let run : IsCallRun c.args.settings.now start (Adds last ∷ calls) end =
    (looked, (begun, (empty, (used, begins, cleared), c.defragment_in_run-2.ensures.call (Some p)), c.give_up_in_run.ensures.call begun.memories), c.defragment_in_run-3.ensures.call (Some q)) in
    let read_first = c.fragments_are_read.ensures.ipv6 s n link id pieces p c.args.first.now sent few split (first_among p q) one in
    let read_last = c.fragments_are_read.ensures.ipv6 s n link id pieces q c.args.last.now sent few split (second_among p q) two in
    let slots : length names ≤ length start.slots.slots.now = omega (arith, fresh.some) in
    let law = c.packets_are_kept_where_there_is_room.ensures in
    let young = timely c.args.settings.now.timeout first (Clears ∷ before) (λ t e. e) in
    let nothing = law.nothing names c.args.settings.now start end (Adds last ∷ calls) fresh slots run
    (λ f is. named context key c.args.last.now read_last.0 f read_last.1 read_last.2 is, (λ f is. named context key c.args.first.now read_first.0 f read_first.1 read_first.2 is, tt))
    (young, (young, ((λ since e. absurd e), tt))) in
    c.fragments_make_the_packet_that_was_sent.ensures.ipv6 s n link id pieces c.args.settings.now context start end last calls sent few split fresh run
    ((refl, second_among p q, two), ((refl, first_among p q, one), tt)) (law.kept context key (Adds last ∷ calls) nothing) (one_missing (drop n s) p q split) (both_there p q)
