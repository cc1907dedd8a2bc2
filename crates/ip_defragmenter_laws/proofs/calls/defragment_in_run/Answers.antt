use Rattle.std.proofs.Common.{ℕ, ◌<◌, arith, sym, ◌∙◌, None}
use Rattle.std.proofs.lemmas.List.Elements.{All-from_get_or}
use Rattle.ip_defragmenter_laws.specs.Run.{Call, IsCall, TableState}
use Rattle.ip_defragmenter_laws.proofs.CallLemmas.{same_number}
use Rattle.ip_defragmenter_laws.proofs.calls.defragment_in_run.Goals as goal

pub returns-clause-as_many : goal.returns-clause-as_many
returns-clause-as_many c =
    let s : TableState = record { slots = c.args.slots.now; memories = c.args.memories.now } in
    let t : TableState = record { slots = c.defragment.new.slots; memories = c.defragment.new.memories } in
    let x : Call = record { context = c.args.context; time = c.args.time; bytes = c.args.bytes.now; piece = None; added = c.defragment.result } in
    let call : IsCall c.args.settings.now s t x = record {
      bytes = All-from_get_or (λ (n : ℕ). n < 256) c.args.bytes.now 0 (λ i less. let f = c.type_inv.bytes i in omega arith);
      as_many = c.requires;
      not_fragment = c.defragment.ensures.not_fragment;
      unusable = c.defragment.ensures.unusable;
      added = c.defragment.ensures.added;
    } in
    same_number c.args.settings.now s t x call ∙ (c.requires ∙ sym c.defragment.auto.memories)
