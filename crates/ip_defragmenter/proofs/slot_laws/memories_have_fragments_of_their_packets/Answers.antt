use Rattle.std.specs.Prelude.{is_some}
use Rattle.ip_defragmenter.specs.Memory.{own_refusal}
use Rattle.ip_defragmenter.proofs.SoundLemmas.{sound_begun, sound_added, sound_given_up}
use Rattle.ip_defragmenter.proofs.slot_laws.memories_have_fragments_of_their_packets.Goals as goal

pub returns : goal.returns
returns c = record {
  begun = sound_begun;
  added = λ t u memories others settings context time f a arrived. sound_added (own_refusal f) t u memories others settings context time f a arrived;
  given_up = λ t u memories i lost arrived. sound_given_up (is_some lost) t u memories i arrived;
}
