use Rattle.ip_rewrite_laws.proofs.CommutingLemmas.{cleared_alike, cleared_sent, inserted_alike, inserted_sent, without_alike, without_sent}
use Rattle.ip_rewrite_laws.proofs.fragment_laws.fragments_are_rewritten_as_their_packet.Goals as goal

pub returns : goal.returns
returns c = record {
  bytes = λ s n link id start end d w a room sent part which accepted. without_alike s n link id start end d w a room sent part which accepted;
  inserted = λ s n link id start end d i h a room sent part accepted. inserted_alike s n link id start end d i h a room sent part accepted;
  cleared = λ s n link id start end d a room sent part which accepted. cleared_alike s n link id start end d a room sent part which accepted;
  sent = λ s n link id start end d w a room sent part which accepted. let it = without_sent s n link id start end d w a room sent part which accepted in (it.sent, it.payload);
  fragment = λ s n link id start end d w a room sent part which accepted. (without_sent s n link id start end d w a room sent part which accepted).fragment;
  inserted_sent = λ s n link id start end d i h a room sent part bytes other fits accepted.
      let it = inserted_sent s n link id start end d i h a room sent part bytes other fits accepted in (it.sent, it.payload);
  inserted_fragment = λ s n link id start end d i h a room sent part bytes other fits accepted. (inserted_sent s n link id start end d i h a room sent part bytes other fits accepted).fragment;
  cleared_sent = λ s n link id start end d a room sent part which accepted. let it = cleared_sent s n link id start end d a room sent part which accepted in (it.sent, it.payload);
  cleared_fragment = λ s n link id start end d a room sent part which accepted. (cleared_sent s n link id start end d a room sent part which accepted).fragment;
}
