use Rattle.std.proofs.Common.{refl}
use Rattle.ip_reassembly.proofs.ReceivedLemmas.{zeros_are}
use Rattle.ip_defragmenter.proofs.memory.PacketMemory.new.Goals as goal

pub returns-clause-zero : goal.returns-clause-zero
returns-clause-zero c = record {
  state = c.new.ensures.zero refl;
  head_len = refl;
  link = refl;
  first_here = refl;
  next_header = refl;
  points = c.no_points.ensures.zero;
  short_head = zeros_are 64;
  payload = zeros_are 65536;
  head = zeros_are 4096;
  unused = zeros_are 912;
}
