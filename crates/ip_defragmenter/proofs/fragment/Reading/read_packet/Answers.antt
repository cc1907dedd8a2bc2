use Rattle.ip_dissect.specs.Dissection.{dissected}
use Rattle.ip_defragmenter.proofs.ReadLemmas.{of_none, is_no_fragment}
use Rattle.ip_defragmenter.proofs.fragment.Reading.read_packet.Goals as goal

pub returns-in-None : goal.returns-in-None
returns-in-None c = is_no_fragment (dissected c.args.packet.now.bytes.now) (of_none c.args.packet.now.bytes.now c.args.packet.now.base c.args.packet.now.base_is c.in-None.is)
