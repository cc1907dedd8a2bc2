use Rattle.check_uses.proofs.FrameLemmas.{ipv4_at_14}
use Rattle.check_uses.proofs.frames.ipv4_in_ethernet.Goals as goal

pub returns : goal.returns
returns c =
    ipv4_at_14 c.each_frame_has_one_list_of_headers.ensures.only c.args.frame.now c.find_ip.result c.requires.long c.requires.ipv4 c.find_ip.ensures.found
