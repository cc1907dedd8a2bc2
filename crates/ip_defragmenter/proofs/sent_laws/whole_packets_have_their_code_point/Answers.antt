use Rattle.ip_defragmenter.proofs.PointLemmas.{point_is}
use Rattle.ip_defragmenter.proofs.sent_laws.whole_packets_have_their_code_point.Goals as goal

pub returns : goal.returns
returns c = λ headers payload points link number point. point_is headers payload points link number point
