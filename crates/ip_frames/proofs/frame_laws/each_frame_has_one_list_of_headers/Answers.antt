use Rattle.ip_frames.proofs.HeadersLemmas.{some_headers, one_list}
use Rattle.ip_frames.proofs.frame_laws.each_frame_has_one_list_of_headers.Goals as goal

pub returns-clause-some : goal.returns-clause-some
returns-clause-some c = some_headers

pub returns-clause-only : goal.returns-clause-only
returns-clause-only c = one_list
