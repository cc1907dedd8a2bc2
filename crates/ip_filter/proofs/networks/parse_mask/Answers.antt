use Rattle.ip_filter.proofs.NetworkTextLemmas.{no_length, no_mask}
use Rattle.ip_filter.proofs.networks.parse_mask.Goals as goal

pub returns-in-None-mask_len-clause-none : goal.returns-in-None-mask_len-clause-none
returns-in-None-mask_len-clause-none c = no_length c.args.word.now c.in-Some.mask c.in-Some.ensures.some c.in-None-mask_len.ensures.none

pub returns-in-None-clause-none : goal.returns-in-None-clause-none
returns-in-None-clause-none c = no_mask c.args.word.now c.in-None.ensures.none
