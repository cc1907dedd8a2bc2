use Rattle.ip_spec.proofs.Common.{count_from_yields_List}
use Rattle.ip_ext_slices.proofs.ParseLemmas.{cursor_yields}
use Rattle.check_uses.proofs.chains.count_in_one_pass.Goals as goal

pub returns : goal.returns
returns c = count_from_yields_List _ _ c.count.ensures.ran (cursor_yields _ _ c.new.ensures.headers)
