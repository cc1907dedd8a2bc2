use Rattle.ip_spec.proofs.Common.{rules, take, ap, ◌∙◌, lit≤, Appends-kept, Consumes-nil, Consumes-kept, take-take}
use Rattle.ipexts_tool.specs.OpenLine.{kept_len}
use Rattle.ipexts_tool.proofs.ProgressLemmas.{Advances-none, read_none}
use Rattle.ipexts_tool.proofs.advance.Goals as goal

pub returns-in-Ok-eq0-clause-ok : goal.returns-in-Ok-eq0-clause-ok
returns-in-Ok-eq0-clause-ok g c = Advances-none _ _ _ _ (search (rules, read_none))

pub returns-in-Err-clause-ok : goal.returns-in-Err-clause-ok
returns-in-Err-clause-ok g c = Advances-none _ _ _ _ (search (rules, Consumes-kept, Consumes-nil))

pub returns-clause-ok : goal.returns-clause-ok
returns-clause-ok g c =
    let kept = ap (take kept_len) c.in_ok-answered.ensures.kept ∙ take-take kept_len kept_len _ (lit≤ tt) in
    (take c.in-Ok.n c.read.new.buf, search rules, Appends-kept _ _ _ _ c.in_ok-answered.ensures.ok c.in_ok-flush.ensures.bytes, kept)
