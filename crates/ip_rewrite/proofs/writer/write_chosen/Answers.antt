use Rattle.ip_spec.proofs.Common.{◌++◌, List, rules, refl, ExtHeader}
use Rattle.ip_dissect.specs.Dissection.{dissected}
use Rattle.ip_rewrite.specs.Planning.{chosen}
use Rattle.ip_rewrite.specs.Selection.{kept}
use Rattle.ip_rewrite.specs.declared.writer.Writer.{Writer}
use Rattle.ip_rewrite.proofs.FrontLemmas.{written_as}
use Rattle.ip_rewrite.proofs.writer.write_chosen.Goals as goal

pub returns : goal.returns
returns c = λ l b buffer d w fits small.
    let all : List ExtHeader = (dissected c.args.packet.now.bytes.now).headers in
    let n : Writer = c.walk.new.visitor in
    written_as l b buffer (d ++ chosen c.args.choice (kept c.args.which all)) n.out.now _ n.len n.len n.link (search rules) refl (c.walk.ensures.visited.4 l b buffer d refl w fits small)
