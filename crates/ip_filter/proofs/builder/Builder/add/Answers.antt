use Rattle.ip_filter.proofs.MoveLemmas.{primitive_added}
use Rattle.ip_filter.proofs.builder.Builder.add.Goals as goal

pub returns : goal.returns
returns c =
    primitive_added c.args.self.now c.args.primitive c.add_primitive.new.compiler c.saturating_add-self.result c.terms.result c.add_primitive.ensures c.saturating_add-self.ensures c.terms.ensures.count
