use Rattle.ip_spec.proofs.Common.{subst, sym}
use Rattle.ip_filter.specs.Formula.{single}
use Rattle.ip_filter.specs.Qualifiers.{protocol_term, of_protocol, says_named}
use Rattle.ip_filter.proofs.OperandLemmas.{Adds, both_added}
use Rattle.ip_filter.proofs.builder.add_primitive.Goals as goal

pub returns-in-Some : goal.returns-in-Some
returns-in-Some c =
    let first = subst (λ t. Adds (single t) c.args.compiler.now c.add.new.self) c.term.ensures c.add.ensures in
    subst (λ o. Adds (of_protocol o (says_named c.args.primitive.named)) c.args.compiler.now c.join.new.self) (sym c.in-Some.is)
    (both_added (single (protocol_term c.in-Some.protocol)) (says_named c.args.primitive.named) c.args.compiler.now c.add.new.self c.add_named.new.compiler c.join.new.self first c.add_named.ensures c.join.ensures)

pub returns-in-None : goal.returns-in-None
returns-in-None c =
    subst (λ o. Adds (of_protocol o (says_named c.args.primitive.named)) c.args.compiler.now c.add_named-in-None.new.compiler) (sym c.in-None.is) c.add_named-in-None.ensures
