use Rattle.ip_spec.proofs.Common.{subst, sym}
use Rattle.ip_filter.specs.Formula.{single}
use Rattle.ip_filter.specs.Qualifiers.{says_named}
use Rattle.ip_filter.proofs.OperandLemmas.{Adds, both_added, either_added}
use Rattle.ip_filter.proofs.builder.add_named.Goals as goal

pub returns-in-Term : goal.returns-in-Term
returns-in-Term c = subst (λ n. Adds (says_named n) c.args.compiler.now c.add.new.self) (sym c.in-Term.is) c.add.ensures

pub returns-in-Both : goal.returns-in-Both
returns-in-Both c =
    subst (λ n. Adds (says_named n) c.args.compiler.now c.join.new.self) (sym c.in-Both.is)
    (both_added (single c.in-Both.first) (single c.in-Both.second) c.args.compiler.now c.add-in-Both.new.self c.add-in-Both-2.new.self c.join.new.self
    c.add-in-Both.ensures c.add-in-Both-2.ensures c.join.ensures)

pub returns-in-Either : goal.returns-in-Either
returns-in-Either c =
    subst (λ n. Adds (says_named n) c.args.compiler.now c.join-in-Either.new.self) (sym c.in-Either.is)
    (either_added (single c.in-Either.first) (single c.in-Either.second) c.args.compiler.now c.add-in-Either.new.self c.add-in-Either-2.new.self c.join-in-Either.new.self
    c.add-in-Either.ensures c.add-in-Either-2.ensures c.join-in-Either.ensures)
