use Rattle.std.proofs.lemmas.Result.{IfOk-weaker, IfErr-weaker}
use Rattle.ip_filter.specs.Parsing.{CountsFit, ReadsOn, RefusesFrom}
use Rattle.ip_filter.proofs.OperatorLemmas.{read_after_operand, read_before_operand}
use Rattle.ip_filter.proofs.builder.Builder.read.Goals as goal

pub returns-then-self-clause-ok : goal.returns-then-self-clause-ok
returns-then-self-clause-ok c =
    IfOk-weaker c.read_operator.result _ _
    (λ rest each text s is h. read_after_operand c.args.self.now (λ t. CountsFit t → ReadsOn t text rest.now c.read_operator.new.self) c.if-self.true (λ fs o d held. each text fs o d is held) s h)
    c.read_operator.ensures.ok

pub returns-then-self-clause-err : goal.returns-then-self-clause-err
returns-then-self-clause-err c =
    IfErr-weaker c.read_operator.result _ _
    (λ e each text s is h. read_after_operand c.args.self.now (λ t. RefusesFrom t text e.left e.expected) c.if-self.true (λ fs o d held. each text fs o d is held) s h)
    c.read_operator.ensures.err

pub returns-else-self-clause-ok : goal.returns-else-self-clause-ok
returns-else-self-clause-ok c =
    IfOk-weaker c.read_operand.result _ _
    (λ rest each text s is h. read_before_operand c.args.self.now (λ t. CountsFit t → ReadsOn t text rest.now c.read_operand.new.self) c.if-self.false (λ fs f held. each text fs f is held) s h)
    c.read_operand.ensures.ok

pub returns-else-self-clause-err : goal.returns-else-self-clause-err
returns-else-self-clause-err c =
    IfErr-weaker c.read_operand.result _ _
    (λ e each text s is h. read_before_operand c.args.self.now (λ t. RefusesFrom t text e.left e.expected) c.if-self.false (λ fs f held. each text fs f is held) s h)
    c.read_operand.ensures.err
