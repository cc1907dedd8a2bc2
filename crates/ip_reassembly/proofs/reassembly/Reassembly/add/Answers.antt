use Rattle.ip_reassembly.proofs.Common.{◌∙◌, fragment_at}
use Rattle.ip_reassembly.specs.Received.{received_none, received_all}
use Rattle.ip_reassembly.proofs.GivenLemmas.{outcome_of_piece}
use Rattle.ip_reassembly.proofs.reassembly.Reassembly.add.Goals as goal

pub returns-clause-pieces : goal.returns-clause-pieces
returns-clause-pieces c = λ payload pieces given limit abandons h split fits all.
    c.add.ensures.outcome (received_all (received_none limit abandons) given) h
    ∙ outcome_of_piece payload pieces limit abandons given (fragment_at c.args.offset c.args.more c.args.bytes.now) split fits all

pub returns-clause-given : goal.returns-clause-given
returns-clause-given c = λ limit abandons given h. c.add.ensures.received (received_all (received_none limit abandons) given) h
