use Rattle.ip_filter.proofs.QualifierLemmas.{no_network_named}
use Rattle.ip_filter.proofs.qualifiers.Kind.named.Goals as goal

pub returns-in-None-parse_network_or_front-clause-none : goal.returns-in-None-parse_network_or_front-clause-none
returns-in-None-parse_network_or_front-clause-none c =
    no_network_named c.args.self c.args.direction c.args.word.now c.in-Network.is c.in-None-parse_network_or_front.ensures.none
