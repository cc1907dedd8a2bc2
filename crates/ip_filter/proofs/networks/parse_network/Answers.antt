use Rattle.ip_filter.proofs.NetworkTextLemmas.{no_address, no_ipv4_len, no_ipv6_len}
use Rattle.ip_filter.proofs.networks.parse_network.Goals as goal

pub returns-in-None-clause-none : goal.returns-in-None-clause-none
returns-in-None-clause-none c = λ n is. no_ipv4_len c.args.word.now _ c.index_of-slash.ensures.index n c.in-Ok.address is c.in-Ok.ensures c.in-None.ensures

pub returns-in_default-parse_ascii-clause-none : goal.returns-in_default-parse_ascii-clause-none
returns-in_default-parse_ascii-clause-none c = λ n is. no_address c.args.word.now _ c.index_of-slash.ensures.index n is c.in_default.ensures c.in_default-parse_ascii.ensures

pub returns-in-None-parse_prefix_len-clause-none : goal.returns-in-None-parse_prefix_len-clause-none
returns-in-None-parse_prefix_len-clause-none c = λ n is. no_ipv6_len c.args.word.now _ c.index_of-slash.ensures.index n is c.in_default.ensures c.in-None-parse_prefix_len.ensures
