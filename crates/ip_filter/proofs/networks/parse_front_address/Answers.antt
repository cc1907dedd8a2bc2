use Rattle.ip_spec.proofs.Common.{arith, common_steps, nat_tests}
use Rattle.ip_filter.proofs.NetworkTextLemmas.{no_ipv4, ipv4_front_text, no_front}
use Rattle.ip_filter.proofs.networks.parse_front_address.Goals as goal

pub returns-in-Some-ipv4_address-clause-some : goal.returns-in-Some-ipv4_address-clause-some
returns-in-Some-ipv4_address-clause-some c =
    let a = c.in-Some-ipv4_address.ensures.some in
    ipv4_front_text c.args.text.now c.in-Some.network _ a.0 c.in-Some.ensures.some a.1 (grind (arith, common_steps, nat_tests, c.if-index_of-text.false, c.index_of.ensures.index))

pub returns-in-None-ipv4_address-clause-none : goal.returns-in-None-ipv4_address-clause-none
returns-in-None-ipv4_address-clause-none c = no_ipv4 c.args.text.now c.in-Some.network c.in-Some.ensures.some c.in-None-ipv4_address.ensures.none

pub returns-in-None-clause-none : goal.returns-in-None-clause-none
returns-in-None-clause-none c = no_front c.args.text.now c.in-None.ensures.none
