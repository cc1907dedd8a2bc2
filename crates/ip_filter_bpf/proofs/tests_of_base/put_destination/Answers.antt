use Rattle.std.proofs.Common.{◌≡◌, ◌+◌, ◌≤◌, Bool, cond, length, subst, ap, ◌∙◌, arith}
use Rattle.ip_dissect.specs.Dissection.{dissected}
use Rattle.ip_filter.specs.Network.{ipv4_lies_in, ipv6_lies_in}
use Rattle.ip_filter.specs.Tests.{network_in}
use Rattle.ip_filter.specs.Truth.{has_destination}
use Rattle.ip_filter_bpf.specs.Blocks.{Returns, word_at, address_at}
use Rattle.ip_filter_bpf.specs.Compiled.{number_of}
use Rattle.ip_filter_bpf.proofs.PacketLemmas.{long4, long6, destination4, destination6}
use Rattle.ip_filter_bpf.proofs.TestLemmas.{same_of_network}
use Rattle.ip_filter_bpf.proofs.tests_of_base.put_destination.Goals as goal

pub returns-in-Ipv4-clause-leads : goal.returns-in-Ipv4-clause-leads
returns-in-Ipv4-clause-leads c = λ packet r of_version bytes h.
    let four : (dissected packet).version ≡ 4 = of_version ∙ ap number_of c.in-Ipv4.is in
    let long = long4 packet four in
    let there : 16 + 4 ≤ length packet = omega (arith, long) in
    c.put_ipv4_network.ensures.leads packet r there bytes
    (subst (λ (t : Bool). Returns c.args.code.now (cond t c.args.if_met c.args.if_not) packet r)
    (same_of_network (network_in c.args.test.now) (λ n. has_destination n (dissected packet)) (λ n. ipv4_lies_in n (word_at packet 16)) (λ n. destination4 packet n four)) h)

pub returns-in-Ipv6-clause-leads : goal.returns-in-Ipv6-clause-leads
returns-in-Ipv6-clause-leads c = λ packet r of_version bytes h.
    let six : (dissected packet).version ≡ 6 = of_version ∙ ap number_of c.in-Ipv6.is in
    let long = long6 packet six in
    let there : 24 + 16 ≤ length packet = omega (arith, long) in
    c.put_ipv6_network.ensures.leads packet r there bytes
    (subst (λ (t : Bool). Returns c.args.code.now (cond t c.args.if_met c.args.if_not) packet r)
    (same_of_network (network_in c.args.test.now) (λ n. has_destination n (dissected packet)) (λ n. ipv6_lies_in n (address_at packet 24)) (λ n. destination6 packet n six)) h)
