use Rattle.std.proofs.Common.{◌≡◌, ◌-◌, Bool, cond, subst, arith}
use Rattle.ip_filter_bpf.specs.Blocks.{Returns, address_at}
use Rattle.ip_filter_bpf.proofs.TestLemmas.{tells6}
use Rattle.ip_filter_bpf.proofs.tests_of_base.put_ipv6_network.Goals as goal

pub returns-clause-leads : goal.returns-clause-leads
returns-clause-leads c = λ packet r there bytes h.
    let x = c.args.test.now in
    let w = address_at packet c.args.offset in
    let ignored : c.saturating_sub-ignored.result ≡ 128 - x.prefix_len = omega arith in
    c.put_address.ensures.leads packet r there bytes
    (subst (λ (t : Bool). Returns c.args.code.now (cond t c.args.if_met c.args.if_not) packet r) (tells6 x w c.saturating_sub-ignored.result c.if-test-ne6.false ignored) h)
