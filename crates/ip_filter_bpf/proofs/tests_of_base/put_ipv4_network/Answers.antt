use Rattle.std.proofs.Common.{◌≡◌, ◌-◌, ◌^◌, ◌<◌, Bool, cond, subst, arith}
use Rattle.ip_filter_bpf.specs.Blocks.{Returns, word_at}
use Rattle.ip_filter_bpf.proofs.BlockLemmas.{word_small}
use Rattle.ip_filter_bpf.proofs.TestLemmas.{tells4}
use Rattle.ip_filter_bpf.proofs.tests_of_base.put_ipv4_network.Goals as goal

pub returns-clause-leads : goal.returns-clause-leads
returns-clause-leads c = λ packet r there bytes h.
    let x = c.args.test.now in
    let w = word_at packet c.args.offset in
    let ignored : c.saturating_sub-ignored.result ≡ 32 - x.prefix_len = omega arith in
    let small : x.address_low < 2 ^ 32 = omega arith in
    c.put_word.ensures.leads packet r there (word_small packet c.args.offset bytes)
    (subst (λ (t : Bool). Returns c.args.code.now (cond t c.args.if_met c.args.if_not) packet r) (tells4 x w c.saturating_sub-ignored.result c.if-test-ne4.false small ignored) h)
