use Rattle.std.proofs.Common.{◌≡◌, ℕ, bit_and, length, sym, ap, ◌∙◌, arith}
use Rattle.std.proofs.lemmas.Nat.{and_mask}
use Rattle.ip_bpf.proofs.AssemblyLemmas.{extends-put}
use Rattle.ip_bpf.specs.Assembly.{result_at}
use Rattle.ip_filter_bpf.proofs.compared.put_mask.Goals as goal

pub returns-then-mask-lt4294967295-clause-front : goal.returns-then-mask-lt4294967295-clause-front
returns-then-mask-lt4294967295-clause-front c = extends-put _ _ _ c.put.ensures

pub returns-else-mask-lt4294967295-clause-leads : goal.returns-else-mask-lt4294967295-clause-leads
returns-else-mask-lt4294967295-clause-leads c = λ packet m small.
    let full : c.args.mask ≡ 4294967295 = omega (arith, c.ranges.mask.fits) in
    let same : bit_and m.a c.args.mask ≡ m.a = ap (λ (n : ℕ). bit_and m.a n) full ∙ and_mask m.a 32 ∙ omega (arith, small) in
    ap (λ (n : ℕ). result_at c.args.code.now (length c.args.code.now) packet (record m { a = n })) (sym same)
