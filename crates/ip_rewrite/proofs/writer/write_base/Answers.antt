use Rattle.ip_spec.proofs.Common.{◌≡◌, ◌+◌, ℕ, ◌++◌, drop, length, subst, ap, arith, List}
use Rattle.ip_dissect.specs.Dissection.{dissected}
use Rattle.ip_rewrite.proofs.FrontLemmas.{written_none}
use Rattle.ip_rewrite.proofs.writer.write_base.Goals as goal

pub returns : goal.returns
returns c =
    let b : List ℕ = (dissected c.args.packet.now.bytes.now).base in
    let base : c.base_of-base.result.now ≡ b = c.base_of-base.ensures in
    let size : length c.base_of-base.result.now ≡ length b = ap length base in
    let put : c.put_at.new.out ≡ b ++ drop (0 + length b) c.args.out.now = subst (λ (x : List ℕ). c.put_at.new.out ≡ x ++ drop (0 + length x) c.args.out.now) base (c.put_at.ensures (omega (arith, size, c.requires.fits))) in
    written_none c.args.offset b c.args.out.now c.put_at.new.out (length c.base_of-base.result.now) c.requires.link put size
