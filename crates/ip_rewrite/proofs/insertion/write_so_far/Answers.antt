use Rattle.ip_spec.proofs.Common.{◌≡◌, ◌+◌, ◌≤◌, ℕ, [], ◌++◌, drop, length, refl, subst, ◌∙◌, ap, arith, List, rules, ExtHeader, bytes_of}
use Rattle.ip_dissect.specs.Dissection.{DissectedParts, dissected}
use Rattle.ip_rewrite.specs.Insertion.{inserted}
use Rattle.ip_rewrite.specs.Writing.{AreWritten, inserted_so_far}
use Rattle.ip_rewrite.proofs.FrontLemmas.{written_none, written_as}
use Rattle.ip_rewrite.proofs.InsertionLemmas.{inserted_len, so_far_less}
use Rattle.ip_rewrite.proofs.insertion.write_so_far.Goals as goal

pub returns : goal.returns
returns c = λ h is.
    let p : DissectedParts = dissected c.args.packet.now.bytes.now in
    let v = c.walk.ensures.visited in
    let n = c.walk.new.visitor in
    let b : List ℕ = p.base in
    let i : ℕ = c.args.index in
    let buffer : List ℕ = c.args.out.now in
    let d : List ExtHeader = inserted i h p.headers in
    let e : List ExtHeader = inserted_so_far i h p.headers in
    let base : c.base_of-base.result.now ≡ b = c.base_of-base.ensures in
    let size : length c.base_of-base.result.now ≡ length b = ap length base in
    let long : length (bytes_of d) ≡ length (bytes_of p.headers) + length c.args.header.now = inserted_len i p.headers h ∙ ap (λ (g : ExtHeader). length (bytes_of p.headers) + length g.bytes) is in
    let before : length b + length (bytes_of e) ≤ length buffer = omega (arith, c.requires.fits, long, so_far_less i p.headers h) in
    let put : c.put_at.new.out ≡ b ++ drop (0 + length b) buffer = subst (λ (x : List ℕ). c.put_at.new.out ≡ x ++ drop (0 + length x) buffer) base (c.put_at.ensures (omega (arith, size, c.requires.fits))) in
    let begun : AreWritten c.args.offset b buffer [] c.put_at.new.out (length c.base_of-base.result.now) c.args.offset = written_none c.args.offset b buffer c.put_at.new.out (length c.base_of-base.result.now) c.requires.link put size in
    let w : AreWritten c.args.offset b buffer e n.out.now n.len n.link = v.4 c.args.offset b buffer h is begun before c.requires.small in
    written_as c.args.offset b buffer e n.out.now _ n.len n.len n.link (search rules) refl w
