use Rattle.ip_spec.proofs.Common.{◌≡◌, ◌+◌, ℕ, [], length, subst, arith, List, ExtHeader, bytes_of}
use Rattle.ip_dissect.specs.Dissection.{dissected}
use Rattle.ip_rewrite.specs.Request.{cleared_if}
use Rattle.ip_rewrite.specs.Selection.{kept}
use Rattle.ip_rewrite.specs.Writing.{AreWritten}
use Rattle.ip_rewrite.proofs.RequestLemmas.{cleared_if_len}
use Rattle.ip_rewrite.proofs.writer.write_as_before.Goals as goal

pub returns : goal.returns
returns c =
    let b : List ℕ = (dissected c.args.packet.now.bytes.now).base in
    let d : List ExtHeader = kept c.args.request.without (dissected c.args.packet.now.bytes.now).headers in
    let x : List ExtHeader = cleared_if c.args.request.clears d in
    let size : length (bytes_of x) ≡ length (bytes_of d) = cleared_if_len c.args.request.clears d in
    let w : AreWritten c.args.offset b c.args.out.now x c.write_chosen-written.new.out c.write_chosen-written.result.len c.write_chosen-written.result.link =
    c.write_chosen-written.ensures c.args.offset b c.args.out.now [] c.write_base-base.ensures (omega (arith, size, c.requires.fits)) c.requires.small in
    let len : c.write_chosen-written.result.len ≡ length b + length (bytes_of d) = omega (arith, w.len, size) in
    subst (λ (n : ℕ). AreWritten c.args.offset b c.args.out.now x c.write_chosen-written.new.out n c.write_chosen-written.result.link) len w
