use Rattle.ip_spec.proofs.Common.{suc, ◌≡◌, ◌+◌, ◌≤◌, ℕ, List, ◌++◌, length, subst, sym, ◌∙◌, ap, arith, ExtHeader, bytes_of}
use Rattle.ip_dissect.specs.Dissection.{dissected}
use Rattle.ip_rewrite.specs.Order.{in_order}
use Rattle.ip_rewrite.specs.Request.{cleared_if}
use Rattle.ip_rewrite.specs.Selection.{kept}
use Rattle.ip_rewrite.specs.Writing.{AreWritten, routing_index, below_rank, of_rank_from}
use Rattle.ip_rewrite.proofs.OrderLemmas.{ordered_len, below_is, next_fits}
use Rattle.ip_rewrite.proofs.RequestLemmas.{cleared_if_len, index_cleared}
use Rattle.ip_rewrite.proofs.writer.write_in_order.Goals as goal

pub loop-rank-preserved : goal.loop-rank-preserved
loop-rank-preserved c =
    let b : List ℕ = (dissected c.args.packet.now.bytes.now).base in
    let old : List ExtHeader = kept c.args.request.without (dissected c.args.packet.now.bytes.now).headers in
    let d : List ExtHeader = cleared_if c.args.request.clears old in
    let k : ℕ = c.loop-rank.rank in
    let e : ℕ = c.args.last_routing in
    let routing : e ≡ routing_index d = c.requires.routing ∙ sym (index_cleared c.args.request.clears old) in
    let size : length (bytes_of (below_rank k e d ++ of_rank_from k e 0 d)) ≤ length (bytes_of d) =
    subst (λ (n : ℕ). length (bytes_of (below_rank k n d ++ of_rank_from k n 0 d)) ≤ length (bytes_of d)) (sym routing) (next_fits k d c.loop-rank-test.true) in
    let more = c.write_chosen-written.ensures c.args.offset b c.args.out.now (below_rank k e d) c.loop-rank.invariant (omega (arith, size, cleared_if_len c.args.request.clears old, c.requires.fits)) c.requires.small in
    let next : suc k ≡ k + 1 = omega arith in
    subst (λ (n : ℕ). AreWritten c.args.offset b c.args.out.now (below_rank n e d) c.write_chosen-written.new.out c.write_chosen-written.result.len c.write_chosen-written.result.link) next more

pub returns : goal.returns
returns c =
    let b : List ℕ = (dissected c.args.packet.now.bytes.now).base in
    let old : List ExtHeader = kept c.args.request.without (dissected c.args.packet.now.bytes.now).headers in
    let d : List ExtHeader = cleared_if c.args.request.clears old in
    let routing : c.args.last_routing ≡ routing_index d = c.requires.routing ∙ sym (index_cleared c.args.request.clears old) in
    let all : c.loop-rank.rank ≡ 5 = omega (arith, c.loop-rank-test.false, c.loop-rank.auto) in
    let same : below_rank c.loop-rank.rank c.args.last_routing d ≡ in_order d =
    ap (λ (n : ℕ). below_rank n c.args.last_routing d) all ∙ (ap (λ (e : ℕ). below_rank 5 e d) routing ∙ below_is d) in
    let w : AreWritten c.args.offset b c.args.out.now (in_order d) c.loop-rank.out c.loop-rank.written.len c.loop-rank.written.link =
    subst (λ (x : List ExtHeader). AreWritten c.args.offset b c.args.out.now x c.loop-rank.out c.loop-rank.written.len c.loop-rank.written.link) same c.loop-rank.invariant in
    let size : c.loop-rank.written.len ≡ length b + length (bytes_of old) = omega (arith, w.len, ordered_len d, cleared_if_len c.args.request.clears old) in
    subst (λ (n : ℕ). AreWritten c.args.offset b c.args.out.now (in_order d) c.loop-rank.out n c.loop-rank.written.link) size w
