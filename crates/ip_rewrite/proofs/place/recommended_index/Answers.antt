use Rattle.ip_spec.proofs.Common.{◌≡◌, ℕ, rules, List, [], length, refl, sym, ◌∙◌, ap, false, Option, ExtHeader}
use Rattle.std.specs.Prelude.{unwrap_or}
use Rattle.ip_dissect.specs.Dissection.{dissected}
use Rattle.ip_dissect.specs.declared.summary.Summary.{Summary}
use Rattle.ip_rewrite.specs.Order.{rank_of, recommended_index}
use Rattle.ip_rewrite.specs.Writing.{routing_index, first_above}
use Rattle.ip_rewrite.proofs.OrderLemmas.{index_is}
use Rattle.ip_rewrite.proofs.place.recommended_index.Goals as goal

pub returns : goal.returns
returns c =
    let packet = c.walk-packet.result in
    let n : ℕ = c.args.number.0 in
    let s : List ℕ = packet.bytes.now in
    let d : List ExtHeader = (dissected s).headers in
    let same : s ≡ c.args.packet.now = c.walk-packet.ensures.bytes in
    let there : d ≡ (dissected c.args.packet.now).headers = ap (λ (x : List ℕ). (dissected x).headers) same in
    let none : c.default-contents.result.last_routing ≡ 0 = search rules in
    let routing : c.walk-packet.new.visitor.last_routing ≡ routing_index d = c.walk-packet.ensures.visited.2 none ∙ ap routing_index (sym there) in
    let rank : c.rank.result ≡ rank_of n false = c.rank.ensures (record { number = n; bytes = [] }) refl in
    let index : c.walk.new.visitor.index ≡ first_above (rank_of n false) (routing_index d) 0 d =
    c.walk.ensures.visited.2 ∙ (ap (λ (k : ℕ). first_above k c.walk-packet.new.visitor.last_routing 0 d) rank ∙ ap (λ (e : ℕ). first_above (rank_of n false) e 0 d) routing) in
    let count : packet.summary.header_count ≡ length d = ap (λ (o : Summary). o.header_count) packet.summary_is in
    c.unwrap_or.ensures ∙ (ap (λ (o : Option ℕ). unwrap_or o packet.summary.header_count) index ∙ (ap (unwrap_or (first_above (rank_of n false) (routing_index d) 0 d)) count
    ∙ (index_is n d ∙ ap (recommended_index n) there)))
