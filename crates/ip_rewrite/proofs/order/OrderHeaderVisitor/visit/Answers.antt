use Rattle.ip_spec.proofs.Common.{◌≡◌, ◌+◌, ℕ, [], ◌∷◌, ◌++◌, ◌&&◌, nat_le, length, refl, sym, ◌∙◌, ap, arith, Bool, true, false, ExtHeader}
use Rattle.ip_rewrite.specs.Writing.{rank_at, last_rank, rises_at}
use Rattle.ip_rewrite.proofs.OrderLemmas.{last_more, rises_more}
use Rattle.ip_rewrite.proofs.order.OrderHeaderVisitor.visit.Goals as goal

and_more : (old now step sofar new : Bool) → now ≡ (old && sofar) → new ≡ (sofar && step) → (now && step) ≡ (old && new)
and_more true now step sofar new is more = ap (λ b. b && step) is ∙ sym more
and_more false now step sofar new is more = ap (λ b. b && step) is

pub returns : goal.returns
returns c = λ old k d visited index at.
    let h : ExtHeader = record { number = c.args.number.0; bytes = c.args._header.now } in
    let j : ℕ = c.args.index in
    let place : j ≡ 0 + length d = omega (arith, index) in
    let rank : c.rank-rank.result ≡ rank_at old.last_routing j h = c.rank-rank.ensures h refl ∙ ap (λ e. rank_at e j h) visited.0 in
    let step : nat_le c.args.self.now.last c.rank-rank.result ≡ nat_le (last_rank old.last old.last_routing 0 d) (rank_at old.last_routing j h) =
    ap (λ n. nat_le n c.rank-rank.result) visited.1 ∙ ap (nat_le (last_rank old.last old.last_routing 0 d)) rank in (
      visited.0,
      rank ∙ sym (last_more old.last old.last_routing 0 j d h place),
      and_more old.rises c.args.self.now.rises (nat_le c.args.self.now.last c.rank-rank.result) (rises_at old.last old.last_routing 0 d) (rises_at old.last old.last_routing 0 (d ++ h ∷ [])) visited.2
          (rises_more old.last old.last_routing 0 j d h place ∙ ap (λ b. rises_at old.last old.last_routing 0 d && b) (sym step)),
    )
