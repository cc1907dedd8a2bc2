use Rattle.ip_spec.proofs.Common.{◌≡◌, ◌+◌, ℕ, length, refl, sym, ◌∙◌, ap, arith, Bool, true, false, nat_lt, Option, Some, None, option_or, if◌then◌else◌, ExtHeader}
use Rattle.std.specs.Bool.{then_some}
use Rattle.ip_rewrite.specs.Writing.{rank_at, first_above}
use Rattle.ip_rewrite.proofs.OrderLemmas.{above_more, or_more}
use Rattle.ip_rewrite.proofs.place.PlaceHeaderVisitor.visit.Goals as goal

some_if : (b : Bool) (x : ℕ) → then_some b x ≡ (if b then Some x else None)
some_if true x = refl
some_if false x = refl

pub returns : goal.returns
returns c = λ old k d visited index at.
    let h : ExtHeader = record { number = c.args.number.0; bytes = c.args._header.now } in
    let j : ℕ = c.args.index in
    let place : j ≡ 0 + length d = omega (arith, index) in
    let before : Option ℕ = first_above old.rank old.last_routing 0 d in
    let rank : c.rank.result ≡ rank_at old.last_routing j h = c.rank.ensures h refl ∙ ap (λ e. rank_at e j h) visited.1 in
    let new : c.then_some.result ≡ (if nat_lt old.rank (rank_at old.last_routing j h) then Some j else None) =
    c.then_some.ensures ∙ (some_if (nat_lt c.args.self.now.rank c.rank.result) j ∙ (ap (λ (n : ℕ). if nat_lt n c.rank.result then Some j else None) visited.0 ∙ ap (λ (n : ℕ). if nat_lt old.rank n then Some j else None) rank)) in (
      visited.0,
      visited.1,
      c.or-self.ensures ∙ (ap (λ (o : Option ℕ). option_or o c.then_some.result) visited.2 ∙ (ap (option_or (option_or old.index before)) new
          ∙ (or_more old.index before (if nat_lt old.rank (rank_at old.last_routing j h) then Some j else None) ∙ ap (option_or old.index) (sym (above_more old.rank old.last_routing 0 j d h place))))),
    )
