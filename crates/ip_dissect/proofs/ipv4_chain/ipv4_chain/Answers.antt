use Rattle.ip_spec.proofs.Common.{rules, ◌≡◌, ◌∙◌, ap, refl, List, ℕ, [], ◌∷◌, subst, length, ExtHeader, arith, Some}
use Rattle.ip_base.specs.Ipv4HeaderSlice.{bytes}
use Rattle.ip_ext_slices.specs.Ipv4Longest.{authentication_chain}
use Rattle.ip_dissect.specs.Extent.{ipv4_chain_in}
use Rattle.ip_dissect.proofs.ipv4_chain.ipv4_chain.Goals as goal

pub returns-in-Ok-Some-clause-visited : goal.returns-in-Ok-Some-clause-visited
returns-in-Ok-Some-clause-visited g c =
    let k = length (bytes c.args.base) in
    let chain : authentication_chain (Some c.in-Ok-Some.header) ≡ ipv4_chain_in (bytes c.args.base) c.args.after_base.now = search rules in
    let P : List ExtHeader → Type 0 = λ d. g.V.HeaderVisitor.visited c.args.visitor.now k d c.visit.new.self in
    let Q : List ℕ → Type 0 = λ b. P (record { number = 51; bytes = b } ∷ []) in
    subst P chain (subst Q c.slice-slice.ensures.bytes (c.visit.ensures _ k [] (g.met.V.HeaderVisitor.none _ _) refl (ap length c.slice.ensures.bytes ∙ omega arith)))
