use Rattle.std.proofs.Common.{◌≡◌, ℕ, ◌+◌, ◌<◌, ◌≤◌, [], length, refl, sym, subst, arith}
use Rattle.ip_lists.specs.Members.{members_after}
use Rattle.ip_lists.specs.Table.{in_bucket}
use Rattle.ip_lists.proofs.Walks.{along, few_after, within_after}
use Rattle.ip_lists.proofs.Tables.{from_table, chain_fits, no_bucket}
use Rattle.ip_lists.proofs.table.Table.chain.Goals as goal
use Rattle.ip_lists.proofs.table.Table.chain.Goals.{in-Some, in-None}

pub returns-clause-chain : goal.returns-clause-chain
returns-clause-chain c = λ free used bucket_of table.
    let old = c.args.self.now in
    let next = old.chains.next.now in
    let b = c.args.bucket in
    let P : ℕ × ℕ → Type 0 = λ t. members_after next t.0 t.0 t.1 ≡ in_bucket bucket_of b used in
    elim c.match-chain_head.branch [
      | in-Some w ↦
          let head : w.in-Some.head ≡ old.places + b = w.in-Some.ensures.found.0 in
          let within : w.in-Some.head < length next = w.in-Some.ensures.found.1 in
          let exists : old.places + b < length next = omega arith in
          let Q : ℕ → Type 0 = λ h. members_after next h h old.places ≡ in_bucket bucket_of b used in
          let fits : length (in_bucket bucket_of b used) ≤ old.places = chain_fits _ _ _ _ _ _ _ (from_table old free used bucket_of table) exists in
          subst P (sym w.head-is) (subst Q (sym head) (along next (old.places + b) (old.places + b) old.places (in_bucket bucket_of b used) fits (table.chain b exists)))
      | in-None w ↦
          let none : (p : ℕ) → old.places + b < length next → ⊥ = λ _ less. w.in-None.ensures.none refl _ table.chains_linked less in
          let empty : in_bucket bucket_of b used ≡ [] = no_bucket bucket_of b used (λ p there same. none p (let P : ℕ → Type 0 = λ x. old.places + x < length next in subst P same (table.bucket p there))) in
          subst P (sym w.head-is) (sym empty)
    ]

pub returns-clause-few : goal.returns-clause-few
returns-clause-few c =
    let old = c.args.self.now in
    let next = old.chains.next.now in
    let P : ℕ × ℕ → Type 0 = λ t. length (members_after next t.0 t.0 t.1) ≤ old.places in
    elim c.match-chain_head.branch [
      | in-Some w ↦ subst P (sym w.head-is) (few_after next w.in-Some.head w.in-Some.head old.places)
      | in-None w ↦ subst P (sym w.head-is) (omega arith)
    ]

pub returns-clause-within : goal.returns-clause-within
returns-clause-within c = within_after c.args.self.now.chains.next.now c.match-chain_head.head.0 c.match-chain_head.head.0 c.match-chain_head.head.1
