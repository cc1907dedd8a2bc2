use Rattle.ip_spec.proofs.Common.{◌≡◌, ℕ, arith, rules, Place, PlacedFields, IsWalkAnswer, hop_by_hop}
use Rattle.ip_spec.proofs.LinkLemmas.{linked_leads}
use Rattle.ip_spec.proofs.WalkLemmas.{WalkAnswer}
use Rattle.ip_ext_chains.specs.Ipv6Extensions.{placed_fields}
use Rattle.ip_ext_chains.proofs.ipv6_exts.Ipv6Extensions.set_next_headers.Goals as goal

pub returns-clause-links : goal.returns-clause-links
returns-clause-links c hop_by_hop = search rules
returns-clause-links c p = search rules

answer_same : (v w : PlacedFields) (f g : ℕ) (a : WalkAnswer) → ((p : Place) → v p ≡ w p) → f ≡ g → IsWalkAnswer w g a → IsWalkAnswer v f a
answer_same v w f g a e k x = search rules

pub returns-clause-leads : goal.returns-clause-leads
returns-clause-leads c =
    answer_same _ _ _ _ _ (returns-clause-links c) (search rules) (linked_leads (placed_fields c.args.self.now) c.args.last.0 (omega arith) c.header_len.ensures.encodable)
