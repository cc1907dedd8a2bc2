use Rattle.ip_spec.proofs.Common.{◌≡◌, ◌+◌, ◌≤◌, List, [], ◌∷◌, ◌++◌, length, refl, subst, sym, ◌∙◌, ap, arith, ExtHeader, bytes_of}
use Rattle.ip_rewrite.specs.Writing.{AreWritten, inserted_so_far}
use Rattle.ip_rewrite.proofs.FrontLemmas.{more_len}
use Rattle.ip_rewrite.proofs.InsertionLemmas.{header_is, so_far_at, so_far_else, same_header}
use Rattle.ip_rewrite.proofs.insertion.InserterHeaderVisitor.visit.Goals as goal

pub push-requires : goal.push-requires
push-requires c = header_is c.args.self.now.number.0 c.args.self.now.header.now c.args.self.now.header_is

pub returns-then-index-self : goal.returns-then-index-self
returns-then-index-self c = λ old k d visited index at. (
  c.push-then-index-self.ensures.same ∙ (c.push.ensures.same ∙ visited.0),
  c.push-then-index-self.ensures.index ∙ (c.push.ensures.index ∙ visited.1),
  c.push-then-index-self.ensures.number ∙ (c.push.ensures.number ∙ visited.2),
  c.push-then-index-self.ensures.header ∙ (c.push.ensures.header ∙ visited.3),
  λ l b buffer h is w fits small.
      let g : ExtHeader = record { number = c.args.number.0; bytes = c.args.header.now } in
      let e : List ExtHeader = inserted_so_far old.index h d in
      let place : old.index ≡ length d = sym visited.1 ∙ (sym c.if-index-self.true ∙ index) in
      let so = so_far_at old.index d h g place in
      let room : length b + length (bytes_of ((e ++ h ∷ []) ++ g ∷ [])) ≤ length buffer = subst (λ (x : List ExtHeader). length b + length (bytes_of x) ≤ length buffer) so fits in
      let first : length b + length (bytes_of (e ++ h ∷ [])) ≤ length buffer = omega (arith, room, more_len (e ++ h ∷ []) g) in
      let before : AreWritten l b buffer e c.args.self.now.out.now c.args.self.now.len c.args.self.now.link = visited.4 l b buffer h is w (omega (arith, first, more_len e h)) small in
      let new = c.push.ensures.written l b buffer e h (is ∙ same_header old.number.0 c.args.self.now.number.0 old.header.now c.args.self.now.header.now (ap (λ n. n.0) (sym visited.2)) (sym visited.3)) before first small in
      subst (λ (x : List ExtHeader). AreWritten l b buffer x c.push-then-index-self.new.self.out.now c.push-then-index-self.new.self.len c.push-then-index-self.new.self.link) (sym so)
      (c.push-then-index-self.ensures.written l b buffer (e ++ h ∷ []) g refl new room small),
)

pub returns-else-index-self : goal.returns-else-index-self
returns-else-index-self c = λ old k d visited index at. (
  c.push-else-index-self.ensures.same ∙ visited.0,
  c.push-else-index-self.ensures.index ∙ visited.1,
  c.push-else-index-self.ensures.number ∙ visited.2,
  c.push-else-index-self.ensures.header ∙ visited.3,
  λ l b buffer h is w fits small.
      let g : ExtHeader = record { number = c.args.number.0; bytes = c.args.header.now } in
      let e : List ExtHeader = inserted_so_far old.index h d in
      let so = so_far_else old.index d h g (λ place. c.if-index-self.false (index ∙ (sym place ∙ sym visited.1))) in
      let room : length b + length (bytes_of (e ++ g ∷ [])) ≤ length buffer = subst (λ (x : List ExtHeader). length b + length (bytes_of x) ≤ length buffer) so fits in
      let before : AreWritten l b buffer e c.args.self.now.out.now c.args.self.now.len c.args.self.now.link = visited.4 l b buffer h is w (omega (arith, room, more_len e g)) small in
      subst (λ (x : List ExtHeader). AreWritten l b buffer x c.push-else-index-self.new.self.out.now c.push-else-index-self.new.self.len c.push-else-index-self.new.self.link) (sym so)
      (c.push-else-index-self.ensures.written l b buffer e g refl before room small),
)
