use Rattle.ip_spec.proofs.Common.{◌≡◌, ◌+◌, ◌≤◌, ℕ, List, true, false, [], ◌∷◌, ◌++◌, length, subst, sym, ◌∙◌, ap, arith, append_assoc, IsHeader, ExtHeader, bytes_of}
use Rattle.ip_rewrite.specs.Planning.{is_chosen, chosen}
use Rattle.ip_rewrite.specs.Request.{cleared_if}
use Rattle.ip_rewrite.specs.Writing.{AreWritten}
use Rattle.ip_rewrite.specs.declared.writer.Choice.{Choice}
use Rattle.ip_rewrite.proofs.FrontLemmas.{more_len}
use Rattle.ip_rewrite.proofs.RequestLemmas.{chosen_yes, chosen_no, one_len}
use Rattle.ip_rewrite.proofs.writer.Writer.push.Goals as goal

pub returns-then-has-clause-written : goal.returns-then-has-clause-written
returns-then-has-clause-written c = λ l b buffer e d h at index w fits small.
    let v : Choice = c.args.self.now.choice in
    let number : h.number ≡ c.args.number.0 = ap (λ (g : ExtHeader). g.number) at in
    let header : IsHeader h.number h.bytes = subst (λ (g : ExtHeader). IsHeader g.number g.bytes) (sym at) c.requires in
    let size : length h.bytes ≡ length c.args.header.now = ap (λ (g : ExtHeader). length g.bytes) at in
    let is : is_chosen v c.args.index h ≡ true = sym (c.has.ensures h number) ∙ c.if-has.true in
    let more : chosen v (d ++ h ∷ []) ≡ chosen v d ++ cleared_if v.clears (h ∷ []) = chosen_yes v c.args.index d h index is in
    let x : List ExtHeader = e ++ chosen v d in
    let one : List ExtHeader = cleared_if v.clears (h ∷ []) in
    let same : e ++ chosen v (d ++ h ∷ []) ≡ x ++ one = ap (λ y. e ++ y) more ∙ sym (append_assoc e (chosen v d) one) in
    let long : length (bytes_of (x ++ one)) ≡ length (bytes_of (x ++ h ∷ [])) = one_len v.clears x h header in
    let all : length b + length (bytes_of (x ++ one)) ≤ length buffer = subst (λ (y : List ExtHeader). length b + length (bytes_of y) ≤ length buffer) same fits in
    let room : length b + length (bytes_of (x ++ h ∷ [])) ≤ length buffer = omega (arith, all, long) in
    let sum : c.args.self.now.len + length c.args.header.now ≡ c.saturating_add-self.result = omega (arith, c.saturating_add-self.ensures, w.len, more_len x h, size, room, small) in
    subst (λ (y : List ExtHeader). AreWritten l b buffer y c.append_as.new.out c.saturating_add-self.result c.args.self.now.len) (sym same)
    (subst (λ (n : ℕ). AreWritten l b buffer (x ++ one) c.append_as.new.out n c.args.self.now.len) sum (c.append_as.ensures l b buffer x h at w room small))

pub returns-else-has-clause-written : goal.returns-else-has-clause-written
returns-else-has-clause-written c = λ l b buffer e d h at index w fits small.
    let v : Choice = c.args.self.now.choice in
    let isnt : is_chosen v c.args.index h ≡ false = sym (c.has.ensures h (ap (λ (g : ExtHeader). g.number) at)) ∙ c.if-has.false in
    subst (λ (y : List ExtHeader). AreWritten l b buffer (e ++ y) c.args.self.now.out.now c.args.self.now.len c.args.self.now.link) (sym (chosen_no v c.args.index d h index isnt)) w
