use Rattle.ip_spec.proofs.Common.{◌≡◌, ◌+◌, ◌≤◌, ◌<◌, ℕ, [], ◌++◌, take, drop, length, slice_set, subst, sym, ap, ◌∙◌, not, true, arith, List, is_some, ExtHeader, bytes_of}
use Rattle.ip_dissect.specs.Dissection.{DissectedParts, dissected}
use Rattle.ip_dissect.specs.declared.summary.Summary.{Summary}
use Rattle.ip_rewrite.specs.Base.{number_offset}
use Rattle.ip_rewrite.specs.Jumbogram.{jumbo_offset, stating_at}
use Rattle.ip_rewrite.specs.Rewritten.{joined, rewritten_len}
use Rattle.ip_rewrite.specs.Writing.{AreWritten, front_with}
use Rattle.ip_rewrite.proofs.FrontLemmas.{after_headers, link_within}
use Rattle.ip_rewrite.proofs.JumbogramLemmas.{stated_no_jumbogram}
use Rattle.ip_rewrite.proofs.write.finish.Goals as goal

-- what follows the headers is written
begun : (p : DissectedParts) (d : List ExtHeader) (buffer out x y q : List ℕ) (base exts link m : ℕ) → base ≡ length p.base → exts ≡ length (bytes_of d)
    → AreWritten (number_offset p.version) p.base buffer d out (base + exts) link → length buffer ≡ length out → base + exts + length q ≤ length out
    → (link < length out → x ≡ slice_set out link m) → length x ≡ length out → (base + exts + length q ≤ length x → y ≡ take (base + exts) x ++ q ++ drop (base + exts + length q) x)
    → y ≡ front_with (number_offset p.version) p.base d m ++ q ++ drop (rewritten_len p d q) buffer
begun p d buffer out x y q base exts link m size all w same fits stored kept put =
    let l : ℕ = number_offset p.version in
    let b : List ℕ = p.base in
    let n : ℕ = length b + length (bytes_of d) in
    let at : base + exts ≡ n = omega (arith, size, all) in
    let here : AreWritten l b buffer d out n link = subst (λ (k : ℕ). AreWritten l b buffer d out k link) at w in
    let none : ExtHeader = record { number = 0; bytes = [] } in
    let less = link_within l b buffer d none out n link here (omega (arith, fits, at, same)) in
    let there : y ≡ take n x ++ q ++ drop (n + length q) x = subst (λ (k : ℕ). y ≡ take k x ++ q ++ drop (k + length q) x) at (put (omega (arith, fits, kept))) in
    after_headers l b buffer d out n link here m q x y (stored less) there

pub returns-then-is_none : goal.returns-then-is_none
returns-then-is_none c = λ d buffer has exts field w same.
    let o : Summary = c.args.packet.now.summary in
    let p : DissectedParts = dissected c.args.packet.now.bytes.now in
    let q : List ℕ = c.args.payload.now in
    let m : ℕ = c.args.number.0 in
    let size : o.base_len ≡ length p.base = ap (λ (x : Summary). x.base_len) c.args.packet.now.summary_is in
    let begins = begun p d buffer c.args.out.now c.set.new.out c.put_at.new.out q o.base_len c.args.exts_len c.args.link m size exts w same c.requires.fits c.set.ensures.stored c.set.ensures.len c.put_at.ensures in
    let stated : c.state_length.new.out ≡ joined p d m q ++ drop (rewritten_len p d q) buffer = c.state_length.ensures p d m q buffer c.args.packet.now.summary_is field begins in
    let len : c.args.exts_len + length q ≡ length (bytes_of d) + length q = omega (arith, exts) in
    c.state_jumbo.ensures d m q (drop (rewritten_len p d q) buffer) has len stated
    ∙ ap (λ (n : ℕ). joined p (stating_at (jumbo_offset p) n d) m q ++ drop (rewritten_len p d q) buffer) len

pub returns-else-is_none : goal.returns-else-is_none
returns-else-is_none c = λ d buffer has exts field w same.
    let o : Summary = c.args.packet.now.summary in
    let p : DissectedParts = dissected c.args.packet.now.bytes.now in
    let q : List ℕ = c.args.payload.now in
    let m : ℕ = c.args.number.0 in
    let size : o.base_len ≡ length p.base = ap (λ (x : Summary). x.base_len) c.args.packet.now.summary_is in
    let begins = begun p d buffer c.args.out.now c.set.new.out c.put_at.new.out q o.base_len c.args.exts_len c.args.link m size exts w same c.requires.fits c.set.ensures.stored c.set.ensures.len c.put_at.ensures in
    let has_length : is_some p.stated ≡ true = sym (ap (λ (x : Summary). is_some x.stated_len) c.args.packet.now.summary_is) ∙ (c.is_none.ensures ∙ ap not c.if-is_none.false) in
    let none = stated_no_jumbogram p has_length in
    c.state_length.ensures p d m q buffer c.args.packet.now.summary_is field begins
    ∙ ap (λ j. joined p (stating_at j (length (bytes_of d) + length q) d) m q ++ drop (rewritten_len p d q) buffer) (sym none)
