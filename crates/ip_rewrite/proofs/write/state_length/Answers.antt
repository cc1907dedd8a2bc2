use Rattle.ip_spec.proofs.Common.{◌≡◌, ℕ, take, drop, length, ◌∙◌, ap, List}
use Rattle.ip_dissect.specs.declared.summary.Summary.{Summary}
use Rattle.ip_rewrite.specs.Base.{number_offset, base_stating}
use Rattle.ip_rewrite.specs.Rewritten.{rewritten_field}
use Rattle.ip_rewrite.proofs.FrontLemmas.{whole_written}
use Rattle.ip_rewrite.proofs.write.state_length.Goals as goal

pub returns : goal.returns
returns c = λ p d m q buffer is field begins.
    let o : Summary = c.args.summary.now in
    let b : List ℕ = p.base in
    let y : List ℕ = c.args.out.now in
    let version : o.version ≡ p.version = ap (λ (x : Summary). x.version) is in
    let size : o.base_len ≡ length b = ap (λ (x : Summary). x.base_len) is in
    let front : c.split_at_mut-base.result.0.now ≡ take (length b) y = c.split_at_mut-base.ensures.front ∙ ap (λ (k : ℕ). take k y) size in
    let back : c.split_at_mut-base.result.1.now ≡ drop (length b) y = c.split_at_mut-base.ensures.back ∙ ap (λ (k : ℕ). drop k y) size in
    let base : c.state.new.base ≡ base_stating p.version (take (length b) y) (rewritten_field p d q) =
    c.state.ensures ∙ (ap (λ (v : ℕ). base_stating v c.split_at_mut-base.result.0.now c.args.field) version ∙ (ap (λ (s : List ℕ). base_stating p.version s c.args.field) front ∙ ap (base_stating p.version (take (length b) y)) field)) in
    whole_written (number_offset p.version) b buffer d m q y begins p.version (rewritten_field p d q) c.state.new.base c.split_at_mut-base.result.1.now base back
