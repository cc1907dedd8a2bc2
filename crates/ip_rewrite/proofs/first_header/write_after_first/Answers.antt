use Rattle.ip_spec.proofs.Common.{◌≡◌, ℕ, ◌+◌, ◌≤◌, ◌<◌, ◌++◌, ◌∷◌, List, length, take, drop, slice_set, slice_index, ap, sym, ◌∙◌, subst, arith, take-append_seam, length-append, drop-append_seam, next_header, ExtHeader, IsChain, AreLinked, bytes_of, leads_to}
use Rattle.ip_spec.proofs.HeaderLemmas.{header-least}
use Rattle.ip_dissect.specs.Dissection.{DissectedParts, dissected}
use Rattle.ip_dissect.specs.declared.summary.Summary.{Summary}
use Rattle.ip_rewrite.specs.Base.{number_offset}
use Rattle.ip_rewrite.specs.Jumbogram.{jumbo_offset}
use Rattle.ip_rewrite.specs.Rewritten.{joined, rewritten, rewritten_len, rewritten_field}
use Rattle.ip_rewrite.specs.Writing.{HasOption, front_with}
use Rattle.ip_rewrite.proofs.BaseLemmas.{offset_within}
use Rattle.ip_rewrite.proofs.DissectLemmas.{IsWholeChain, whole_chain}
use Rattle.ip_rewrite.proofs.JumbogramLemmas.{no_option}
use Rattle.ip_rewrite.proofs.FirstHeaderLemmas.{written_after}
use Rattle.ip_rewrite.proofs.first_header.write_after_first.Goals as goal

pub next_number-requires : goal.next_number-requires
next_number-requires c =
    let s : List ℕ = c.args.packet.now.bytes.now in
    let p : DissectedParts = dissected s in
    let f = c.requires.first in
    let chain : IsWholeChain p = whole_chain s c.args.packet.now.base c.args.packet.now.base_is c.requires.whole in
    let here : IsChain (slice_index p.base (number_offset p.version)) (f.first ∷ f.others) = subst (IsChain (slice_index p.base (number_offset p.version))) f.all chain.chain in
    let some : 8 ≤ length f.first.bytes = header-least f.first.number f.first.bytes here.headers.0 in
    omega (arith, some, f.size, c.split_at.ensures.front_len)

pub returns : goal.returns
returns c =
    let s : List ℕ = c.args.packet.now.bytes.now in
    let p : DissectedParts = dissected s in
    let o : Summary = c.args.packet.now.summary in
    let f = c.requires.first in
    let b : List ℕ = p.base in
    let q : List ℕ = p.payload in
    let d : List ExtHeader = f.others in
    let l : ℕ = number_offset p.version in
    let k : ℕ = next_header f.first.bytes in
    let buffer : List ℕ = c.args.out.now in
    let r : List ℕ = c.base_of-base.result.now in
    let g : List ℕ = c.split_at.result.0.now in
    let e : List ℕ = c.bytes_after.result.now in
    let chain : IsWholeChain p = whole_chain s c.args.packet.now.base c.args.packet.now.base_is c.requires.whole in
    let here : IsChain (slice_index b l) (f.first ∷ d) = subst (IsChain (slice_index b l)) f.all chain.chain in
    let links : AreLinked k d = here.links.1 in
    let number : p.number ≡ leads_to k d = chain.number ∙ ap (leads_to (slice_index b l)) f.all in
    let version : o.version ≡ p.version = ap (λ (x : Summary). x.version) c.args.packet.now.summary_is in
    let offset : c.number_offset.result ≡ l = c.number_offset.ensures ∙ ap number_offset version in
    let base : r ≡ b = c.base_of-base.ensures in
    let exts : c.extensions.result.now ≡ f.first.bytes ++ bytes_of d = c.extensions.ensures ∙ ap bytes_of f.all in
    let first : g ≡ f.first.bytes = c.split_at.ensures.front ∙ (ap (λ (n : ℕ). take n c.extensions.result.now) f.size ∙ (ap (take (length f.first.bytes)) exts ∙ take-append_seam f.first.bytes (bytes_of d))) in
    let others : e ≡ bytes_of d ++ q = c.bytes_after.ensures ∙ ap (λ (t : List ℕ). t ++ q) (ap (drop c.args.len) (ap bytes_of f.all) ∙ (ap (λ (n : ℕ). drop n (f.first.bytes ++ bytes_of d)) f.size ∙ drop-append_seam f.first.bytes (bytes_of d))) in
    let next : c.next_number.result ≡ k = c.next_number.ensures ∙ ap next_header first in
    let fits : length b + length (bytes_of d) + length q ≤ length buffer = omega (arith, c.requires.fits, ap (λ (x : List ExtHeader). length (bytes_of x)) f.kept) in
    let base_len : length r ≡ length b = ap length base in
    let others_len : length e ≡ length (bytes_of d) + length q = ap length others ∙ length-append (bytes_of d) q in
    let start : List ℕ = c.put_base.new.out in
    let x : List ℕ = c.set.new.out in
    let y : List ℕ = c.put.new.out in
    let start_is : start ≡ b ++ drop (length b) buffer = subst (λ (t : List ℕ). start ≡ t ++ drop (length t) buffer) base c.put_base.ensures in
    let less : l < length b = offset_within p c.requires.base in
    let stored : x ≡ slice_set start c.number_offset.result c.next_number.result = c.set.ensures.stored (omega (arith, less, offset, fits, c.put_base.auto.out)) in
    let set_is : x ≡ slice_set (b ++ drop (length b) buffer) l k = stored ∙ (ap (λ (t : List ℕ). slice_set t c.number_offset.result c.next_number.result) start_is ∙ (ap (λ (i : ℕ). slice_set (b ++ drop (length b) buffer) i c.next_number.result) offset ∙ ap (slice_set (b ++ drop (length b) buffer) l) next)) in
    let put = c.put.ensures in
    let y_put : y ≡ take (length b) x ++ e ++ drop (length b + length e) x = subst (λ (n : ℕ). y ≡ take n x ++ e ++ drop (n + length e) x) base_len put in
    let begins = written_after l b buffer d k q e x y less links others set_is y_put in
    let named : y ≡ front_with l b d p.number ++ q ++ drop (length b + length (bytes_of d) + length q) buffer = subst (λ (m : ℕ). y ≡ front_with l b d m ++ q ++ drop (length b + length (bytes_of d) + length q) buffer) (sym number) begins in
    let field : c.args.field ≡ rewritten_field p d q = c.requires.field ∙ ap (λ (x : List ExtHeader). rewritten_field p x q) f.kept in
    let done = c.state_length.ensures p d p.number q buffer c.args.packet.now.summary_is field named in
    let has : HasOption (jumbo_offset p) d = subst (HasOption (jumbo_offset p)) f.kept c.requires.option in
    done ∙ (ap (λ (x : List ExtHeader). joined p x p.number q ++ drop (rewritten_len p d q) buffer) (sym (no_option (jumbo_offset p) (length (bytes_of d) + length q) d has here.zero_only_first))
    ∙ ap (λ (x : List ExtHeader). rewritten p x p.number q ++ drop (rewritten_len p x q) buffer) (sym f.kept))
