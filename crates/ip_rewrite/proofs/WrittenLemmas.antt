-- The length of a jumbogram is written into its option.
use Rattle.ip_spec.proofs.Common.{◌≡◌, ℕ, ◌+◌, ◌≤◌, List, [], ◌∷◌, ◌++◌, length, take, drop, slice_set, sym, ap, ◌∙◌, arith, append_assoc, length-append, length-set, take-append-add, take-append-le, drop-append-le, drop-append_seam, drop-drop, Some, ExtHeader, bytes_of}
use Rattle.ip_header_contents.specs.Options.{option_bytes}
use Rattle.ip_dissect.specs.Dissection.{DissectedParts}
use Rattle.ip_rewrite.specs.Headers.{number_of_first, linked_headers}
use Rattle.ip_rewrite.specs.Base.{number_offset, base_before}
use Rattle.ip_rewrite.specs.Jumbogram.{is_unstated, jumbo_payload, with_option, stating_at}
use Rattle.ip_rewrite.specs.Rewritten.{base_for, joined, rewritten_field}
use Rattle.ip_rewrite.specs.Writing.{HasOption}
use Rattle.ip_rewrite.proofs.OptionLemmas.{option_set}
use Rattle.ip_rewrite.proofs.StatingLemmas.{stating_len}
use Rattle.ip_rewrite.proofs.JumbogramLemmas.{has_within}
use Rattle.ip_rewrite.proofs.DissectLemmas.{stating_size, joined_size}

pub put_within : (p : DissectedParts) (c : List ExtHeader) (m : ℕ) (q rest out : List ℕ) (k : ℕ) → HasOption (Some k) c → out ≡ joined p c m q ++ rest → length p.base + k + 6 ≤ length out
put_within p c m q rest out k a is = omega (arith, ap length is, length-append (joined p c m q) rest, joined_size p c m q, has_within k c a)

-- bytes b, of which the option is within the part g after the first of them
put_between : (b g r o : List ℕ) (k j : ℕ) → k ≤ length g → k + j ≤ length g → take (length b + k) (b ++ (g ++ r)) ++ o ++ drop (length b + k + j) (b ++ (g ++ r)) ≡ b ++ ((take k g ++ o ++ drop (k + j) g) ++ r)
put_between b g r o k j within fits =
    let front : take (length b + k) (b ++ (g ++ r)) ≡ b ++ take k g = take-append-add b (g ++ r) k ∙ ap (λ x. b ++ x) (take-append-le k g r within) in
    let back : drop (length b + k + j) (b ++ (g ++ r)) ≡ drop (k + j) g ++ r =
    ap (λ i. drop i (b ++ (g ++ r))) (omega arith) ∙ (sym (drop-drop (k + j) (length b) (b ++ (g ++ r))) ∙ (ap (drop (k + j)) (drop-append_seam b (g ++ r)) ∙ drop-append-le (k + j) g r fits)) in
    ap (λ x. x ++ o ++ drop (length b + k + j) (b ++ (g ++ r))) front
    ∙ (ap (λ x. (b ++ take k g) ++ o ++ x) back
    ∙ (sym (append_assoc ((b ++ take k g) ++ o) (drop (k + j) g) r)
    ∙ (ap (λ x. x ++ drop (k + j) g ++ r) (append_assoc b (take k g) o)
    ∙ (ap (λ x. x ++ r) (append_assoc b (take k g ++ o) (drop (k + j) g)) ∙ append_assoc b (take k g ++ o ++ drop (k + j) g) r))))

-- the first header and what follows it
split : (b g d q rest : List ℕ) → b ++ (g ++ d) ++ q ++ rest ≡ b ++ (g ++ (d ++ (q ++ rest)))
split b g d q rest =
    append_assoc (b ++ (g ++ d)) q rest ∙ (append_assoc b (g ++ d) (q ++ rest) ∙ ap (λ x. b ++ x) (append_assoc g d (q ++ rest)))

pub option_put : (p : DissectedParts) (c : List ExtHeader) (m : ℕ) (q rest out new : List ℕ) (k n : ℕ) → HasOption (Some k) c → out ≡ joined p c m q ++ rest
    → new ≡ take (length p.base + k) out ++ option_bytes (jumbo_payload n) ++ drop (length p.base + k + 6) out → new ≡ joined p (stating_at (Some k) n c) m q ++ rest
option_put p [] m q rest out new k n a is put = absurd a
option_put p (h ∷ c) m q rest out new k n a is put =
    let y : ℕ = number_of_first c m in
    let g : List ℕ = slice_set h.bytes 0 y in
    let d : List ℕ = bytes_of (linked_headers m c) in
    let b : List ℕ = base_for p (h ∷ c) m q in
    let r : List ℕ = d ++ (q ++ rest) in
    let o : List ℕ = option_bytes (jumbo_payload n) in
    let w : List ℕ = with_option h.bytes k (jumbo_payload n) in
    let size : length b ≡ length p.base = stating_size p.version (slice_set p.base (number_offset p.version) h.number) (rewritten_field p (h ∷ c) q) ∙ length-set p.base (number_offset p.version) h.number in
    let long : length g ≡ length h.bytes = length-set h.bytes 0 y in
    let parts : out ≡ b ++ (g ++ r) = is ∙ split b g d q rest in
    let there : new ≡ take (length b + k) (b ++ (g ++ r)) ++ o ++ drop (length b + k + 6) (b ++ (g ++ r)) =
    put ∙ (ap (λ x. take (length p.base + k) x ++ o ++ drop (length p.base + k + 6) x) parts ∙ ap (λ i. take (i + k) (b ++ (g ++ r)) ++ o ++ drop (i + k + 6) (b ++ (g ++ r))) (sym size)) in
    let base : base_for p (stating_at (Some k) n (h ∷ c)) m q ≡ b = ap (λ i. base_before p.version (is_unstated p) p.base h.number (i + length q)) (stating_len (Some k) n (h ∷ c) a) in
    let set : slice_set w 0 y ≡ with_option g k (jumbo_payload n) = option_set h.bytes k n a.2 0 y (omega (arith, a.1)) in
    there ∙ (put_between b g r o k 6 (omega (arith, a.2, long)) (omega (arith, a.2, long))
    ∙ (ap (λ x. b ++ (x ++ r)) (sym set) ∙ (sym (split b (slice_set w 0 y) d q rest) ∙ ap (λ x. x ++ (slice_set w 0 y ++ d) ++ q ++ rest) (sym base))))
