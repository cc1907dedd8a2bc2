-- The fields of a base header that is changed.
use Rattle.ip_spec.proofs.Common.{◌≡◌, ℕ, ◌+◌, ◌/◌, ◌%◌, ◌≤◌, ◌<◌, List, length, take, drop, sym, ◌∙◌, ap, arith, slice_set, slice_index, length-set, get_or-set_other, get_or-set_same, from_be_bytes}
use Rattle.std.specs.Int.{w16}
use Rattle.std.proofs.lemmas.List.{get_or-take, get_or-drop}
use Rattle.ip_base.specs.Checksum.{with_word}

-- the word
pub word_bytes : (b : List ℕ) (i j : ℕ) → j < 2 → slice_index (take 2 (drop i b)) j ≡ slice_index b (i + j)
word_bytes b i j less = get_or-take 2 (drop i b) j 0 less ∙ get_or-drop i b j 0

pub word_is : (b : List ℕ) (i n : ℕ) → i + 2 ≤ length b → n < 65536 → from_be_bytes w16 (take 2 (drop i (with_word b i n))) ≡ n
word_is b i n fits small =
    let w : List ℕ = with_word b i n in
    let high : slice_index w i ≡ n / 256 = get_or-set_other (slice_set b i (n / 256)) (i + 1) i (n % 256) 0 (λ e. omega (arith, e)) ∙ get_or-set_same b i (n / 256) 0 (omega arith) in
    let low : slice_index w (i + 1) ≡ n % 256 = get_or-set_same (slice_set b i (n / 256)) (i + 1) (n % 256) 0 (omega (arith, length-set b i (n / 256))) in
    let first : slice_index (take 2 (drop i w)) 0 ≡ slice_index w i = word_bytes w i 0 (omega arith) ∙ ap (slice_index w) (omega arith) in
    let second : slice_index (take 2 (drop i w)) 1 ≡ slice_index w (i + 1) = word_bytes w i 1 (omega arith) in
    omega (arith, first, second, high, low)

-- bytes that stay
pub range_same : (b d : List ℕ) (i : ℕ) → slice_index d i ≡ slice_index b i → slice_index d (i + 1) ≡ slice_index b (i + 1) → from_be_bytes w16 (take 2 (drop i d)) ≡ from_be_bytes w16 (take 2 (drop i b))
range_same b d i p q =
    let first : slice_index (take 2 (drop i d)) 0 ≡ slice_index (take 2 (drop i b)) 0 = word_bytes d i 0 (omega arith) ∙ (ap (slice_index d) (omega arith) ∙ (p ∙ (ap (slice_index b) (omega arith) ∙ sym (word_bytes b i 0 (omega arith))))) in
    let second : slice_index (take 2 (drop i d)) 1 ≡ slice_index (take 2 (drop i b)) 1 = word_bytes d i 1 (omega arith) ∙ (q ∙ sym (word_bytes b i 1 (omega arith))) in
    omega (arith, first, second)
