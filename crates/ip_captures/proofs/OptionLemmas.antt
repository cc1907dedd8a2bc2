-- The options of a block.
use Rattle.std.proofs.Common.{◌≡◌, ◌≢◌, ℕ, ◌+◌, ◌≤◌, List, ◌∷◌, ◌++◌, length, take, drop, ap, arith, ◌∙◌, sym}
use Rattle.std.proofs.lemmas.List.{length-append, length-take-le, take-append-drop}
use Rattle.std.proofs.lemmas.Bool.Decides.{nat_tests}
use Rattle.std.specs.Prelude.{Some, None, slice_range, if◌then◌else◌}
use Rattle.std.specs.List.{concat}
use Rattle.ip_captures.specs.Pieces.{pieces_in}
use Rattle.ip_captures.specs.Options.{padded, option_code, value_len, IsOption, option_len, same_order, value_among, option_value, has_end, truncated_option, options_error}
use Rattle.ip_captures.specs.declared.byte_order.ByteOrder.{ByteOrder}
use Rattle.ip_captures.proofs.NumberLemmas.{short_number_at-append, short_number_at-take, range-take}
use Rattle.ip_captures.proofs.PieceLemmas.{Finds, first_piece, no_piece, none_begins, rest_after_first}

-- what the test for an option says
record Begins (o : ByteOrder) (s : List ℕ) (k : ℕ) : Type 0 where
  len : k ≡ 4 + padded (value_len o s)
  fits : k ≤ length s

begins : (o : ByteOrder) (s : List ℕ) (k : ℕ) → option_len o s ≡ Some k → Begins o s k
begins o s k e = grind (arith, nat_tests, e)

option_len-is : (o : ByteOrder) (s : List ℕ) → 4 ≤ length s → 4 + padded (value_len o s) ≤ length s → option_len o s ≡ Some (4 + padded (value_len o s))
option_len-is o s a b = grind (arith, nat_tests)

pub finds_options : Finds IsOption option_len
finds_options = record {
  found = λ o s k e.
      let b = begins o s k e in
      let same = short_number_at-take o s k 2 (omega (arith, b.len)) b.fits in
      let len = length-take-le k s b.fits in
      (record { header = omega (arith, len, b.len); len = len ∙ b.len ∙ ap (λ n. 4 + padded n) (sym same) }, omega (arith, b.len), b.fits);
  only = λ o p q i.
      let same = short_number_at-append o p q 2 (omega (arith, i.header)) in
      let len : 4 + padded (value_len o (p ++ q)) ≡ length p = ap (λ n. 4 + padded n) same ∙ sym i.len in
      let x = option_len-is o (p ++ q) (omega (arith, i.header, length-append p q)) (omega (arith, len, length-append p q)) in
      x ∙ ap Some len;
}

-- The option of k bytes that begins s.
module _ (o : ByteOrder) (code : ℕ) (s : List ℕ) (k : ℕ) (e : option_len o s ≡ Some k) where
  first : option_value o code s ≡ value_among o code (take k s ∷ pieces_in option_len same_order o (drop k s))
  first = ap (value_among o code) (first_piece IsOption same_order option_len finds_options o s (take k s) (drop k s) (finds_options.found o s k e).0 (sym (take-append-drop k s)))

  same_code : option_code o (take k s) ≡ option_code o s
  same_code = let b = begins o s k e in short_number_at-take o s k 0 (omega (arith, b.len)) b.fits

  pub value_after : option_code o s ≢ 0 → option_code o s ≢ code → option_value o code s ≡ option_value o code (drop k s)
  value_after some other = first ∙ grind (arith, nat_tests, same_code)

  pub value_ended : option_code o s ≡ 0 → option_value o code s ≡ None
  value_ended none = first ∙ grind (arith, nat_tests, same_code)

  pub value_here : option_code o s ≢ 0 → option_code o s ≡ code → option_value o code s ≡ Some (slice_range s 4 (4 + value_len o s))
  value_here some here =
      let b = begins o s k e in
      let len : value_len o (take k s) ≡ value_len o s = short_number_at-take o s k 2 (omega (arith, b.len)) b.fits in
      let value : slice_range (take k s) 4 (4 + value_len o (take k s)) ≡ slice_range s 4 (4 + value_len o s) =
      ap (λ n. slice_range (take k s) 4 (4 + n)) len ∙ range-take s k 4 (4 + value_len o s) (omega arith) (omega (arith, b.len)) b.fits in
      first ∙ grind (arith, nat_tests, same_code, value)

  pub error_after : option_code o s ≢ 0 → options_error o s ≡ options_error o (drop k s)
  error_after some =
      let is = (finds_options.found o s k e).0 in
      let joined = sym (take-append-drop k s) in
      let pieces = first_piece IsOption same_order option_len finds_options o s (take k s) (drop k s) is joined in
      let rest = rest_after_first IsOption same_order option_len finds_options o s (take k s) (drop k s) is joined in
      ap (λ ps. if has_end o ps then None else truncated_option o (drop (length (concat (pieces_in option_len same_order o s))) s)) pieces
      ∙ ap (λ r. if has_end o (take k s ∷ pieces_in option_len same_order o (drop k s)) then None else truncated_option o r) rest
      ∙ grind (arith, nat_tests, same_code)

  pub error_ended : option_code o s ≡ 0 → options_error o s ≡ None
  error_ended none =
      let pieces = first_piece IsOption same_order option_len finds_options o s (take k s) (drop k s) (finds_options.found o s k e).0 (sym (take-append-drop k s)) in
      ap (λ ps. if has_end o ps then None else truncated_option o (drop (length (concat (pieces_in option_len same_order o s))) s)) pieces
      ∙ grind (arith, nat_tests, same_code)

pub error_left : (o : ByteOrder) (s : List ℕ) → option_len o s ≡ None → options_error o s ≡ truncated_option o s
error_left o s e =
    let none = no_piece IsOption same_order option_len finds_options o s (none_begins IsOption same_order option_len finds_options o s e) in
    ap (λ ps. if has_end o ps then None else truncated_option o (drop (length (concat ps)) s)) none

pub no_value : (o : ByteOrder) (code : ℕ) (s : List ℕ) → option_len o s ≡ None → option_value o code s ≡ None
no_value o code s e = ap (value_among o code) (no_piece IsOption same_order option_len finds_options o s (none_begins IsOption same_order option_len finds_options o s e))
