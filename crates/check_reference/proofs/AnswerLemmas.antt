-- The tool's definitions, in the form in which the plain program computes them.
use Rattle.ip_spec.proofs.Common.{common_steps, rules, map-append, ◌/◌, slice_index, drop_all, ◌≡◌, ◌≢◌, ℕ, ◌+◌, ◌*◌, ◌%◌, ◌<◌, ◌≤◌, List, [], ◌∷◌, ◌++◌, length, drop, map, refl, ap, arith, append_assoc, get_or, nat_eq, codes, Option, None, Some, Result, Ok, option_map, result_ok, bytes_eq-Decides, length-take, drop_more, ExtHeader, IsLongestChain, leads_to, bytes_of, is_empty, IsPrefix, Bool}
use Rattle.std.proofs.Common.{append-nil}
use Rattle.check_reference.specs.PlainHeader.{plain_header_of}
use Rattle.check_reference.specs.declared.chain.PlainHeader.{PlainHeader}
use Rattle.ip_spec.proofs.ChainLemmas.{one_longest, some_longest}
use Rattle.ip_ext_slices.specs.ChainFault.{Fault, slice_fault}
use Rattle.ip_ext_slices.specs.Longest.{longest_chain}
use Rattle.hex.specs.Hex.{encode_with, encode_lower, lower_digits, decode_pairs, hex_digit_value, digit_or_error, ◌>>=◌}
use Rattle.hex.specs.declared.error.FromHexError.{FromHexError}
use Rattle.check_reference.specs.Digits.{byte_of_values, byte_of_digits}
use Rattle.ipexts_tool.specs.Exts6.{exts6_answer}
use Rattle.ipexts_tool.specs.LineFields.{bytes_of_hex}
use Rattle.ipexts_tool.specs.Lines.{without_empty_last}
use Rattle.ipexts_tool.specs.Parts.{header_lines, next_line, chain_end_line}

-- ---- lines

pub last_dropped : (front : List (List ℕ)) (last : List ℕ) → length last ≡ 0 → without_empty_last (front ++ last ∷ []) ≡ front
last_dropped [] last none = search rules
last_dropped (line ∷ front) last none = search (rules, last_dropped front last none)

pub last_kept : (front : List (List ℕ)) (last : List ℕ) → 0 < length last → without_empty_last (front ++ last ∷ []) ≡ front ++ last ∷ []
last_kept [] last some = search rules
last_kept ([] ∷ []) last some = search (rules, last_kept [])
last_kept ([] ∷ next ∷ front) last some = cc (last_kept (next ∷ front) last some)
last_kept ((b ∷ line) ∷ front) last some = cc (last_kept front last some)

-- what `plain_lines` uses
pub ruleset last_lines = (last_dropped, last_kept, map-append)

-- ---- hexadecimal digits

-- a byte before others, if both are present
abbrev pub onto_bytes : Option ℕ → Option (List ℕ) → Option (List ℕ)
onto_bytes (Some byte) bytes = option_map (λ more. byte ∷ more) bytes
onto_bytes None bytes = None

-- the bytes of pairs of digits
abbrev pub bytes_of_pairs : List ℕ → Option (List ℕ)
bytes_of_pairs [] = Some []
bytes_of_pairs (digit ∷ []) = None
bytes_of_pairs (high ∷ low ∷ rest) = onto_bytes (byte_of_digits high low) (bytes_of_pairs rest)

onto_bytes-ok : (i : ℕ) (h l : Option ℕ) (high low : ℕ) (bytes : Result (List ℕ) FromHexError)
    → result_ok ((digit_or_error high i h >>= (λ a. digit_or_error low (i + 1) l >>= (λ b. Ok (a * 16 + b)))) >>= (λ byte. bytes >>= (λ more. Ok (byte ∷ more))))
    ≡ onto_bytes (byte_of_values h l) (result_ok bytes)
onto_bytes-ok i h l high low bytes = search rules

-- decoding returns these bytes
pub decode_pairs-bytes : (i : ℕ) (text : List ℕ) → result_ok (decode_pairs i text) ≡ bytes_of_pairs text
unfolding decode_pairs
decode_pairs-bytes i [] = refl
decode_pairs-bytes i (digit ∷ []) = refl
decode_pairs-bytes i (high ∷ low ∷ rest) = cc (onto_bytes-ok i (hex_digit_value high) (hex_digit_value low) high low (decode_pairs (i + 2) rest), decode_pairs-bytes (i + 2) rest)

-- at least two digits, and an even number of them
pub bytes_of_hex-pairs : (text : List ℕ) → text ≢ codes "-" → 0 < length text → length text % 2 ≢ 1 → bytes_of_hex text ≡ bytes_of_pairs text
bytes_of_hex-pairs text dash some even = grind (arith, common_steps, decode_pairs-bytes 0 text, bytes_eq-Decides text (codes "-"))

-- the bytes so far and those of the remaining digits are those of all digits
pub SoFar : List ℕ → List ℕ → List ℕ → Type 0
SoFar text left bytes = option_map (λ more. bytes ++ more) (bytes_of_pairs left) ≡ bytes_of_pairs text

option_map-more : (bytes : List ℕ) (byte : ℕ) (o : Option (List ℕ))
    → option_map (λ more. (bytes ++ byte ∷ []) ++ more) o ≡ option_map (λ more. bytes ++ more) (onto_bytes (Some byte) o)
option_map-more bytes byte o = search (rules, append_assoc)

module _ (text bytes : List ℕ) where
  pub so_far-none : bytes ≡ [] → SoFar text text bytes
  unfolding SoFar
  so_far-none e = search rules

  pub so_far-all : SoFar text [] bytes → bytes_of_pairs text ≡ Some bytes
  unfolding SoFar
  so_far-all e = cc (append-nil bytes)

  module _ (k : ℕ) (inside : k + 1 < length text) where
    pair_at : (next : ℕ) → next ≡ k + 2 → bytes_of_pairs (drop k text) ≡ onto_bytes (byte_of_digits (get_or text k 0) (get_or text (k + 1) 0)) (bytes_of_pairs (drop next text))
    pair_at next e = grind (arith, common_steps)

    pub so_far-bad : SoFar text (drop k text) bytes → byte_of_digits (get_or text k 0) (get_or text (k + 1) 0) ≡ None → bytes_of_pairs text ≡ None
    unfolding SoFar
    so_far-bad e none = cc (pair_at (k + 2) refl)

    pub so_far-more : (byte next : ℕ) → next ≡ k + 2 → SoFar text (drop k text) bytes → byte_of_digits (get_or text k 0) (get_or text (k + 1) 0) ≡ Some byte
        → SoFar text (drop next text) (bytes ++ byte ∷ [])
    unfolding SoFar
    so_far-more byte next two e is = cc (option_map-more bytes byte (bytes_of_pairs (drop next text)), pair_at next two)

-- what `plain_bytes` uses
pub ruleset bytes_so_far = (so_far-none, so_far-all, so_far-bad, so_far-more, bytes_of_hex-pairs, drop_all)

-- the digits of the next byte only
pub next_digits : (bs : List ℕ) (i : ℕ) → i < length bs → encode_lower (drop i bs)
    ≡ slice_index lower_digits (slice_index bs i / 16) ∷ slice_index lower_digits (slice_index bs i % 16) ∷ encode_lower (drop (i + 1) bs)
unfolding encode_with
next_digits bs i h = rw (drop_more bs i 0 h) refl

pub no_digits : (bs : List ℕ) (i : ℕ) → length bs ≤ i → encode_lower (drop i bs) ≡ []
unfolding encode_with
no_digits bs i h = rw (drop_all i bs h) refl

-- what `push_digits` uses
pub ruleset digits = (next_digits, no_digits, append-nil, append_assoc)

-- ---- chains

-- the answer computed from a longest chain; there is only one
module _ (n : ℕ) (s : List ℕ) (c : List ExtHeader) (longest : IsLongestChain n s c) where
  pub exts6_answer-longest : (number : ℕ) (rest : List ℕ) (first : Bool) (offset : ℕ) (fault : Option Fault)
      → number ≡ leads_to n c → rest ≡ drop (length (bytes_of c)) s → first ≡ is_empty c → offset ≡ length (bytes_of c) → fault ≡ slice_fault offset first number rest
      → exts6_answer n s ≡ header_lines 0 c ++ next_line number (length rest) ++ chain_end_line fault
  exts6_answer-longest number rest first offset fault leads left one after is =
      rw (is, leads, left, one, after, ← one_longest n s (longest_chain n s) c (some_longest n s).1 longest) refl

pub length-prefix : (b s : List ℕ) → IsPrefix b s → length b ≤ length s
length-prefix b s e = omega (arith, length-take (length b) s, ap length e)

pub is_empty-shown : (items : List PlainHeader) (len : ℕ) → len ≡ length items → nat_eq len 0 ≡ is_empty (map plain_header_of items)
is_empty-shown items len e = grind (arith, common_steps)
