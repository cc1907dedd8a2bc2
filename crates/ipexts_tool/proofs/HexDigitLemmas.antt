-- Vectors of hexadecimal digits, lane by lane, and the bytes that all digits of a text denote.
use Rattle.ip_spec.proofs.Common.{◌≡◌, ℕ, zero, suc, ◌+◌, ◌-◌, ◌*◌, ◌%◌, ◌^◌, ◌<◌, ◌≤◌, List, [], ◌∷◌, ◌++◌, length, map, Bool, true, false, ◌&&◌, cond, refl, sym, ap, ◌∙◌, arith, common_steps, nat_tests, eqb-true, false≢true, drop, take, take_all, length-append, length-map, map-append, drop-drop, All-append, All-take, All-drop, result_ok, range_with_len, None, Result, Ok, Err}
use Rattle.std.proofs.Common.{get_or, replicate, eqb, ltb, leb, bit_or, w8, Fits}
use Rattle.std.proofs.Math.Seq.{take-add}
use Rattle.std.proofs.lemmas.Bool.{agree_below_at}
use Rattle.std.proofs.lemmas.List.{get_or-map, length-take-le, take-take}
use Rattle.std.proofs.lemmas.List.Elements.{All-tail}
use Rattle.std.proofs.lemmas.List.Folds.{list_all-append}
use Rattle.std.proofs.lemmas.List.FromFn.{get_or-map-range_with_len, length-map-range_with_len}
use Rattle.std.proofs.lemmas.List.Sums.{AllPass-from_list_all, list_all-from_AllPass}
use Rattle.std.proofs.lemmas.Simd.{length-zip2, length-sel_l, mask_l-mod, length-chunk, take_more_put_chunk, tops_compared, zip2_splat_left}
use Rattle.std.specs.List.{AllPass, list_all}
use Rattle.std.specs.Bool.{OnTrue}
use Rattle.std.specs.Result.{is_ok, MatchResult}
use Rattle.std.specs.Simd.Lanes.{chunk, put_chunk, zip2, sel_l, top, mask_l, Each1}
use Rattle.hex.specs.Hex.{is_hex_digit, value_at, decode_pairs, decode_of}
use Rattle.hex.specs.declared.error.FromHexError.{FromHexError}
use Rattle.hex.proofs.HexLemmas.{decode_of-even, decode_of-ok, decode_of-same}
use Rattle.ipexts_tool.specs.HexDigits.{digit_value}

-- ---- the value of a digit in each lane

abbrev pub less : ℕ → ℕ → ℕ
less a b = (a + (2 ^ 8 - b)) % 2 ^ 8

abbrev pub more : ℕ → ℕ → ℕ
more a b = (a + b) % 2 ^ 8

abbrev pub below : ℕ → ℕ → ℕ
below a b = cond (ltb a b) 255 0

abbrev lane : ℕ → ℕ
lane c =
    cond (top 7 (below (less c 48) 10)) (less c 48)
    (cond (top 7 (below (less (bit_or c 32) 97) 6)) (more (less (bit_or c 32) 97) 10) 255)

lane-is : (c : ℕ) → c < 256 → lane c ≡ digit_value c
unfolding digit_value
lane-is c small = eqb-true _ _ (agree_below_at (λ x. eqb (lane x) (digit_value x)) (λ x. true) 256 c refl small)

pub lanes-are : (n : ℕ) (v : List ℕ) → length v ≡ n → Each1 (Fits w8) v
    → sel_l (map (top 7) (zip2 below (zip2 less v (replicate n 48)) (replicate n 10))) (zip2 less v (replicate n 48))
    (sel_l (map (top 7) (zip2 below (zip2 less (zip2 bit_or v (replicate n 32)) (replicate n 97)) (replicate n 6)))
    (zip2 more (zip2 less (zip2 bit_or v (replicate n 32)) (replicate n 97)) (replicate n 10)) (replicate n 255))
    ≡ map digit_value v
lanes-are zero [] long fits = refl
lanes-are (suc n) (c ∷ v) long fits = let here = lane-is c fits.0.fits in let there = lanes-are n v (omega arith) fits.1 in cc
lanes-are n v long fits = absurd (omega arith)

-- ---- whether each lane of two vectors is below 128

abbrev pub is_small : ℕ → Bool
is_small v = ltb v 128

abbrev pub at_least : ℕ → ℕ → ℕ
at_least a b = cond (leb a b) 255 0

abbrev larger : List ℕ → List ℕ → List ℕ
larger xs ys = sel_l (zip2 ltb xs ys) ys xs

none_large : (xs ys : List ℕ) → length xs ≡ length ys → eqb (mask_l (map (leb 128) (larger xs ys))) 0 ≡ (list_all is_small xs && list_all is_small ys)
none_large [] [] same = refl
none_large (x ∷ xs) (y ∷ ys) same = grind (arith, common_steps, nat_tests, none_large xs ys (omega arith))
none_large xs ys same = absurd (omega arith)

pub values-are : (xs ys : List ℕ) → length xs ≡ 16 → length ys ≡ 16
    → eqb (mask_l (map (top 7) (zip2 at_least (replicate 16 128) (sel_l (map (top 7) (zip2 below xs ys)) ys xs))) % 2 ^ 64) 0 ≡ list_all is_small (xs ++ ys)
values-are xs ys p q =
    let compared : length (zip2 ltb xs ys) ≡ 16 = length-zip2 ltb xs ys (p ∙ sym q) ∙ p in
    let long : length (larger xs ys) ≡ 16 = length-sel_l (zip2 ltb xs ys) ys xs (compared ∙ sym q) (compared ∙ sym p) ∙ compared in
    let fits = mask_l-mod (map (leb 128) (larger xs ys)) 64 (omega (arith, length-map (larger xs ys) (leb 128), long)) in
    rw (tops_compared w8 ltb xs ys, tops_compared w8 leb (replicate 16 128) (larger xs ys), zip2_splat_left leb 128 16 (larger xs ys) long, fits, list_all-append is_small xs ys) (none_large xs ys (p ∙ sym q))

-- ---- the bytes of digits

abbrev IsDigit : ℕ → Type 0
IsDigit c = is_hex_digit c ≡ true

is_digit : (c : ℕ) → is_small (digit_value c) ≡ is_hex_digit c
unfolding digit_value
is_digit c = grind (arith, common_steps, nat_tests)

digit-small : (c : ℕ) → is_hex_digit c ≡ true → digit_value c < 16
unfolding digit_value
digit-small c digit = grind (arith)

value_at-digit : (c i : ℕ) → is_hex_digit c ≡ true → value_at c i ≡ Ok (digit_value c)
unfolding digit_value
value_at-digit c i digit = grind (arith)

-- the bytes of pairs of digits
paired : List ℕ → List ℕ
paired (a ∷ b ∷ text) = (digit_value a * 16 + digit_value b) ∷ paired text
paired text = []

paired-append : (s t : List ℕ) → length s % 2 ≡ 0 → paired (s ++ t) ≡ paired s ++ paired t
unfolding paired
paired-append [] t even = refl
paired-append (a ∷ b ∷ s) t even = cc (paired-append s t (omega arith))
paired-append (a ∷ []) t even = absurd (omega arith)

decode_pairs-digits : (i : ℕ) (s : List ℕ) → length s % 2 ≡ 0 → AllPass is_hex_digit s → decode_pairs i s ≡ Ok (paired s)
unfolding decode_pairs paired
decode_pairs-digits i [] even digits = refl
decode_pairs-digits i (a ∷ b ∷ s) even digits =
    let left = All-tail IsDigit b s (All-tail IsDigit a (b ∷ s) digits) in
    rw (value_at-digit a i (digits 0 0 (omega arith)), value_at-digit b (i + 1) (digits 1 0 (omega arith)), decode_pairs-digits (i + 2) s (omega arith) left) refl
decode_pairs-digits i (a ∷ []) even digits = absurd (omega arith)

decode_of-digits : (s : List ℕ) → length s % 2 ≡ 0 → AllPass is_hex_digit s → decode_of s ≡ Ok (paired s)
decode_of-digits s even digits = decode_of-even s even ∙ decode_pairs-digits 0 s even digits

decode_of-append : (s t x y : List ℕ) → decode_of s ≡ Ok x → decode_of t ≡ Ok y → decode_of (s ++ t) ≡ Ok (x ++ y)
decode_of-append s t x y first second =
    let a = decode_of-ok s x first in
    let b = decode_of-ok t y second in
    let front = decode_of-same s x _ first (decode_of-digits s a.0 a.1) in
    let back = decode_of-same t y _ second (decode_of-digits t b.0 b.1) in
    rw (front, back) (decode_of-digits (s ++ t) (omega (arith, a.0, b.0, length-append s t)) (All-append IsDigit s t a.1 b.1) ∙ ap Ok (paired-append s t a.0))

paired-is : (s bytes : List ℕ) → length s ≡ 2 * length bytes → ((k : ℕ) → k < length bytes → get_or bytes k 0 ≡ digit_value (get_or s (2 * k) 0) * 16 + digit_value (get_or s (2 * k + 1) 0)) → bytes ≡ paired s
unfolding paired
paired-is [] [] twice each = refl
paired-is (a ∷ b ∷ s) (byte ∷ bytes) twice each =
    let even : (k : ℕ) → 2 * suc k ≡ suc (suc (2 * k)) = λ k. omega arith in
    let odd : (k : ℕ) → 2 * suc k + 1 ≡ suc (suc (2 * k + 1)) = λ k. omega arith in
    cc (each 0 (omega arith), paired-is s bytes (omega arith) (λ k below. rw (odd k, even k) at (each (suc k) (omega arith))))
paired-is s bytes twice each = absurd (omega arith)

-- a text that isn't all digits denotes no bytes
refused : (text : List ℕ) → (AllPass is_hex_digit text → ⊥) → result_ok (decode_of text) ≡ None
refused text other = go (decode_of text) refl
  where
    go : (r : Result (List ℕ) FromHexError) → decode_of text ≡ r → result_ok r ≡ None
    go (Ok bytes) is = absurd (other (decode_of-ok text bytes is).1)
    go (Err e) is = refl

-- ---- a block of a text

abbrev pair_at : List ℕ → ℕ → ℕ
pair_at both k = (get_or both (2 * k) 0 * 16 % 256 + get_or both (2 * k + 1) 0) % 256

abbrev joined_lanes : List ℕ → List ℕ
joined_lanes both = map (pair_at both) (range_with_len 0 16)

module _ (text front back : List ℕ) (at : ℕ) (inside : 2 * at + 32 ≤ length text) (ahead : front ≡ map digit_value (chunk (2 * at) 16 text)) (after : back ≡ map digit_value (chunk (2 * at + 16) 16 text)) where
  abbrev block : List ℕ
  block = chunk (2 * at) 32 text

  block_len : length block ≡ 32
  block_len = length-chunk (2 * at) 32 text inside

  both-are : front ++ back ≡ map digit_value block
  both-are = rw (ahead, after, take-add 16 16 (drop (2 * at) text), drop-drop 16 (2 * at) text, map-append) refl

  all_small : (s : List ℕ) → list_all is_small (map digit_value s) ≡ list_all is_hex_digit s
  all_small [] = refl
  all_small (c ∷ s) = cc (is_digit c, all_small s)

  digits-are : list_all is_small (front ++ back) ≡ list_all is_hex_digit block
  digits-are = rw both-are (all_small block)

  pub block_refused : list_all is_small (front ++ back) ≡ false → result_ok (decode_of text) ≡ None
  block_refused is = refused text (λ digits. false≢true (sym is ∙ digits-are ∙ list_all-from_AllPass is_hex_digit block (All-take IsDigit 32 _ (All-drop IsDigit (2 * at) text digits))))

  block_decoded : list_all is_small (front ++ back) ≡ true → decode_of block ≡ Ok (joined_lanes (front ++ back))
  block_decoded is =
      let digits = AllPass-from_list_all is_hex_digit block (sym digits-are ∙ is) in
      let small : (j : ℕ) → j < 32 → digit_value (get_or block j 0) < 16 = λ j below. digit-small _ (digits j 0 (omega (arith, block_len))) in
      let lane_at : (j : ℕ) → j < 32 → get_or (front ++ back) j 0 ≡ digit_value (get_or block j 0) =
      λ j below. ap (λ (xs : List ℕ). get_or xs j 0) both-are ∙ get_or-map digit_value block j 0 0 (omega (arith, block_len)) in
      let len = length-map-range_with_len (pair_at (front ++ back)) 0 16 in
      let same = paired-is block (joined_lanes (front ++ back)) (omega (arith, block_len, len)) (λ k below.
      let within : k < 16 = omega (arith, len) in
      let high = lane_at (2 * k) (omega arith) in
      let low = lane_at (2 * k + 1) (omega arith) in
      get_or-map-range_with_len (pair_at (front ++ back)) 0 16 k k 0 within (omega arith) ∙ omega (arith, high, low, small (2 * k) (omega arith), small (2 * k + 1) (omega arith))) in
      rw same (decode_of-digits block (omega (arith, block_len)) digits)

  -- one block more is decoded
  pub block_more : (old bytes : List ℕ) → at + 16 ≤ length old → bytes ≡ joined_lanes (front ++ back) → list_all is_small (front ++ back) ≡ true → decode_of (take (2 * at) text) ≡ Ok (take at old)
      → decode_of (take (2 * (at + 16)) text) ≡ Ok (take (at + 16) (put_chunk at old bytes))
  block_more old bytes room joined is before =
      let whole : take (2 * (at + 16)) text ≡ take (2 * at) text ++ block = ap (λ n. take n text) (omega arith) ∙ take-add (2 * at) 32 text in
      let stored : take (at + 16) (put_chunk at old bytes) ≡ take at old ++ joined_lanes (front ++ back) = rw joined (take_more_put_chunk at old (joined_lanes (front ++ back)) (at + 16) refl room) in
      rw (whole, stored) (decode_of-append _ _ _ _ before (block_decoded is))

-- ---- the bytes before the last block, part of which are decoded already

paired-take : (k : ℕ) (s : List ℕ) → length s % 2 ≡ 0 → paired (take (2 * k) s) ≡ take k (paired s)
unfolding paired
paired-take zero s even = refl
paired-take (suc k) [] even = grind (arith, common_steps)
paired-take (suc k) (a ∷ b ∷ s) even =
    let twice : 2 * suc k ≡ suc (suc (2 * k)) = omega arith in
    rw twice (ap (λ (xs : List ℕ). (digit_value a * 16 + digit_value b) ∷ xs) (paired-take k s (omega arith)))
paired-take (suc k) (a ∷ []) even = absurd (omega arith)

decode_of-take : (k : ℕ) (s x : List ℕ) → 2 * k ≤ length s → decode_of s ≡ Ok x → decode_of (take (2 * k) s) ≡ Ok (take k x)
decode_of-take k s x within is =
    let digits = decode_of-ok s x is in
    let all = decode_of-same s x _ is (decode_of-digits s digits.0 digits.1) in
    let even : length (take (2 * k) s) % 2 ≡ 0 = omega (arith, length-take-le (2 * k) s within) in
    rw all (decode_of-digits (take (2 * k) s) even (All-take IsDigit (2 * k) s digits.1) ∙ ap Ok (paired-take k s digits.0))

before_last : (text old : List ℕ) (at first : ℕ) → first ≤ at → at ≤ length old → length text ≡ 2 * length old → decode_of (take (2 * at) text) ≡ Ok (take at old) → decode_of (take (2 * first) text) ≡ Ok (take first old)
before_last text old at first before inside twice is =
    let within : 2 * first ≤ length (take (2 * at) text) = omega (arith, length-take-le (2 * at) text (omega arith)) in
    let part = decode_of-take first (take (2 * at) text) (take at old) within is in
    rw (take-take (2 * first) (2 * at) text (omega arith), take-take first at old before) at part

-- the last block ends where the text does
pub last_decoded : (text old new : List ℕ) (at first : ℕ) (are_digits : Bool) → length text ≡ 2 * length old → first + 16 ≡ length old → length new ≡ length old → first ≤ at → at ≤ length old
    → decode_of (take (2 * at) text) ≡ Ok (take at old)
    → OnTrue are_digits (decode_of (take (2 * first) text) ≡ Ok (take first old) → decode_of (take (2 * (first + 16)) text) ≡ Ok (take (first + 16) new))
    → OnTrue are_digits (decode_of text ≡ Ok new)
last_decoded text old new at first false twice last same before inside is block = tt
last_decoded text old new at first true twice last same before inside is block =
    rw (take_all (2 * (first + 16)) text (omega arith), take_all (first + 16) new (omega arith)) at (block (before_last text old at first before inside twice is))

-- what `decode_to_slice` says of the text is what the text denotes
pub written_ok : (d : Result (List ℕ) FromHexError) (r : Result Unit FromHexError) (out : List ℕ) → MatchResult d (λ bytes. (r ≡ Ok tt) × (out ≡ bytes)) (λ e. r ≡ Err e) → is_ok r ≡ true → d ≡ Ok out
written_ok (Ok bytes) r out h is = ap Ok (sym h.1)
written_ok (Err e) r out h is = cc (is, ap is_ok h)

pub written_err : (d : Result (List ℕ) FromHexError) (r : Result Unit FromHexError) (out : List ℕ) → MatchResult d (λ bytes. (r ≡ Ok tt) × (out ≡ bytes)) (λ e. r ≡ Err e) → is_ok r ≡ false → (e : FromHexError) × (d ≡ Err e)
written_err (Ok bytes) r out h is = cc (is, ap is_ok h.0)
written_err (Err e) r out h is = (e, refl)
