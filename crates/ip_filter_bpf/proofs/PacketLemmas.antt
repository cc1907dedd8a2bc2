-- The base header of a packet, by the numbers that a program loads.
use Rattle.std.proofs.Common.{◌≡◌, ◌≢◌, ℕ, zero, suc, ◌+◌, ◌*◌, ◌/◌, ◌%◌, ◌^◌, ◌<◌, ◌≤◌, Bool, true, false, cond, ◌⊎◌, not, nat_lt, nat_le, List, length, take, drop, inl, inr, refl, sym, ap, subst, ◌∙◌, arith, eq-eqb, ne_eqb}
use Rattle.std.specs.Prelude.{Option, Some, None, ◌==◌, slice_index}
use Rattle.std.specs.Int.{from_be_bytes, w32, w128}
use Rattle.std.specs.Option.{option_map_or}
use Rattle.std.proofs.lemmas.Grind.{common_steps}
use Rattle.std.proofs.lemmas.Bool.{cases_lt, lt-ltb, le-ltb, le-leb, lt-leb}
use Rattle.std.proofs.lemmas.Bool.Decides.{eqb_tells}
use Rattle.std.proofs.lemmas.List.{get_or-take, get_or-drop}
use Rattle.ip_spec.proofs.Common.{none-some}
use Rattle.ip_dissect.proofs.DissectedLemmas.{base6}
use Rattle.ip_base.specs.Ipv4Header.{version, ihl, ipv4_header_len}
use Rattle.ip_dissect.specs.Dissection.{DissectedParts, without_base, ipv4_dissected, ipv6_dissected, dissected}
use Rattle.ip_dissect.specs.End.{base_end}
use Rattle.ip_dissect.specs.declared.end.End.{End}
use Rattle.ip_filter.specs.Network.{ipv4_lies_in, ipv6_lies_in}
use Rattle.ip_filter.specs.Truth.{has_source, has_destination}
use Rattle.ip_filter.specs.declared.network.Network.{Network}
use Rattle.ip_filter_bpf.specs.Blocks.{word_at, address_at}

pub at4 : (s : List ℕ) → base_end s ≡ None → version s ≡ 4 → dissected s ≡ ipv4_dissected (take (ipv4_header_len s) s) s
unfolding dissected
at4 s none four = rw (none, eq-eqb (version s) 4 four) refl

pub at6 : (s : List ℕ) → base_end s ≡ None → (version s ≡ 4 → ⊥) → dissected s ≡ ipv6_dissected (take 40 s) s
unfolding dissected
at6 s none six = rw (none, ne_eqb (version s) 4 six) refl

without : (s : List ℕ) (e : End) → base_end s ≡ Some e → dissected s ≡ without_base s e
unfolding dissected
without s e is = rw is refl

-- what a version says of the bytes
pub record Starts4 (s : List ℕ) : Type 0 where
  pub none : base_end s ≡ None
  pub version : version s ≡ 4

pub record Starts6 (s : List ℕ) : Type 0 where
  pub none : base_end s ≡ None
  pub other : version s ≡ 4 → ⊥

four_six : (n : ℕ) → n ≡ 4 → n ≡ 6 → ⊥
four_six n a b = omega arith

zero_four : (n m : ℕ) → n ≡ 0 → n ≡ suc m → ⊥
zero_four n m a b = omega arith

starts4_by : (s : List ℕ) (o : Option End) → base_end s ≡ o → (dissected s).version ≡ 4 → Starts4 s
starts4_by s (Some e) is four = absurd (zero_four (dissected s).version 3 (ap (λ (p : DissectedParts). p.version) (without s e is)) four)
starts4_by s None is four = elim (eqb_tells (version s) 4) [
  | inl same ↦ record { none = is; version = same.1 }
  | inr differ ↦ absurd (four_six (dissected s).version four (ap (λ (p : DissectedParts). p.version) (at6 s is differ.1)))
]

pub starts4 : (s : List ℕ) → (dissected s).version ≡ 4 → Starts4 s
starts4 s four = starts4_by s (base_end s) refl four

starts6_by : (s : List ℕ) (o : Option End) → base_end s ≡ o → (dissected s).version ≡ 6 → Starts6 s
starts6_by s (Some e) is six = absurd (zero_four (dissected s).version 5 (ap (λ (p : DissectedParts). p.version) (without s e is)) six)
starts6_by s None is six = record {
  none = is;
  other = λ (four : version s ≡ 4). four_six (dissected s).version (ap (λ (p : DissectedParts). p.version) (at4 s is four)) six;
}

pub starts6 : (s : List ℕ) → (dissected s).version ≡ 6 → Starts6 s
starts6 s six = starts6_by s (base_end s) refl six

pub least4 : (s : List ℕ) → base_end s ≡ None → version s ≡ 4 → (20 ≤ ipv4_header_len s) × (ipv4_header_len s ≤ length s)
least4 s none four =
    let least : 5 ≤ ihl s = grind (arith, common_steps, none-some) in
    let fits : ipv4_header_len s ≤ length s = grind (arith, common_steps, none-some) in
    (omega arith, fits)

pub long4 : (s : List ℕ) → (dissected s).version ≡ 4 → 20 ≤ length s
long4 s four = let is = starts4 s four in let l = least4 s is.none is.version in omega (arith, l.0, l.1)

pub long6 : (s : List ℕ) → (dissected s).version ≡ 6 → 40 ≤ length s
long6 s six = let is = starts6 s six in (base6 s is.none is.other).1

-- a byte of a part of the first n bytes
byte_there : (s : List ℕ) (n i k j : ℕ) → j < k → i + j < n → slice_index (take k (drop i (take n s))) j ≡ slice_index s (i + j)
byte_there s n i k j less within = get_or-take k (drop i (take n s)) j 0 less ∙ get_or-drop i (take n s) j 0 ∙ get_or-take n s (i + j) 0 within

word_there : (s : List ℕ) (n i : ℕ) → i + 4 ≤ n → from_be_bytes w32 (take 4 (drop i (take n s))) ≡ word_at s i
word_there s n i within =
    let b0 : slice_index (take 4 (drop i (take n s))) 0 ≡ slice_index s i = byte_there s n i 4 0 (omega arith) (omega arith) ∙ ap (slice_index s) (omega arith) in
    let b1 = byte_there s n i 4 1 (omega arith) (omega arith) in
    let b2 = byte_there s n i 4 2 (omega arith) (omega arith) in
    let b3 = byte_there s n i 4 3 (omega arith) (omega arith) in
    omega (arith, b0, b1, b2, b3)

pub source4 : (s : List ℕ) (n : Network) → (dissected s).version ≡ 4 → has_source n (dissected s) ≡ ipv4_lies_in n (word_at s 12)
source4 s n four =
    let is = starts4 s four in
    let l = least4 s is.none is.version in
    ap (has_source n) (at4 s is.none is.version) ∙ ap (ipv4_lies_in n) (word_there s (ipv4_header_len s) 12 (omega (arith, l.0)))

pub destination4 : (s : List ℕ) (n : Network) → (dissected s).version ≡ 4 → has_destination n (dissected s) ≡ ipv4_lies_in n (word_at s 16)
destination4 s n four =
    let is = starts4 s four in
    let l = least4 s is.none is.version in
    ap (has_destination n) (at4 s is.none is.version) ∙ ap (ipv4_lies_in n) (word_there s (ipv4_header_len s) 16 (omega (arith, l.0)))

address_there : (s : List ℕ) (i : ℕ) → i + 16 ≤ 40 → from_be_bytes w128 (take 16 (drop i (take 40 s))) ≡ address_at s i
address_there s i within =
    let at : (j : ℕ) → j < 16 → slice_index (take 16 (drop i (take 40 s))) j ≡ slice_index s (i + j) = λ j less. byte_there s 40 i 16 j less (omega arith) in
    let b0 : slice_index (take 16 (drop i (take 40 s))) 0 ≡ slice_index s i = at 0 (omega arith) ∙ ap (slice_index s) (omega arith) in
    let b1 = at 1 (omega arith) in
    let b2 = at 2 (omega arith) in
    let b3 = at 3 (omega arith) in
    let b4 = at 4 (omega arith) in
    let b5 : slice_index (take 16 (drop i (take 40 s))) 5 ≡ slice_index s (i + 4 + 1) = at 5 (omega arith) ∙ ap (slice_index s) (omega arith) in
    let b6 : slice_index (take 16 (drop i (take 40 s))) 6 ≡ slice_index s (i + 4 + 2) = at 6 (omega arith) ∙ ap (slice_index s) (omega arith) in
    let b7 : slice_index (take 16 (drop i (take 40 s))) 7 ≡ slice_index s (i + 4 + 3) = at 7 (omega arith) ∙ ap (slice_index s) (omega arith) in
    let b8 = at 8 (omega arith) in
    let b9 : slice_index (take 16 (drop i (take 40 s))) 9 ≡ slice_index s (i + 8 + 1) = at 9 (omega arith) ∙ ap (slice_index s) (omega arith) in
    let b10 : slice_index (take 16 (drop i (take 40 s))) 10 ≡ slice_index s (i + 8 + 2) = at 10 (omega arith) ∙ ap (slice_index s) (omega arith) in
    let b11 : slice_index (take 16 (drop i (take 40 s))) 11 ≡ slice_index s (i + 8 + 3) = at 11 (omega arith) ∙ ap (slice_index s) (omega arith) in
    let b12 = at 12 (omega arith) in
    let b13 : slice_index (take 16 (drop i (take 40 s))) 13 ≡ slice_index s (i + 12 + 1) = at 13 (omega arith) ∙ ap (slice_index s) (omega arith) in
    let b14 : slice_index (take 16 (drop i (take 40 s))) 14 ≡ slice_index s (i + 12 + 2) = at 14 (omega arith) ∙ ap (slice_index s) (omega arith) in
    let b15 : slice_index (take 16 (drop i (take 40 s))) 15 ≡ slice_index s (i + 12 + 3) = at 15 (omega arith) ∙ ap (slice_index s) (omega arith) in
    omega (arith, b0, b1, b2, b3, b4, b5, b6, b7, b8, b9, b10, b11, b12, b13, b14, b15)

pub source6 : (s : List ℕ) (n : Network) → (dissected s).version ≡ 6 → has_source n (dissected s) ≡ ipv6_lies_in n (address_at s 8)
source6 s n six =
    let is = starts6 s six in
    ap (has_source n) (at6 s is.none is.other) ∙ ap (ipv6_lies_in n) (address_there s 8 (omega arith))

pub destination6 : (s : List ℕ) (n : Network) → (dissected s).version ≡ 6 → has_destination n (dissected s) ≡ ipv6_lies_in n (address_at s 24)
destination6 s n six =
    let is = starts6 s six in
    ap (has_destination n) (at6 s is.none is.other) ∙ ap (ipv6_lies_in n) (address_there s 24 (omega arith))

-- which version the bytes have, by the tests of `base_end`
by_tests : (s b4 b6 : List ℕ) (none four small cut six cut6 : Bool) (e1 e2 e3 e4 e5 : End) → (option_map_or (without_base s) (cond none (Some e1) (cond four (cond small (Some e2) (cond cut (Some e3) None)) (cond six (cond cut6 (Some e4) None) (Some e5)))) (cond four (ipv4_dissected b4 s) (ipv6_dissected b6 s))).version ≡ cond none 0 (cond four (cond small 0 (cond cut 0 4)) (cond six (cond cut6 0 6) 0))
by_tests s b4 b6 true four small cut six cut6 e1 e2 e3 e4 e5 = refl
by_tests s b4 b6 false true true cut six cut6 e1 e2 e3 e4 e5 = refl
by_tests s b4 b6 false true false true six cut6 e1 e2 e3 e4 e5 = refl
by_tests s b4 b6 false true false false six cut6 e1 e2 e3 e4 e5 = refl
by_tests s b4 b6 false false small cut true true e1 e2 e3 e4 e5 = refl
by_tests s b4 b6 false false small cut true false e1 e2 e3 e4 e5 = refl
by_tests s b4 b6 false false small cut false cut6 e1 e2 e3 e4 e5 = refl

pub below_or_not : (a b : ℕ) → nat_lt a b ≡ not (nat_le b a)
below_or_not a b = elim (cases_lt a b) [
  | inl less ↦ lt-ltb a b less ∙ sym (ap not (lt-leb b a less))
  | inr above ↦ le-ltb a b above ∙ sym (ap not (le-leb b a above))
]

zero_or_some : (n : ℕ) → (n == 0) ≡ not (nat_le 1 n)
zero_or_some zero = refl
zero_or_some (suc n) =
    let other : suc n ≢ 0 = omega arith in
    let some : 1 ≤ suc n = omega arith in
    ne_eqb (suc n) 0 other ∙ sym (ap not (le-leb 1 (suc n) some))

five_or_twenty : (n : ℕ) → nat_lt n 5 ≡ not (nat_le 20 (4 * n))
five_or_twenty n = elim (cases_lt n 5) [
  | inl less ↦ let few : 4 * n < 20 = omega arith in lt-ltb n 5 less ∙ sym (ap not (lt-leb 20 (4 * n) few))
  | inr above ↦ let many : 20 ≤ 4 * n = omega arith in le-ltb n 5 above ∙ sym (ap not (le-leb 20 (4 * n) many))
]

abbrev by_faults : Bool → Bool → Bool → Bool → Bool → Bool → ℕ
by_faults none four small cut six cut6 = cond none 0 (cond four (cond small 0 (cond cut 0 4)) (cond six (cond cut6 0 6) 0))

abbrev pub by_bytes : Bool → Bool → Bool → Bool → Bool → Bool → ℕ
by_bytes some four long whole six all6 = cond some (cond four (cond long (cond whole 4 0) 0) (cond six (cond all6 6 0) 0)) 0

turned : (some four long whole six all6 : Bool) → by_faults (not some) four (not long) (not whole) six (not all6) ≡ by_bytes some four long whole six all6
turned false four long whole six all6 = refl
turned true true false whole six all6 = refl
turned true true true false six all6 = refl
turned true true true true six all6 = refl
turned true false long whole false all6 = refl
turned true false long whole true false = refl
turned true false long whole true true = refl

pub version_by : (s : List ℕ) → (dissected s).version ≡ by_bytes (nat_le 1 (length s)) (slice_index s 0 / 2 ^ 4 == 4) (nat_le 20 (4 * (slice_index s 0 % 16))) (nat_le (4 * (slice_index s 0 % 16)) (length s)) (slice_index s 0 / 2 ^ 4 == 6) (nat_le 40 (length s))
unfolding dissected
version_by s =
    let n = length s in
    let four : Bool = version s == 4 in
    let six : Bool = version s == 6 in
    by_tests s (take (ipv4_header_len s) s) (take 40 s) (n == 0) four (nat_lt (ihl s) 5) (nat_lt n (ipv4_header_len s)) six (nat_lt n 40) _ _ _ _ _
    ∙ ap (λ t. by_faults t four (nat_lt (ihl s) 5) (nat_lt n (ipv4_header_len s)) six (nat_lt n 40)) (zero_or_some n)
    ∙ ap (λ t. by_faults (not (nat_le 1 n)) four t (nat_lt n (ipv4_header_len s)) six (nat_lt n 40)) (five_or_twenty (ihl s))
    ∙ ap (λ t. by_faults (not (nat_le 1 n)) four (not (nat_le 20 (4 * ihl s))) t six (nat_lt n 40)) (below_or_not n (ipv4_header_len s))
    ∙ ap (λ t. by_faults (not (nat_le 1 n)) four (not (nat_le 20 (4 * ihl s))) (not (nat_le (ipv4_header_len s) n)) six t) (below_or_not n 40)
    ∙ turned (nat_le 1 n) four (nat_le 20 (4 * ihl s)) (nat_le (ipv4_header_len s) n) six (nat_le 40 n)

-- there are packets of two versions, and bytes without a base header
abbrev pub OneOf : ℕ → Type 0
OneOf n = (n ≡ 4) ⊎ ((n ≡ 6) ⊎ (n ≡ 0))

one_of : (some four long whole six all6 : Bool) → OneOf (by_bytes some four long whole six all6)
one_of false four long whole six all6 = inr (inr refl)
one_of true true false whole six all6 = inr (inr refl)
one_of true true true false six all6 = inr (inr refl)
one_of true true true true six all6 = inl refl
one_of true false long whole false all6 = inr (inr refl)
one_of true false long whole true false = inr (inr refl)
one_of true false long whole true true = inr (inl refl)

pub versions : (s : List ℕ) → OneOf (dissected s).version
versions s = subst OneOf (sym (version_by s)) (one_of (nat_le 1 (length s)) (slice_index s 0 / 2 ^ 4 == 4) (nat_le 20 (4 * (slice_index s 0 % 16))) (nat_le (4 * (slice_index s 0 % 16)) (length s)) (slice_index s 0 / 2 ^ 4 == 6) (nat_le 40 (length s)))
