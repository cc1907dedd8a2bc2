-- Headers written from their place in other bytes.
use Rattle.std.specs.Prelude.{◌≡◌, ◌≢◌, ℕ, ◌+◌, ◌≤◌, List, [], ◌∷◌, ◌++◌, length, take, drop, map, slice_set, ⊤}
use Rattle.std.specs.List.{flat_map, AllByRecursion}
use Rattle.ip_spec.specs.Numbers.{HOP_BY_HOP}
use Rattle.ip_spec.specs.Header.{IsHeader}
use Rattle.ip_spec.specs.Chain.{ExtHeader}
use Rattle.ip_spec.specs.Encoding.{cleared_header}
use Rattle.ip_spans.specs.declared.header_span.HeaderSpan.{HeaderSpan}

-- the bytes of s that a span refers to
abbrev pub bytes_at : List ℕ → HeaderSpan → List ℕ
bytes_at s x = take x.len (drop x.offset s)

-- They lie within s and are exactly one header of the span's number.
pub record LiesIn (s : List ℕ) (x : HeaderSpan) : Type 0 where
  pub within : x.offset + x.len ≤ length s
  pub header : IsHeader x.number (bytes_at s x)

-- This holds for each span.
abbrev pub AllLieIn : List ℕ → List HeaderSpan → Type 0
AllLieIn s xs = AllByRecursion (LiesIn s) xs

-- The written form of a header of number n with bytes b: its reserved bits are zero, and its next header is m.
abbrev pub written_header : ℕ → ℕ → List ℕ → List ℕ
written_header n m b = slice_set (cleared_header n b) 0 m

-- the written form of the headers that spans refer to, one after the other
abbrev pub written_spans : List ℕ → List HeaderSpan → List ℕ
written_spans s xs = flat_map (λ x. written_header x.number x.next_header (bytes_at s x)) xs

-- the array `ys` with `xs`, which fits, at its front, and the rest unchanged
abbrev pub begun_with : List ℕ → List ℕ → List ℕ
begun_with xs ys = xs ++ drop (length xs) ys

-- the written headers
abbrev pub written_chain : List ℕ → List HeaderSpan → List ExtHeader
written_chain s xs = map (λ x. record { number = x.number; bytes = written_header x.number x.next_header (bytes_at s x) }) xs

-- The first span has number n, and each later one the next header of the one before it.
abbrev pub AreSpansLinked : ℕ → List HeaderSpan → Type 0
AreSpansLinked n [] = ⊤
AreSpansLinked n (x ∷ xs) = (x.number ≡ n) × AreSpansLinked x.next_header xs

-- Hop-by-hop options are only first (RFC 8200, section 4.1).
pub record AreChainSpans (n : ℕ) (xs : List HeaderSpan) : Type 0 where
  pub links : AreSpansLinked n xs
  pub zero_only_first : AllByRecursion (λ x. x.number ≢ HOP_BY_HOP) (drop 1 xs)
