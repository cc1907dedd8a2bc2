-- The spans of a chain, and the chain that is written from them.
use Rattle.ip_spec.proofs.Common.{common_steps, ◌≡◌, ◌≢◌, refl, sym, ap, ◌∙◌, ℕ, ◌+◌, ◌≤◌, List, [], ◌∷◌, length, take, drop, arith, subst, drop-drop, length-drop, AllByRecursion, HOP_BY_HOP, ExtHeader, bytes_of, next_header, IsHeader, IsPrefix, IsChain, AreLinked}
use Rattle.ip_spec.proofs.HeaderLemmas.{header-least}
use Rattle.ip_spec.proofs.PrefixLemmas.{prefix-length, prefix_first, prefix_second}
use Rattle.ip_ext_slices.specs.Longest.{longest_chain}
use Rattle.ip_ext_slices.proofs.LongestLemmas.{longest_chain-longest}
use Rattle.ip_spans.specs.HeaderSpan.{header_span, spans_from, filled}
use Rattle.ip_spans.specs.Written.{LiesIn, AllLieIn, AreSpansLinked, AreChainSpans, written_spans, written_chain}
use Rattle.ip_spans.specs.declared.header_span.HeaderSpan.{HeaderSpan}
use Rattle.ip_spans.proofs.WrittenLemmas.{written_len}

-- Where lists are stored, they are at the front of the array.
first_filled : {X : Type 0} → (xs ys zs : List X) (n : ℕ) → zs ≡ filled xs ys → n ≡ length xs → n ≤ length ys → take n zs ≡ xs
first_filled xs ys zs n stored all room = grind (arith, common_steps)

spans_len : (k : ℕ) (c : List ExtHeader) → length (spans_from k c) ≡ length c
spans_len k [] = refl
spans_len k (h ∷ c) = grind (arith, common_steps, spans_len (k + length h.bytes) c)

-- the span of a header that starts the bytes from offset k on
span_lies : (k : ℕ) (s : List ℕ) (h : ExtHeader) → IsHeader h.number h.bytes → IsPrefix h.bytes (drop k s) → LiesIn s (header_span k h)
span_lies k s h header prefix =
    let least = header-least h.number h.bytes header in
    let len = prefix-length h.bytes (drop k s) prefix in record {
      within = omega (arith, least, len, length-drop k s);
      header = subst (IsHeader h.number) (sym prefix) header;
    }

spans_lie : (k : ℕ) (s : List ℕ) (c : List ExtHeader) → AllByRecursion (λ h. IsHeader h.number h.bytes) c → IsPrefix (bytes_of c) (drop k s) → AllLieIn s (spans_from k c)
spans_lie k s [] headers prefix = headers
spans_lie k s (h ∷ c) headers prefix =
    let rest : IsPrefix (bytes_of c) (drop (length h.bytes) (drop k s)) = prefix_second h.bytes (bytes_of c) (drop k s) prefix in (
      span_lies k s h headers.0 (prefix_first h.bytes (bytes_of c) (drop k s) prefix),
      spans_lie (k + length h.bytes) s c headers.1 (subst (IsPrefix (bytes_of c)) (drop-drop (length h.bytes) k s) rest),
    )

-- They have the links of the headers.
spans_linked : (n k : ℕ) (c : List ExtHeader) → AreLinked n c → AreSpansLinked n (spans_from k c)
spans_linked n k [] links = links
spans_linked n k (h ∷ c) links = (links.0, spans_linked (next_header h.bytes) (k + length h.bytes) c links.1)

spans_not_zero : (k : ℕ) (c : List ExtHeader) → AllByRecursion (λ h. h.number ≢ HOP_BY_HOP) c → AllByRecursion (λ x. x.number ≢ HOP_BY_HOP) (spans_from k c)
spans_not_zero k [] none = none
spans_not_zero k (h ∷ c) none = (none.0, spans_not_zero (k + length h.bytes) c none.1)

only_first : (k : ℕ) (c : List ExtHeader) → AllByRecursion (λ h. h.number ≢ HOP_BY_HOP) (drop 1 c) → AllByRecursion (λ x. x.number ≢ HOP_BY_HOP) (drop 1 (spans_from k c))
only_first k [] none = none
only_first k (h ∷ c) none = spans_not_zero (k + length h.bytes) c none

spans_of_chain : (n k : ℕ) (c : List ExtHeader) → IsChain n c → AreChainSpans n (spans_from k c)
spans_of_chain n k c chain = record {
  links = spans_linked n k c chain.links;
  zero_only_first = only_first k c chain.zero_only_first;
}

-- What is written has the bytes of the chain that is written,
pub written_bytes : (s : List ℕ) (xs : List HeaderSpan) → bytes_of (written_chain s xs) ≡ written_spans s xs
written_bytes s [] = refl
written_bytes s (x ∷ xs) = grind (arith, common_steps, written_bytes s xs)

-- and the length of the chain that was there.
written_spans_len : (k : ℕ) (s : List ℕ) (c : List ExtHeader) → AllLieIn s (spans_from k c) → length (written_spans s (spans_from k c)) ≡ length (bytes_of c)
written_spans_len k s [] lie = refl
written_spans_len k s (h ∷ c) lie =
    grind (arith, common_steps, written_len s (header_span k h) lie.0, written_spans_len (k + length h.bytes) s c lie.1)

-- The first spans of an array are those of the longest chain at the start of s.
module _ (n : ℕ) (s : List ℕ) (old xs : List HeaderSpan) (count : ℕ) (stored : xs ≡ filled (spans_from 0 (longest_chain n s)) old) (counted : count ≡ length (longest_chain n s)) (room : count ≤ length old) where
  first_spans : spans_from 0 (longest_chain n s) ≡ take count xs
  first_spans = sym (first_filled (spans_from 0 (longest_chain n s)) old xs count stored (counted ∙ sym (spans_len 0 (longest_chain n s))) room)

  lie : AllLieIn s (spans_from 0 (longest_chain n s))
  lie = spans_lie 0 s (longest_chain n s) (longest_chain-longest n s).has.chain.headers (longest_chain-longest n s).has.prefix

  pub first_lie : AllLieIn s (take count xs)
  first_lie = subst (AllLieIn s) first_spans lie

  pub first_chain : AreChainSpans n (take count xs)
  first_chain = subst (AreChainSpans n) first_spans (spans_of_chain n 0 (longest_chain n s) (longest_chain-longest n s).has.chain)

  pub first_len : length (written_spans s (take count xs)) ≡ length (bytes_of (longest_chain n s))
  first_len = ap (λ ys. length (written_spans s ys)) (sym first_spans) ∙ written_spans_len 0 s (longest_chain n s) lie

  -- they aren't longer than s
  pub first_within : length (written_spans s (take count xs)) ≤ length s
  first_within = omega (arith, first_len, prefix-length (bytes_of (longest_chain n s)) s (longest_chain-longest n s).has.prefix)
