-- The spans of headers, stored one by one.
use Rattle.ip_spec.proofs.Common.{◌≡◌, ℕ, ◌+◌, ◌<◌, ◌≤◌, List, [], ◌∷◌, ◌++◌, length, refl, sym, ap, ◌∙◌, arith, Option, common_steps, ExtHeader, bytes_of}
use Rattle.std.proofs.Common.{set, add-zero}
use Rattle.ip_spans.specs.HeaderSpan.{header_span, spans_from, filled}
use Rattle.ip_dissect.specs.Dissection.{dissected}
use Rattle.ip_dissect.specs.Summary.{summary_of, IsBaseOf}
use Rattle.ip_dissect.specs.declared.dissection.BaseHeader.{BaseHeader}
use Rattle.ip_dissect.proofs.PacketLemmas.{summary_fits}
use Rattle.ip_spans.specs.DissectionParts.{dissection_parts}
use Rattle.ip_spans.specs.declared.header_span.HeaderSpan.{HeaderSpan}
use Rattle.ip_spans.specs.declared.dissection_parts.DissectionParts.{DissectionParts}

-- one more
spans_more : (k : ℕ) (c : List ExtHeader) (h : ExtHeader) → spans_from k (c ++ h ∷ []) ≡ spans_from k c ++ header_span (k + length (bytes_of c)) h ∷ []
spans_more k [] h = ap (λ j. header_span j h ∷ []) (sym (add-zero k))
spans_more k (g ∷ c) h = grind (arith, common_steps, spans_more (k + length g.bytes) c h)

spans_len : (k : ℕ) (c : List ExtHeader) → length (spans_from k c) ≡ length c
spans_len k [] = refl
spans_len k (g ∷ c) = grind (arith, common_steps, spans_len (k + length g.bytes) c)

module _ {X : Type 0} (x : X) where
  put_next : (xs ys : List X) → length xs < length ys → set (filled xs ys) (length xs) x ≡ filled (xs ++ x ∷ []) ys
  put_next [] [] less = grind (arith, common_steps)
  put_next [] (y ∷ ys) less = grind (arith, common_steps)
  put_next (a ∷ xs) [] less = grind (arith, common_steps)
  put_next (a ∷ xs) (y ∷ ys) less = grind (arith, common_steps, put_next xs ys)

  no_room : (xs ys : List X) → length ys ≤ length xs → filled xs ys ≡ filled (xs ++ x ∷ []) ys
  no_room xs ys full = grind (arith, common_steps)

  filled_len : (xs ys : List X) → length (filled xs ys) ≡ length ys
  filled_len xs ys = grind (arith, common_steps)

-- The spans `xs` are those of the headers `c`, in the array `old`, and one more header is there.
module _ (old xs : List HeaderSpan) (k i j : ℕ) (c : List ExtHeader) (h : ExtHeader) (before : xs ≡ filled (spans_from k c) old) (index : i ≡ length c) (offset : j ≡ k + length (bytes_of c)) where
  more : filled (spans_from k c ++ header_span j h ∷ []) old ≡ filled (spans_from k (c ++ h ∷ [])) old
  more = ap (λ n. filled (spans_from k c ++ header_span n h ∷ []) old) offset ∙ ap (λ ys. filled ys old) (sym (spans_more k c h))

  at : i ≡ length (spans_from k c)
  at = index ∙ sym (spans_len k c)

  len : length xs ≡ length old
  len = ap length before ∙ filled_len (header_span j h) (spans_from k c) old

  pub span_put : (span : HeaderSpan) → span ≡ header_span j h → i < length xs → set xs i span ≡ filled (spans_from k (c ++ h ∷ [])) old
  span_put span is less =
      ap (set xs i) is ∙ ap (λ ys. set ys i (header_span j h)) before ∙ ap (λ n. set (filled (spans_from k c) old) n (header_span j h)) at
      ∙ put_next (header_span j h) (spans_from k c) old (omega (arith, less, at, len)) ∙ more

  pub span_left : length xs ≤ i → xs ≡ filled (spans_from k (c ++ h ∷ [])) old
  span_left full = before ∙ no_room (header_span j h) (spans_from k c) old (omega (arith, full, at, len)) ∙ more

pub dissection_fits : (s : List ℕ) (b : Option BaseHeader) (x : DissectionParts) → IsBaseOf s b → x ≡ dissection_parts (dissected s) → x.payload_offset + x.payload_len + x.padding ≡ length s
dissection_fits s b x base is = ap (λ (y : DissectionParts). y.payload_offset + y.payload_len + y.padding) is ∙ summary_fits s b (summary_of (dissected s)) base refl
