-- The offsets, lengths and numbers of extension headers (RFC 8200, section 4), in plain fields for C callers.
use Rattle.std.specs.Prelude.{ℕ, ◌+◌, List, [], ◌∷◌, ◌++◌, length, take, drop}
use Rattle.ip_spec.specs.Chain.{ExtHeader}
use Rattle.ip_spec.specs.Fields.{next_header}
use Rattle.ip_spans.specs.declared.header_span.HeaderSpan.{HeaderSpan}

-- the span of header h at offset k
abbrev pub header_span : ℕ → ExtHeader → HeaderSpan
header_span k h = record {
  offset = k;
  len = length h.bytes;
  number = h.number;
  next_header = next_header h.bytes;
}

-- the spans of headers that follow one another, the first at offset k
abbrev pub spans_from : ℕ → List ExtHeader → List HeaderSpan
spans_from k [] = []
spans_from k (h ∷ c) = header_span k h ∷ spans_from (k + length h.bytes) c

-- the array `ys` with as many of `xs` as fit at its front, and the rest unchanged
abbrev pub filled : {X : Type 0} → List X → List X → List X
filled xs ys = take (length ys) xs ++ drop (length xs) ys
