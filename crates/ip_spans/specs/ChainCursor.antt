-- A step along a chain (RFC 8200, section 4), in plain fields for C callers.
use Rattle.std.specs.Prelude.{◌≡◌, ℕ, ◌+◌, ◌==◌, List, length, drop}
use Rattle.ip_spec.specs.Chain.{ExtHeader, IsNext}
use Rattle.ip_spec.specs.Fields.{next_header}
use Rattle.ip_spans.specs.HeaderSpan.{header_span}
use Rattle.ip_spans.specs.declared.header_span.HeaderSpan.{HeaderSpan}
use Rattle.ip_spans.specs.declared.chain_cursor.ChainCursor.{ChainCursor}

-- Bytes s have a header at the first cursor's position, this is its span, and the second cursor is after it.
pub record IsHeaderSpan (at after : ChainCursor) (s : List ℕ) (span : HeaderSpan) : Type 0 where
  pub header : ExtHeader
  pub next : IsNext (at.offset == 0) at.number (drop at.offset s) header
  pub fields : span ≡ header_span at.offset header
  pub offset : after.offset ≡ at.offset + length header.bytes
  pub number : after.number ≡ next_header header.bytes
