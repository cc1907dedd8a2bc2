use Rattle.ip_spec.proofs.Common.{◌≡◌, ◌+◌, length, drop}
use Rattle.ip_spans.specs.Written.{AllLieIn, written_spans}
use Rattle.ip_spans.proofs.writes.written_len.Given as goal

-- the lengths of the headers so far and of the remaining ones add up to that of all, and all lie in the bytes if the
-- remaining ones do
abbrev pub invariant-headers : goal.invariant-headers
invariant-headers l = record {
  sum : l.len + length (written_spans l.bytes (drop l.span-index l.spans)) ≡ length (written_spans l.bytes l.spans);
  all : AllLieIn l.bytes (drop l.span-index l.spans) → AllLieIn l.bytes l.spans;
  left : AllLieIn l.bytes l.spans → AllLieIn l.bytes (drop l.span-index l.spans);
}
