use Rattle.ip_spec.proofs.Common.{◌≡◌, ◌++◌, ◌+◌, length, map, drop, string_bytes, bytes_of}
use Rattle.check_reference.specs.PlainHeader.{plain_header_of}
use Rattle.ipexts_tool.specs.Parts.{header_lines}
use Rattle.check_reference.proofs.answers.push_headers.Given as goal

-- the lines so far and the remaining ones are all lines, and likewise the bytes
abbrev pub invariant-loop-header : goal.invariant-loop-header
invariant-loop-header l = record {
  lines : string_bytes l.text ++ header_lines l.offset (map plain_header_of (drop l.header-index l.headers))
      ≡ string_bytes l.fn.text ++ header_lines l.start (map plain_header_of l.headers);
  after : l.offset + length (bytes_of (map plain_header_of (drop l.header-index l.headers)))
      ≡ l.start + length (bytes_of (map plain_header_of l.headers));
}
