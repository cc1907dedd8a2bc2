use Rattle.ip_spec.proofs.Common.{◌≡◌, ◌++◌, ◌+◌, length, string_bytes, bytes_of}
use Rattle.ip_ext_slices.specs.Ipv6ExtensionsSlice.{bytes, headers_in}
use Rattle.ip_ext_slices.specs.Ipv6ExtensionSliceIter.{headers_left}
use Rattle.ipexts_tool.specs.Parts.{header_lines}
use Rattle.ipexts_tool.proofs.dissect.push_ipv6_headers.Given as goal

-- the lines so far and those of the remaining headers are all lines
abbrev pub invariant-loop-header : goal.invariant-loop-header
invariant-loop-header g l = record {
  can : (goal.iterator-loop-header g).can_next l.header-iterator;
  ends : (goal.iterator-loop-header g).is_finite l.header-iterator;
  after : l.at + length (bytes_of (headers_left l.header-iterator)) ≡ l.fn.offset + length (bytes l.fn.headers);
  lines : string_bytes l.text ++ header_lines l.at (headers_left l.header-iterator)
      ≡ string_bytes l.fn.text ++ header_lines l.fn.offset (headers_in l.fn.headers);
}
