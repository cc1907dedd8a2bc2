use Rattle.ip_spec.proofs.Common.{◌≡◌, ◌++◌, ◌+◌, ◌≤◌, length, string_bytes}
use Rattle.ip_ext_chains.specs.Chain.{bytes_of}
use Rattle.ip_ext_slices.specs.Longest.{longest_chain}
use Rattle.ip_ext_slices.specs.Ipv6ExtensionsCursor.{start, input, headers_left}
use Rattle.ipexts_tool.specs.Parts.{header_lines}
use Rattle.ipexts_tool.proofs.exts6.push_exts6.Given as goal

-- the lines so far and those of the remaining headers are all lines, and the remaining headers lie within the bytes
abbrev pub invariant-headers : goal.invariant-headers
invariant-headers g l = record {
  start : start l.headers ≡ l.fn.number.0;
  input : input l.headers ≡ l.fn.bytes;
  lines : string_bytes l.text ++ header_lines l.offset (headers_left l.headers)
      ≡ string_bytes l.fn.text ++ header_lines 0 (longest_chain l.fn.number.0 l.fn.bytes);
  within : l.offset + length (bytes_of (headers_left l.headers)) ≤ length l.fn.bytes;
}
