-- The answer to `exts4 N HEX`: the longest chain of IPv4 extension headers from number N at the start of the bytes,
-- at most one authentication header (RFC 4302, section 2), and what follows it.
use Rattle.std.specs.Prelude.{ℕ, List, ◌++◌, length}
use Rattle.ip_spec.specs.Parse.{rest_after}
use Rattle.ip_ext_chains.specs.Chain.{leads_to}
use Rattle.ip_ext_slices.specs.Ipv4Fault.{ipv4_chain_fault}
use Rattle.ip_ext_slices.specs.Ipv4Longest.{longest_ipv4_chain}
use Rattle.ipexts_tool.specs.Parts.{header_lines, next_line, ipv4_end_line}

abbrev pub exts4_answer : ℕ → List ℕ → List ℕ
exts4_answer number bytes =
    header_lines 0 (longest_ipv4_chain number bytes)
    ++ next_line (leads_to number (longest_ipv4_chain number bytes)) (length (rest_after (longest_ipv4_chain number bytes) bytes))
    ++ ipv4_end_line (ipv4_chain_fault number bytes)
