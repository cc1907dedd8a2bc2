-- The answer to `exts6 N HEX`: the longest chain of IPv6 extension headers from number N at the start of the bytes
-- (RFC 8200, section 4), and what follows it.
use Rattle.std.specs.Prelude.{ℕ, List, ◌++◌, length}
use Rattle.ip_spec.specs.Parse.{rest_after}
use Rattle.ip_ext_chains.specs.Chain.{leads_to}
use Rattle.ip_ext_slices.specs.ChainFault.{chain_fault}
use Rattle.ip_ext_slices.specs.Longest.{longest_chain}
use Rattle.ipexts_tool.specs.Parts.{header_lines, next_line, chain_end_line}

abbrev pub exts6_answer : ℕ → List ℕ → List ℕ
exts6_answer number bytes =
    header_lines 0 (longest_chain number bytes)
    ++ next_line (leads_to number (longest_chain number bytes)) (length (rest_after (longest_chain number bytes) bytes))
    ++ chain_end_line (chain_fault number bytes)
