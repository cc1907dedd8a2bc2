-- The answer to `rewriteall6 N HEX`: the number of runs of the longest chain from number N at the start of the bytes,
-- each of which fits six places (RFC 8200, section 4.1), and the chain written with its reserved bits set to zero.
use Rattle.std.specs.Prelude.{ℕ, List, ◌++◌, length, codes}
use Rattle.ip_spec.specs.Parse.{rest_after}
use Rattle.std.specs.Fmt.{decimal}
use Rattle.ip_ext_chains.specs.Chain.{leads_to, bytes_of}
use Rattle.ip_ext_chains.specs.Encoding.{cleared_chain}
use Rattle.ip_ext_slices.specs.ChainFault.{chain_fault}
use Rattle.ip_ext_slices.specs.Longest.{longest_chain}
use Rattle.ip_ext_chains.specs.RunsOf.{runs_of}
use Rattle.ipexts_tool.specs.Parts.{next_line, written_line, chain_end_line}

abbrev pub rewriteall6_answer : ℕ → List ℕ → List ℕ
rewriteall6_answer number bytes =
    codes "runs " ++ decimal (length (runs_of number bytes)) ++ codes " "
    ++ next_line (leads_to number (longest_chain number bytes)) (length (rest_after (longest_chain number bytes) bytes))
    ++ written_line (bytes_of (cleared_chain (longest_chain number bytes)))
    ++ chain_end_line (chain_fault number bytes)
