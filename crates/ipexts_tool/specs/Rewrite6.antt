-- The answer to `rewrite6 N HEX`: the longest chain from number N at the start of the bytes that fits six places (RFC
-- 8200, section 4.1), written with its reserved bits set to zero.
use Rattle.std.specs.Prelude.{ℕ, List, ◌++◌, length}
use Rattle.ip_spec.specs.Parse.{rest_after}
use Rattle.ip_ext_chains.specs.Chain.{leads_to, bytes_of}
use Rattle.ip_ext_chains.specs.Encoding.{cleared_chain}
use Rattle.ip_ext_chains.specs.Fitting.{fitting_chain, fitting_fault}
use Rattle.ipexts_tool.specs.Parts.{next_line, written_line, chain_end_line}

abbrev pub rewrite6_answer : ℕ → List ℕ → List ℕ
rewrite6_answer number bytes =
    next_line (leads_to number (fitting_chain number bytes)) (length (rest_after (fitting_chain number bytes) bytes))
    ++ written_line (bytes_of (cleared_chain (fitting_chain number bytes)))
    ++ chain_end_line (fitting_fault number bytes)
