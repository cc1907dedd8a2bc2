-- A chain parsed, in plain fields for C callers.
use Rattle.std.specs.Prelude.{ℕ, List, length, Bool, true, false}
use Rattle.ip_spec.specs.Chain.{bytes_of, leads_to, has_fragmenting}
use Rattle.ip_ext_slices.specs.Longest.{longest_chain}
use Rattle.ip_ext_slices.specs.ChainFault.{chain_fault}
use Rattle.ip_ext_slices.specs.Ipv4Longest.{longest_ipv4_chain}
use Rattle.ip_ext_slices.specs.Ipv4Fault.{ipv4_chain_fault}
use Rattle.ip_spans.specs.FaultFields.{chain_fault_fields, ipv4_chain_fault_fields}
use Rattle.ip_spans.specs.declared.chain_parts.ChainParts.{ChainParts}

abbrev pub flag : Bool → ℕ
flag true = 1
flag false = 0

-- the longest chain from number n at the start of bytes s
abbrev pub chain_parts : ℕ → List ℕ → ChainParts
chain_parts n s = record {
  headers = length (longest_chain n s);
  len = length (bytes_of (longest_chain n s));
  fault = chain_fault_fields (length (bytes_of (longest_chain n s))) (chain_fault n s);
  next_header = leads_to n (longest_chain n s);
  fragmented = flag (has_fragmenting (longest_chain n s));
}

-- the longest IPv4 chain, of at most one authentication header
abbrev pub ipv4_chain_parts : ℕ → List ℕ → ChainParts
ipv4_chain_parts n s = record {
  headers = length (longest_ipv4_chain n s);
  len = length (bytes_of (longest_ipv4_chain n s));
  fault = ipv4_chain_fault_fields (length (bytes_of (longest_ipv4_chain n s))) (ipv4_chain_fault n s);
  next_header = leads_to n (longest_ipv4_chain n s);
  fragmented = 0;
}
