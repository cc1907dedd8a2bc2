-- Reading IPv4 extension headers returns the value that parsing them does.
use Rattle.ip_spec.proofs.Common.{◌≡◌, ◌≢◌, ℕ, List, ◌++◌, rules, Some, None, ne_eqb, drop-append_seam, IsAuthHeader, AuthFields, auth_fields}
use Rattle.ip_ext_headers.specs.AuthReading.{auth_slice_fault}
use Rattle.ip_ext_headers.proofs.FaultLemmas.{auth_at_header}
use Rattle.ip_spec.proofs.PrefixLemmas.{prefix_of-append, prefix_first}
use Rattle.ip_ext_slices.specs.Ipv4Fault.{ipv4_chain_fault}
use Rattle.ip_ext_chains.specs.Ipv4Reading.{Answers}
use Rattle.ip_ext_slices.proofs.Ipv4Lemmas.{ipv4_longest, by_one, one_longest, none_longest}

-- the number is not 51: no header
pub none_answers : (n : ℕ) → n ≢ 51 → (rest : List ℕ) → Answers n None n rest rest
none_answers n other rest = search (rules, none_longest, ne_eqb)

-- the number is 51, and these bytes are the header
pub one_answers : (n : ℕ) (b : List ℕ) (v : AuthFields) (m : ℕ) → n ≡ 51 → IsAuthHeader b → auth_fields b ≡ v → m ≡ v.next_header → (rest : List ℕ) → Answers n (Some v) m (b ++ rest) rest
one_answers n b v m e header fields number rest = search (rules, one_longest n (b ++ rest) b, prefix_of-append, drop-append_seam)

-- if the number is 51, the header's error is the error of the headers
pub fault_same : (n : ℕ) → n ≡ 51 → auth_slice_fault ≡ ipv4_chain_fault n
fault_same n e = search (rules, ipv4_longest, by_one, auth_at_header, prefix_first)
