-- What a pass over a chain finds.
use Rattle.std.specs.Prelude.{◌≡◌, ℕ, List, length, ◌-◌, ◌==◌, ◌&&◌, not, is_some}
use Rattle.ip_spec.specs.Chain.{ExtHeader, leads_to}
use Rattle.ip_spec.specs.Parse.{rest_after}
use Rattle.ip_ext_slices.specs.ChainFault.{slice_fault}
use Rattle.ip_dissect.specs.Later.{chain_to_later}
use Rattle.ip_dissect.specs.LaterDemand.{has_later}
use Rattle.ip_dissect.specs.Fragment.{ipv6_fragment}
use Rattle.ip_dissect.specs.declared.walk.Found.{Found}
use Rattle.ip_dissect.specs.declared.walk.Passed.{Passed}

-- the fragment, whether a header is a later fragment's, and the number of headers
abbrev pub found_in : List ExtHeader → Found
found_in c = record {
  fragment = ipv6_fragment c;
  later = has_later c;
  count = length c;
}

-- The pass p went over the chain from n at the start of s, and there is an error unless it stopped at a later fragment's
-- header or at a number that is no extension header's.
pub record HasPassed (n : ℕ) (s : List ℕ) (p : Passed) : Type 0 where
  pub number : p.number.0 ≡ leads_to n (chain_to_later n s)
  pub rest : p.rest.now ≡ rest_after (chain_to_later n s) s
  pub found : p.found ≡ found_in (chain_to_later n s)
  pub error : (k : ℕ) → p.has_error ≡ (not p.found.later && is_some (slice_fault k (length s - length p.rest.now == 0) p.number.0 p.rest.now))
