-- The parts of an IPv4 packet.
use Rattle.ip_spec.proofs.Common.{rules, ℕ, List, IsPrefixChain}
use Rattle.ip_spec.proofs.StepLemmas.{no_header_prefix}
use Rattle.ip_base.specs.Ipv4Header.{protocol}
use Rattle.ip_ext_slices.proofs.Ipv4Lemmas.{ipv4_longest}
use Rattle.ip_dissect.specs.Extent.{ipv4_chain_in}

pub ipv4_prefix : (b x : List ℕ) → IsPrefixChain (protocol b) x (ipv4_chain_in b x)
ipv4_prefix b x = search (rules, ipv4_longest, no_header_prefix)
