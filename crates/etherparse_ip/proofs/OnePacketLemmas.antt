-- The bytes determine the parts of a packet.
use Rattle.ip_spec.proofs.Common.{◌≡◌, ℕ, List, ◌++◌, take, drop, ap, sym, ◌∙◌, append_assoc, rules, arith, common_steps, take-append-drop, take-length, IsPrefix}
use Rattle.ip_base.specs.declared.len_source.LenSource.{LenSource}
use Rattle.ip_base.specs.Ipv4Header.{version}
use Rattle.ip_base.proofs.BaseLemmas.{says_ipv4, says_ipv6}
use Rattle.ip_spec.proofs.PrefixLemmas.{prefix_of-append}
use Rattle.etherparse_ip.specs.LenSources.{front}
use Rattle.etherparse_ip.specs.Packet.{Parts, IsIpv4Packet, IsIpv6Packet}
use Rattle.etherparse_ip.specs.PartsIn.{ipv4_parts_in, ipv6_parts_in}

-- a prefix of a prefix of s is a prefix of s
begins : (b x s : List ℕ) (k : ℕ) → b ++ x ≡ take k s → IsPrefix b s
begins b x s k e = prefix_of-append b (x ++ drop k s) s (sym (take-append-drop k s) ∙ ap (λ y. y ++ drop k s) (sym e) ∙ append_assoc b x (drop k s))

ipv4_prefix : (s : List ℕ) (p : Parts) → IsIpv4Packet s p → IsPrefix p.base s
ipv4_prefix s p k = search (rules, begins)

pub ipv4_version : (s : List ℕ) (p : Parts) → IsIpv4Packet s p → version s ≡ 4
ipv4_version s p k = search rules

pub ipv4_parts_are : (s : List ℕ) (p : Parts) → IsIpv4Packet s p → p ≡ ipv4_parts_in s
ipv4_parts_are s p k = search (rules, says_ipv4, ipv4_prefix s p k)

-- for each source the front is a prefix of s
begins_by : (by : LenSource) (n : ℕ) (s b x : List ℕ) → b ++ x ≡ front by n s → IsPrefix b s
begins_by by n s b x e = grind (arith, common_steps, begins, take-length)

ipv6_prefix : (s : List ℕ) (p : Parts) → IsIpv6Packet s p → IsPrefix p.base s
ipv6_prefix s p k = search (rules, begins_by)

pub ipv6_version : (s : List ℕ) (p : Parts) → IsIpv6Packet s p → version s ≡ 6
ipv6_version s p k = sym (says_ipv6 p.base s k.base (ipv6_prefix s p k)).version ∙ k.base.version

pub ipv6_parts_are : (s : List ℕ) (p : Parts) → IsIpv6Packet s p → p ≡ ipv6_parts_in s
ipv6_parts_are s p k = search (rules, ipv6_prefix s p k)
