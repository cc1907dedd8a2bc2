-- A base header at the start of bytes has the fields of the bytes.
use Rattle.std.proofs.Common.{◌≡◌, ℕ, List, length, arith, rules}
use Rattle.std.proofs.lemmas.Grind.{common_steps}
use Rattle.ip_base.specs.Prefix.{IsPrefix}
use Rattle.ip_base.specs.Ipv4Header.{version, IsIpv4Header, ipv4_header_len, total_len, protocol, is_ipv4_fragmenting}
use Rattle.ip_base.specs.Ipv6Header.{IsIpv6Header, payload_length, ipv6_next_header}

pub record SaysIpv4 (b s : List ℕ) : Type 0 where
  pub version : version b ≡ version s
  pub len : length b ≡ ipv4_header_len s
  pub total : total_len b ≡ total_len s
  pub number : protocol b ≡ protocol s
  pub fragmented : is_ipv4_fragmenting b ≡ is_ipv4_fragmenting s

pub says_ipv4 : (b s : List ℕ) → IsIpv4Header b → IsPrefix b s → SaysIpv4 b s
says_ipv4 b s h p = grind (arith, common_steps)

pub record SaysIpv6 (b s : List ℕ) : Type 0 where
  pub version : version b ≡ version s
  pub payload : payload_length b ≡ payload_length s
  pub number : ipv6_next_header b ≡ ipv6_next_header s

pub says_ipv6 : (b s : List ℕ) → IsIpv6Header b → IsPrefix b s → SaysIpv6 b s
says_ipv6 b s h p = search rules
