-- A dissection of the plain program.
use Rattle.std.specs.Prelude.{◌≡◌, ◌≤◌, ℕ, List, length, map}
use Rattle.ip_spec.specs.Chain.{leads_to, bytes_of}
use Rattle.ip_spec.specs.Parse.{rest_after}
use Rattle.ip_base.specs.Ipv4Header.{protocol}
use Rattle.ip_dissect.specs.Later.{chain_to_later}
use Rattle.ip_dissect.specs.Extent.{ipv4_chain_in}
use Rattle.ip_dissect.specs.Dissection.{DissectedParts}
use Rattle.check_reference.specs.PlainHeader.{plain_header_of}
use Rattle.check_reference.specs.declared.chain.PlainChain.{PlainChain}
use Rattle.check_reference.specs.declared.plain_dissection.PlainDissection.{PlainDissection}

-- x has the parts p: their lengths, the headers, and the values that describe them
pub record HasFieldsOf (p : DissectedParts) (x : PlainDissection) : Type 0 where
  pub version : x.version ≡ p.version
  pub base : x.base_len ≡ length p.base
  pub stated : x.stated ≡ p.stated
  pub headers : map plain_header_of x.headers.items ≡ p.headers
  pub number : x.number ≡ p.number
  pub payload : x.payload_len ≡ length p.payload
  pub fragment : x.fragment ≡ p.fragment
  pub missing : x.missing ≡ p.missing
  pub padding : x.padding_len ≡ length p.padding
  pub end : x.end ≡ p.end

-- The chain x is the longest from number n in bytes s in which no header follows a later fragment's.
pub record IsToLater (n : ℕ) (s : List ℕ) (x : PlainChain) : Type 0 where
  pub headers : map plain_header_of x.headers.items ≡ chain_to_later n s
  pub number : x.number ≡ leads_to n (chain_to_later n s)
  pub rest : x.rest.now ≡ rest_after (chain_to_later n s) s
  pub within : length (bytes_of (chain_to_later n s)) ≤ length s

-- The chain x is that of an IPv4 packet with the base header b and bytes r after it.
pub record IsIpv4Chain (b r : List ℕ) (x : PlainChain) : Type 0 where
  pub headers : map plain_header_of x.headers.items ≡ ipv4_chain_in b r
  pub number : x.number ≡ leads_to (protocol b) (ipv4_chain_in b r)
  pub rest : x.rest.now ≡ rest_after (ipv4_chain_in b r) r
  pub within : length (bytes_of (ipv4_chain_in b r)) ≤ length r
