-- Where a dissection and a parsed packet agree.
use Rattle.std.specs.Prelude.{◌≡◌, ℕ, List}
use Rattle.etherparse_ip.specs.Packet.{Parts}
use Rattle.ip_dissect.specs.Dissection.{dissected}

-- the dissection of bytes s has the parts p of a parsed packet
pub record Agree (s : List ℕ) (p : Parts) : Type 0 where
  pub base : (dissected s).base ≡ p.base
  pub headers : (dissected s).headers ≡ p.headers
  pub payload : (dissected s).payload ≡ p.payload
  pub number : (dissected s).number ≡ p.number
