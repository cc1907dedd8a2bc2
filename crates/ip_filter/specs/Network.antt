-- Addresses in a network: those that begin with its bits (RFC 4632, section 3.1; RFC 4291, section 2.3).
use Rattle.std.specs.Prelude.{ℕ, Bool, false, ◌/◌, ◌^◌, ◌-◌, ◌==◌}
use Rattle.ip_filter.specs.declared.network.Network.{Network}
use Rattle.ip_filter.specs.declared.network.Network.TheVariants.{Ipv4, Ipv6}

-- a and b are equal but for their last k bits
abbrev pub begin_alike : ℕ → ℕ → ℕ → Bool
begin_alike k a b = a / 2 ^ k == b / 2 ^ k

abbrev pub ipv4_lies_in : Network → ℕ → Bool
ipv4_lies_in (Ipv4 address len) a = begin_alike (32 - len) a address
ipv4_lies_in (Ipv6 address len) a = false

abbrev pub ipv6_lies_in : Network → ℕ → Bool
ipv6_lies_in (Ipv4 address len) a = false
ipv6_lies_in (Ipv6 address len) a = begin_alike (128 - len) a address
