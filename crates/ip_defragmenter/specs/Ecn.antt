-- Explicit congestion notification in fragments (RFC 3168, sections 5 and 5.3). A code point has two bits: 0 says that the
-- sender isn't ECN-capable (Not-ECT), 1 and 2 that it is (ECT), and 3 that there is congestion (CE).
use Rattle.std.specs.Prelude.{ℕ, ◌%◌, ◌==◌, ◌&&◌, Bool, not, List, slice_index, slice_set, bit_or, Option, Some, None, if◌then◌else◌}
use Rattle.std.specs.List.{list_any}
use Rattle.ip_base.specs.Ipv4Header.{version}
use Rattle.ip_base.specs.BaseHeaderFields.{ipv4_ecn, ipv6_traffic_class}

-- The sender is ECN-capable.
abbrev pub is_capable : ℕ → Bool
is_capable point = not (point == 0)

-- Some of the fragments are ECN-capable, and others aren't.
abbrev pub are_mixed : List ℕ → Bool
are_mixed points = list_any (λ point. point == 0) points && list_any is_capable points

-- A fragment had congestion on its way.
abbrev pub is_congested : List ℕ → Bool
is_congested points = list_any (λ point. point == 3) points

-- The code point of the packet whose fragments have these, and the first fragment this one. None if it can't be made whole:
-- the mark of congestion would be lost on a packet that isn't ECN-capable.
abbrev pub whole_point : ℕ → List ℕ → Option ℕ
whole_point first points = if are_mixed points then None else if is_congested points then Some 3 else Some first

-- the code point of a base header
abbrev pub point_of : List ℕ → ℕ
point_of b = if version b == 4 then ipv4_ecn b else ipv6_traffic_class b % 4

-- a base header with the code point 3: in the lowest bits of byte 1 in IPv4, in the high half of byte 1 in IPv6
abbrev pub with_congestion : List ℕ → List ℕ
with_congestion b = slice_set b 1 (bit_or (slice_index b 1) (if version b == 4 then 0x03 else 0x30))

-- a base header, with that code point if there was congestion
abbrev pub marked : Bool → List ℕ → List ℕ
marked congested b = if congested then with_congestion b else b
