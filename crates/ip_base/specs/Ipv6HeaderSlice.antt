use Rattle.std.specs.Prelude.{ℕ, List}
use Rattle.ip_base.specs.declared.ipv6_header_slice.Ipv6HeaderSlice.{Ipv6HeaderSlice}

-- the header's bytes
abbrev pub bytes : Ipv6HeaderSlice → List ℕ
bytes h = h.slice.now
