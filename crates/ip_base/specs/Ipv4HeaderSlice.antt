use Rattle.std.specs.Prelude.{ℕ, List}
use Rattle.ip_base.specs.declared.ipv4_header_slice.Ipv4HeaderSlice.{Ipv4HeaderSlice}

-- the header's bytes
abbrev pub bytes : Ipv4HeaderSlice → List ℕ
bytes h = h.slice.now
