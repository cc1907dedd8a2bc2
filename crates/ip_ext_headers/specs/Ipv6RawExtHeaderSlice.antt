use Rattle.std.specs.Prelude.{ℕ, List}
use Rattle.ip_ext_headers.specs.declared.ipv6_raw_ext_header_slice.Ipv6RawExtHeaderSlice.{Ipv6RawExtHeaderSlice}

-- the header's bytes
abbrev pub bytes : Ipv6RawExtHeaderSlice → List ℕ
bytes h = h.slice.now
