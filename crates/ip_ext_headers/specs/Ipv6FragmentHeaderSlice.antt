use Rattle.std.specs.Prelude.{ℕ, List}
use Rattle.ip_ext_headers.specs.declared.ipv6_fragment_header_slice.Ipv6FragmentHeaderSlice.{Ipv6FragmentHeaderSlice}

-- the header's bytes
abbrev pub bytes : Ipv6FragmentHeaderSlice → List ℕ
bytes h = h.slice.now
