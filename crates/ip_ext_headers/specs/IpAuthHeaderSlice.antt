use Rattle.std.specs.Prelude.{ℕ, List}
use Rattle.ip_ext_headers.specs.declared.ip_auth_header_slice.IpAuthHeaderSlice.{IpAuthHeaderSlice}

-- the header's bytes
abbrev pub bytes : IpAuthHeaderSlice → List ℕ
bytes h = h.slice.now
