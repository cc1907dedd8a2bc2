-- The protocol numbers of extension headers (RFC 8200, section 4; RFC 4302, section 2), and two others.
use Rattle.std.specs.Prelude.{ℕ}

abbrev pub HOP_BY_HOP : ℕ
HOP_BY_HOP = 0

abbrev pub ROUTING : ℕ
ROUTING = 43

abbrev pub FRAGMENT : ℕ
FRAGMENT = 44

abbrev pub AUTHENTICATION : ℕ
AUTHENTICATION = 51

abbrev pub DESTINATION_OPTIONS : ℕ
DESTINATION_OPTIONS = 60

-- no next header (RFC 8200, section 4.7)
abbrev pub NO_NEXT_HEADER : ℕ
NO_NEXT_HEADER = 59

-- the User Datagram Protocol
abbrev pub UDP : ℕ
UDP = 17
