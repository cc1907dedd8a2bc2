-- The headers of a whole packet, by those of its first fragment (RFC 791, section 3.2; RFC 8200, section 4.5).
use Rattle.std.specs.Prelude.{ℕ, ◌+◌, ◌-◌, ◌++◌, ◌==◌, ◌&&◌, not, Bool, false, nat_le, nat_lt, List, length, slice_index, slice_set, bit_and, Option, Some, None, if◌then◌else◌}
use Rattle.ip_base.specs.Ipv4Header.{version}
use Rattle.ip_base.specs.Checksum.{with_word, checksum_of}
use Rattle.ip_defragmenter.specs.declared.err.WholeError.{WholeError}
use Rattle.ip_defragmenter.specs.declared.err.WholeError.TheVariants.{Headers, TooLong, NoRoom}

-- A base header of IPv4 with the total length that n bytes of payload give, without the more fragments flag, with the
-- offset 0 and the checksum 0.
abbrev pub unchecked : List ℕ → ℕ → List ℕ
unchecked b n = with_word (slice_set (slice_set (with_word b 2 (length b + n)) 6 (bit_and (slice_index b 6) 0xc0)) 7 0) 10 0

-- with its checksum
abbrev pub ipv4_whole : List ℕ → ℕ → List ℕ
ipv4_whole b n = with_word (unchecked b n) 10 (checksum_of (unchecked b n))

-- The headers of IPv6 before the fragment header, with the payload length that n bytes after them give, and with the
-- number of what follows them in the field at the offset `link`.
abbrev pub ipv6_whole : List ℕ → ℕ → ℕ → ℕ → List ℕ
ipv6_whole b link number n = slice_set (with_word b 4 (length b - 40 + n)) link number

-- by the version of the headers
abbrev pub whole_headers : List ℕ → ℕ → ℕ → ℕ → List ℕ
whole_headers b link number n = if version b == 4 then ipv4_whole b n else ipv6_whole b link number n

-- with the payload
abbrev pub whole_packet : List ℕ → ℕ → ℕ → List ℕ → List ℕ
whole_packet b link number payload = whole_headers b link number (length payload) ++ payload

-- The headers begin with a base header; in IPv6 one of their bytes is at the offset `link`.
abbrev pub are_headers : List ℕ → ℕ → Bool
are_headers b link =
    if version b == 4 then nat_le 20 (length b)
    else if version b == 6 then nat_le 40 (length b) && nat_lt link (length b)
    else false

-- the number that the length field of the whole packet has to state, with n bytes of payload
abbrev pub stated_by : List ℕ → ℕ → ℕ
stated_by b n = if version b == 4 then length b + n else length b - 40 + n

-- why the whole packet, with n bytes of payload, can't be written into so many bytes
abbrev pub whole_fault : List ℕ → ℕ → ℕ → ℕ → Option WholeError
whole_fault b link n room =
    if not (are_headers b link) then Some Headers
    else if nat_lt 65535 (stated_by b n) then Some TooLong
    else if nat_lt room (length b + n) then Some NoRoom
    else None
