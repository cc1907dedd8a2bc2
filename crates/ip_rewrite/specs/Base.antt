-- A base header with another length and another number of what follows it (RFC 791, section 3.1; RFC 8200, section 3).
use Rattle.std.specs.Prelude.{ℕ, ◌+◌, Bool, List, length, slice_set, ◌==◌, if◌then◌else◌}
use Rattle.ip_base.specs.Checksum.{checksum_of, with_word}

-- the offset in the base header of version v of the number of what follows it: IPv4's protocol, IPv6's next header
abbrev pub number_offset : ℕ → ℕ
number_offset v = if v == 4 then 9 else 6

-- the base header of IPv4 with this total length, and with the checksum 0
abbrev pub without_checksum : List ℕ → ℕ → List ℕ
without_checksum b t = with_word (with_word b 2 t) 10 0

-- with the checksum of the header as it then is (RFC 1071)
abbrev pub ipv4_stating : List ℕ → ℕ → List ℕ
ipv4_stating b t = with_word (without_checksum b t) 10 (checksum_of (without_checksum b t))

-- what the length field states if n bytes follow the base header b of version v; nothing if `unstated`
abbrev pub length_field : ℕ → Bool → List ℕ → ℕ → ℕ
length_field v unstated b n = if unstated then 0 else if v == 4 then length b + n else n

-- the base header with this length field
abbrev pub base_stating : ℕ → List ℕ → ℕ → List ℕ
base_stating v b t = if v == 4 then ipv4_stating b t else with_word b 4 t

-- the base header b of version v, if n bytes follow it and the number of the first of them is m
abbrev pub base_before : ℕ → Bool → List ℕ → ℕ → ℕ → List ℕ
base_before v unstated b m n = base_stating v (slice_set b (number_offset v) m) (length_field v unstated b n)
