-- Juniper's headers, as tcpdump and Wireshark read them: what bytes b begin with.
use Rattle.std.specs.Prelude.{ℕ, ◌+◌, List, length, Some, None, Bool, not, ◌==◌, ◌&&◌, nat_le, slice_index, if◌then◌else◌}
use Rattle.ip_frames.specs.Reading.{word_at, has_bits, header, not_ip, of_bytes}
use Rattle.ip_frames.specs.declared.protocol_number.ProtocolNumber.TheVariants as number
use Rattle.ip_frames.specs.declared.header.HeaderKind.{HeaderKind}
use Rattle.ip_frames.specs.declared.header.HeaderKind.TheVariants.{JuniperCookie, Llc}
use Rattle.ip_frames.specs.declared.header.Announced.TheVariants.{Header, IpByVersion, Other}
use Rattle.ip_frames.specs.declared.header.HeaderReading.{HeaderReading}

-- "MGC", flags, and extensions with their length before them if bit 7 of the flags is set.
abbrev pub is_juniper : List ℕ → Bool
is_juniper b = (slice_index b 0 == 0x4d) && (slice_index b 1 == 0x47) && (slice_index b 2 == 0x43)

-- After them is the link layer or, if bit 1 says that it was removed, four bytes and a packet.
abbrev pub after_extensions : HeaderKind → ℕ → HeaderKind → List ℕ → HeaderReading
after_extensions k n next b =
    if has_bits b 3 0x02 then of_bytes (n + 4) b (header k (n + 4) None IpByVersion)
    else of_bytes n b (header k n None (Header next))

abbrev pub juniper : HeaderKind → HeaderKind → List ℕ → HeaderReading
juniper k next b = of_bytes 4 b (
    if not (is_juniper b) then not_ip
    else if has_bits b 3 0x80 then of_bytes 6 b (after_extensions k (6 + word_at b 4) next b)
    else after_extensions k 4 next b)

-- A cookie of the first ATM card. Except for management cells, which begin with 0x80, LLC or IP follows (RFC 2684): LLC if
-- the next three bytes are those of SNAP.
abbrev pub has_snap_at_4 : List ℕ → Bool
has_snap_at_4 b =
    nat_le 7 (length b) && (slice_index b 4 == 0xaa) && (slice_index b 5 == 0xaa) && (slice_index b 6 == 3)

abbrev pub juniper_cookie : List ℕ → HeaderReading
juniper_cookie b = of_bytes 4 b (
    if slice_index b 0 == 0x80 then header JuniperCookie 4 None Other
    else of_bytes 5 b (header JuniperCookie 4 (Some (number.Llc (slice_index b 4))) (
    if has_snap_at_4 b then Header Llc else IpByVersion)))
