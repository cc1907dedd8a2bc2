-- The source of a packet's length. A length error in its extension headers names the same source. This rule is stated
-- only here.
use Rattle.std.specs.Prelude.{ℕ, ◌+◌, ◌==◌, ◌&&◌, nat_lt, List, take, if◌then◌else◌}
use Rattle.ip_base.specs.declared.len_source.LenSource.{LenSource}
use Rattle.ip_base.specs.declared.len_source.LenSource.TheVariants.{Slice, Ipv4HeaderTotalLen, Ipv6HeaderPayloadLen}

-- the packet's bytes in s, by the source, with n in its length field: total length counts the IPv4 base header,
-- payload length what follows the 40 bytes of the IPv6 one
abbrev pub front : LenSource → ℕ → List ℕ → List ℕ
front Slice n s = s
front Ipv4HeaderTotalLen n s = take n s
front Ipv6HeaderPayloadLen n s = take (40 + n) s

-- IPv4
abbrev pub ipv4_len_source : LenSource
ipv4_len_source = Ipv4HeaderTotalLen

-- IPv6, with payload length n in a slice of k bytes: the slice itself if it has fewer bytes than stated, or if no
-- length is stated (a jumbogram, RFC 2675) and it is longer than a base header
abbrev pub ipv6_len_source : ℕ → ℕ → LenSource
ipv6_len_source n k =
    if nat_lt k (40 + n) then Slice
    else if (n == 0) && nat_lt 40 k then Slice
    else Ipv6HeaderPayloadLen
