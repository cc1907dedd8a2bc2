-- The keys of packets that arrive in fragments (RFC 791, section 3.2; RFC 8200, section 4.5), and their hashes.
use Rattle.std.specs.Prelude.{◌≡◌, ℕ, ◌<◌, ◌+◌, ◌*◌, ◌^◌, length, Bool, false, ◌&&◌, ◌==◌, List, [], ◌∷◌, slice_index}
use Rattle.std.specs.Int.{from_be_bytes, w32}
use Rattle.std.specs.Str.{bytes_eq}
use Rattle.ip_hash.specs.SipHash.{sip_hash}
use Rattle.ip_defragmenter.specs.declared.key.FragmentKey.{FragmentKey}
use Rattle.ip_defragmenter.specs.declared.key.FragmentKey.TheVariants.{Ipv4, Ipv6}

-- Addresses of IPv4 have 4 bytes and those of IPv6 16, and an identification of IPv4 has 16 bits.
abbrev pub IsKey : FragmentKey → Type 0
IsKey (Ipv4 source destination protocol identification) = (length source ≡ 4) × (length destination ≡ 4) × (identification < 65536)
IsKey (Ipv6 source destination identification) = (length source ≡ 16) × (length destination ≡ 16)

-- Two keys are equal.
abbrev pub same_key : FragmentKey → FragmentKey → Bool
same_key (Ipv4 a b c d) (Ipv4 e f g h) = (d == h) && (c.0 == g.0) && bytes_eq a e && bytes_eq b f
same_key (Ipv4 a b c d) (Ipv6 e f h) = false
same_key (Ipv6 a b d) (Ipv4 e f g h) = false
same_key (Ipv6 a b d) (Ipv6 e f h) = (d == h) && bytes_eq a e && bytes_eq b f

-- the word of 4 bytes at an index, in network byte order
abbrev pub word_at : List ℕ → ℕ → ℕ
word_at b i = from_be_bytes w32 (slice_index b i ∷ slice_index b (i + 1) ∷ slice_index b (i + 2) ∷ slice_index b (i + 3) ∷ [])

-- the word of 8 bytes at an index, in network byte order
abbrev pub long_at : List ℕ → ℕ → ℕ
long_at b i = 2 ^ 32 * word_at b i + word_at b (i + 4)

-- the words of a key in a context, by which it is hashed: keys of the two versions have different numbers of them
abbrev pub words_of : ℕ → FragmentKey → List ℕ
words_of context (Ipv4 source destination protocol identification) =
    (2 ^ 32 * word_at source 0 + word_at destination 0) ∷ (2 ^ 32 * context + (65536 * protocol.0 + identification)) ∷ []
words_of context (Ipv6 source destination identification) =
    long_at source 0 ∷ long_at source 8 ∷ long_at destination 0 ∷ long_at destination 8 ∷ (2 ^ 32 * context + identification) ∷ []

-- the hash of a key in a context
abbrev pub hash_of : List ℕ → ℕ → FragmentKey → ℕ
hash_of seed context k = sip_hash seed (words_of context k)
