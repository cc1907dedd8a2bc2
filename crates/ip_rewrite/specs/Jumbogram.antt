-- Jumbograms: IPv6 packets that are too long for their length field, and state their length in an option (RFC 2675).
use Rattle.std.specs.Prelude.{ℕ, ◌+◌, ◌/◌, ◌%◌, ◌++◌, Bool, ◌==◌, ◌&&◌, not, List, [], ◌∷◌, length, take, drop, nat_eq, nat_lt, Option, Some, None, is_some, if◌then◌else◌}
use Rattle.std.specs.List.{list_any, starts_with}
use Rattle.ip_spec.specs.Chain.{ExtHeader, bytes_of}
use Rattle.ip_header_contents.specs.Options.{OptionFields, option_bytes, options_in}
use Rattle.ip_dissect.specs.Dissection.{DissectedParts}
use Rattle.ip_rewrite.specs.Headers.{is_options}

-- how many bytes follow the base header
abbrev pub following_len : DissectedParts → ℕ
following_len p = length (bytes_of p.headers) + length p.payload

-- The packet states no length in its length field: that is 0 although bytes follow the base header, as in a jumbogram or a
-- packet captured before segmentation offload. The field stays 0.
abbrev pub is_unstated : DissectedParts → Bool
is_unstated p = not (is_some p.stated) && not (following_len p == 0)

abbrev pub JUMBO_PAYLOAD : ℕ
JUMBO_PAYLOAD = 0xc2

-- a number of 32 bits in network byte order
abbrev pub long_bytes : ℕ → List ℕ
long_bytes n = n / 0x100_0000 % 256 ∷ n / 0x1_0000 % 256 ∷ n / 256 % 256 ∷ n % 256 ∷ []

-- the jumbo payload option that states the length n (RFC 2675, section 2)
abbrev pub jumbo_payload : ℕ → OptionFields
jumbo_payload n = record { option_type = JUMBO_PAYLOAD; value = long_bytes n }

-- an option of its type
abbrev pub is_jumbo_payload : OptionFields → Bool
is_jumbo_payload o = o.option_type == JUMBO_PAYLOAD

-- the offset of the only option of this type, among options of which the first has the offset k
abbrev pub only_jumbo_payload : ℕ → List OptionFields → Option ℕ
only_jumbo_payload k [] = None
only_jumbo_payload k (o ∷ xs) =
    if is_jumbo_payload o then (if list_any is_jumbo_payload xs then None else Some k)
    else only_jumbo_payload (k + length (option_bytes o)) xs

-- the offset k, if the option that is there in bytes b states the length n
abbrev pub if_stating : ℕ → List ℕ → Option ℕ → Option ℕ
if_stating n b None = None
if_stating n b (Some k) = if starts_with nat_eq (drop k b) (option_bytes (jumbo_payload n)) then Some k else None

-- the offset of the option in the first of the headers c, if that has hop-by-hop options and states the length n
abbrev pub stating_offset : ℕ → List ExtHeader → Option ℕ
stating_offset n [] = None
stating_offset n (h ∷ c) = if is_options h then if_stating n h.bytes (only_jumbo_payload 2 (options_in (drop 2 h.bytes))) else None

-- The offset of the option in the first header, if the packet is a jumbogram: its length field is 0, the option states how
-- many bytes follow the base header, more than 65,535, and there is no fragment header (RFC 2675, section 3).
unfoldable pub jumbo_offset : DissectedParts → Option ℕ
jumbo_offset p =
    if is_unstated p && not (is_some p.fragment) && nat_lt 0xffff (following_len p) && nat_lt (following_len p) 0x1_0000_0000
    then stating_offset (following_len p) p.headers
    else None

abbrev pub is_jumbogram : DissectedParts → Bool
is_jumbogram p = is_some (jumbo_offset p)

-- bytes b with the option o at the offset k
abbrev pub with_option : List ℕ → ℕ → OptionFields → List ℕ
with_option b k o = take k b ++ option_bytes o ++ drop (k + length (option_bytes o)) b

-- the headers c, with the length n in the option at this offset of the first of them
abbrev pub stating_at : Option ℕ → ℕ → List ExtHeader → List ExtHeader
stating_at None n c = c
stating_at (Some k) n [] = []
stating_at (Some k) n (h ∷ c) = record { number = h.number; bytes = with_option h.bytes k (jumbo_payload n) } ∷ c
