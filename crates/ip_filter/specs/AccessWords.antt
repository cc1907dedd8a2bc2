-- How a filter's text writes accesses (pcap-filter(7)).
use Rattle.std.specs.Prelude.{◌≡◌, ℕ, List, [], ◌∷◌, take, drop, bit_or, ◌||◌, Bool, true, false, Option, Some, None, codes, if◌then◌else◌}
use Rattle.std.specs.Option.{option_map, option_or, option_and_then}
use Rattle.std.specs.Str.{bytes_eq}
use Rattle.ip_filter.specs.declared.term.Comparison.{Comparison}
use Rattle.ip_filter.specs.declared.term.AccessedHeader.{AccessedHeader}
use Rattle.ip_filter.specs.declared.term.AccessedHeader.TheVariants as from
use Rattle.ip_filter.specs.declared.term.AccessedBytes.{AccessedBytes}
use Rattle.ip_filter.specs.declared.term.ComparedBits.{ComparedBits}
use Rattle.ip_filter.specs.Words.{Word}
use Rattle.ip_filter.specs.Numbers.{number_up_to, index_of, upper_layer_of, comparison_of}
use Rattle.ip_filter.specs.IcmpTypes.{icmp_type_of, icmp6_type_of}

-- ---- the bytes that are read: `PROTOCOL[OFFSET]` or `PROTOCOL[OFFSET:SIZE]`

-- the header that a protocol names: a base header by its version, or else that of a protocol after the headers
abbrev pub header_from : Word → Option AccessedHeader
header_from w =
    if bytes_eq w (codes "ip") then Some (from.Base 4)
    else if bytes_eq w (codes "ip6") then Some (from.Base 6)
    else option_map from.Transport (upper_layer_of w)

-- a field at its offset: the type and the code of ICMP and ICMPv6, and the flags of TCP (RFC 9293, section 3.1)
abbrev pub field_offset : Word → Option ℕ
field_offset w =
    if bytes_eq w (codes "icmptype") || bytes_eq w (codes "icmp6type") then Some 0
    else if bytes_eq w (codes "icmpcode") || bytes_eq w (codes "icmp6code") then Some 1
    else if bytes_eq w (codes "tcpflags") then Some 13
    else None

abbrev pub offset_of : Word → Option ℕ
offset_of w = option_or (field_offset w) (number_up_to 4294967295 w)

-- how many bytes are read, after a colon: one without it
abbrev pub size_of : Word → Option ℕ
size_of [] = Some 1
size_of (colon ∷ w) =
    if bytes_eq w (codes "1") then Some 1
    else if bytes_eq w (codes "2") then Some 2
    else if bytes_eq w (codes "4") then Some 4
    else None

abbrev pub accessed_from : AccessedHeader → ℕ → ℕ → AccessedBytes
accessed_from h i size = record { header = h; offset = i; size = size }

-- an offset and a size or nothing
abbrev pub within_brackets : AccessedHeader → Word → Option AccessedBytes
within_brackets h w =
    option_and_then (λ i. option_map (accessed_from h i) (size_of (drop (index_of 58 w) w))) (offset_of (take (index_of 58 w) w))

-- a bracket, those, and a bracket
abbrev pub in_brackets : AccessedHeader → Word → Option AccessedBytes
in_brackets h [] = None
in_brackets h (bracket ∷ w) = if bytes_eq (drop (index_of 93 w) w) (codes "]") then within_brackets h (take (index_of 93 w) w) else None

-- the bytes that the word w names
abbrev pub access_of : Word → Option AccessedBytes
access_of w = option_and_then (λ h. in_brackets h (drop (index_of 91 w) w)) (header_from (take (index_of 91 w) w))

-- ---- what they are compared with

-- a flag of TCP by its name (RFC 9293, section 3.1; RFC 3168, section 6.1)
abbrev pub tcp_bit_of : Word → Option ℕ
tcp_bit_of w =
    if bytes_eq w (codes "tcp-fin") then Some 1
    else if bytes_eq w (codes "tcp-syn") then Some 2
    else if bytes_eq w (codes "tcp-rst") then Some 4
    else if bytes_eq w (codes "tcp-push") then Some 8
    else if bytes_eq w (codes "tcp-ack") then Some 16
    else if bytes_eq w (codes "tcp-urg") then Some 32
    else if bytes_eq w (codes "tcp-ece") then Some 64
    else if bytes_eq w (codes "tcp-cwr") then Some 128
    else None

-- a flag of TCP, a type of ICMP or ICMPv6 by its name, or a number
abbrev pub bits_of : Word → Option ℕ
bits_of w = option_or (tcp_bit_of w) (option_or (icmp_type_of w) (option_or (icmp6_type_of w) (number_up_to 4294967295 w)))

-- whether the word after one of several bits ends them
abbrev pub ends_joined_bits : Word → Option Bool
ends_joined_bits w = if bytes_eq w (codes ")") then Some true else if bytes_eq w (codes "|") then Some false else None

-- In what follows, what the words begin with, and the words after it.

-- what is found in the first word
abbrev pub first_at : {A : Type 0} → (Word → Option A) → List Word → Option (A × List Word)
first_at find [] = None
first_at find (w ∷ ws) = option_map (λ a. (a, ws)) (find w)

-- what is found first, and with it what is found next
abbrev pub next_at : {A B : Type 0} → (List Word → Option (A × List Word)) → (A → List Word → Option (B × List Word)) → List Word → Option (B × List Word)
next_at first next ws = option_and_then (λ r. next r.0 r.1) (first ws)

-- names and numbers with `|` between them, and a closing parenthesis: their bits, and the bits f
abbrev pub joined_bits : ℕ → List Word → Option (ℕ × List Word)
joined_bits f (w ∷ s ∷ ws) =
    option_and_then (λ n. option_and_then (λ ends. if ends then Some (bit_or f n, ws) else joined_bits (bit_or f n) ws) (ends_joined_bits s)) (bits_of w)
joined_bits f ws = None

-- a name or a number, or several in parentheses
abbrev pub bits_at : List Word → Option (ℕ × List Word)
bits_at [] = None
bits_at (w ∷ ws) = if bytes_eq w (codes "(") then joined_bits 0 ws else first_at bits_of (w ∷ ws)

abbrev pub compared_bits : ℕ → Comparison → ℕ → ComparedBits
compared_bits mask c n = record { mask = mask; comparison = c; number = n }

-- what the bits that the mask selects are compared with
abbrev pub number_compared_at : ℕ → Comparison → List Word → Option (ComparedBits × List Word)
number_compared_at mask c ws = option_map (λ r. (compared_bits mask c r.0, r.1)) (bits_at ws)

-- a comparison, and that
abbrev pub compared_at : ℕ → List Word → Option (ComparedBits × List Word)
compared_at mask ws = next_at (first_at comparison_of) (number_compared_at mask) ws

-- a mask after `&`, or all bits, and those
abbrev pub compared_bits_at : List Word → Option (ComparedBits × List Word)
compared_bits_at [] = None
compared_bits_at (w ∷ ws) = if bytes_eq w (codes "&") then next_at bits_at compared_at ws else compared_at 4294967295 (w ∷ ws)

-- ---- the words of them

-- a mask, or what is compared with
abbrev pub AreBits : List Word → ℕ → Type 0
AreBits ws n = bits_at ws ≡ Some (n, [])

abbrev pub AreComparedBits : List Word → ComparedBits → Type 0
AreComparedBits ws c = compared_bits_at ws ≡ Some (c, [])
