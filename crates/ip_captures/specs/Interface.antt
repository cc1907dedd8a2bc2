-- Interfaces and times (draft-ietf-opsawg-pcapng, sections 4.2 and 4.3).
use Rattle.std.specs.Prelude.{ℕ, ◌+◌, ◌-◌, ◌*◌, ◌/◌, ◌^◌, ◌==◌, List, length, slice_index, slice_range, Option, Some, None, nat_lt, nat_le, if◌then◌else◌}
use Rattle.std.specs.Option.{option_map_or}
use Rattle.ip_captures.specs.Numbers.{short_number_at, number_at, long_number_at}
use Rattle.ip_captures.specs.Options.{option_value}
use Rattle.ip_captures.specs.declared.byte_order.ByteOrder.{ByteOrder}
use Rattle.ip_captures.specs.declared.interface.Interface.{Interface}

-- a power, or 0 if 64 bits don't hold it
abbrev pub power : ℕ → ℕ → ℕ
power base exponent = if nat_lt (base ^ exponent) (2 ^ 64) then base ^ exponent else 0

-- if_tsresol: 128 and more are powers of 2, others of 10
abbrev pub resolution : ℕ → ℕ
resolution b = if nat_lt b 128 then power 10 b else power 2 (b - 128)

-- the ticks of a second that if_tsresol (9) states: 10^6 without it
abbrev pub ticks_in : ByteOrder → List ℕ → ℕ
ticks_in o options = option_map_or (λ v. resolution (slice_index v 0)) (option_value o 9 options) 1000000

-- the seconds that if_tsoffset (14) adds, modulo 2^64: 0 without it, or if it hasn't 8 bytes
abbrev pub offset_in : ByteOrder → List ℕ → ℕ
offset_in o options = option_map_or (λ v. if nat_le 8 (length v) then long_number_at o v 0 else 0) (option_value o 14 options) 0

-- what an interface description block says
abbrev pub interface_in : ByteOrder → List ℕ → Interface
interface_in o b = record {
  link_type = short_number_at o b 8;
  snap_len = number_at o b 12;
  ticks_per_second = ticks_in o (slice_range b 16 (length b - 4));
  offset = offset_in o (slice_range b 16 (length b - 4));
}

-- a time in nanoseconds that 64 bits hold
abbrev pub in_64_bits : ℕ → Option ℕ
in_64_bits n = if nat_lt n (2 ^ 64) then Some n else None

-- the time so many seconds later, or earlier if they are negative in two's complement
abbrev pub shifted : ℕ → ℕ → Option ℕ
shifted offset n =
    if nat_lt offset (2 ^ 63) then in_64_bits (n + offset * 1000000000)
    else if nat_le ((2 ^ 64 - offset) * 1000000000) n then in_64_bits (n - (2 ^ 64 - offset) * 1000000000)
    else None

-- the time of so many ticks, in nanoseconds
abbrev pub time_of : Interface → ℕ → Option ℕ
time_of i ticks = if i.ticks_per_second == 0 then None else shifted i.offset (ticks * 1000000000 / i.ticks_per_second)
