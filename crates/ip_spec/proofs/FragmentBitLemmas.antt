-- Bytes 2 and 3 of a fragment header, with the offset and the flag packed.
use Rattle.ip_spec.proofs.Common.{◌≡◌, ℕ, ◌+◌, ◌*◌, ◌/◌, ◌%◌, ◌<◌, arith, Bool, cond, bit_and, rules, and_comm, and_mask, and-not, and_high, eqb_tells, common_steps, offset_bits, flag_bit, unreserved_bits}

-- the bytes with this offset and flag, and without a reserved bit
abbrev pub high_byte : ℕ → ℕ
high_byte offset = offset / 32

abbrev pub low_byte : ℕ → Bool → ℕ
low_byte offset more = offset % 32 * 8 + cond more 1 0

module _ (low : ℕ) where
  pub reserved_part : low < 256 → bit_and low 0xf9 + low / 2 % 4 * 2 ≡ low
  reserved_part small = grind (arith, common_steps, and_comm 0x06 low, and_high low 2 1, and-not 8 0x06 low (omega arith) small, and_comm low 0xf9)

-- packing and unpacking returns the offset and the flag
module _ (offset : ℕ) where
  pub packed_offset : (more : Bool) → offset_bits (high_byte offset) (low_byte offset more) ≡ offset
  packed_offset more = grind (arith, common_steps, and_high)

  pub packed_flag : (more : Bool) → flag_bit (low_byte offset more) ≡ more
  packed_flag more = grind (arith, common_steps, and_mask)

  pub packed_reserved : (more : Bool) → unreserved_bits (low_byte offset more) ≡ low_byte offset more
  packed_reserved more = search (rules, reserved_part)

module _ (high low : ℕ) where
  -- unpacking and packing returns the bytes, if they have no reserved bit
  pub unpacked_high : high ≡ high_byte (offset_bits high low)
  unpacked_high = search (rules, and_high)

  pub unpacked_low : low < 256 → unreserved_bits low ≡ low → low ≡ low_byte (offset_bits high low) (flag_bit low)
  unpacked_low small kept = grind (arith, common_steps, reserved_part, eqb_tells, and_mask, and_high)
