-- Errors as plain numbers.
use Rattle.std.specs.Prelude.{ℕ, ◌<◌, ◌^◌, ⊤}
use Rattle.ip_captures.specs.declared.err.BlockError.{BlockError}
use Rattle.ip_captures.specs.declared.err.BlockError.TheVariants as block
use Rattle.ip_captures.specs.declared.err.CaptureError.{CaptureError}
use Rattle.ip_captures.specs.declared.err.CaptureError.TheVariants as capture
use Rattle.ip_captures.specs.declared.error_fields.CaptureErrorFields.{CaptureErrorFields}

-- fields with these values
abbrev pub fields_with : ℕ → ℕ → ℕ → ℕ → CaptureErrorFields
fields_with offset kind value other = record { offset = offset; value = value; other = other; kind = kind }

-- the fields of no error
abbrev pub no_error : CaptureErrorFields
no_error = fields_with 0 0 0 0

-- the fields of an error in the block at an offset
abbrev pub block_fields : ℕ → BlockError → CaptureErrorFields
block_fields offset block.UnknownByteOrder = fields_with offset 4 0 0
block_fields offset (block.Length len) = fields_with offset 5 len 0
block_fields offset (block.Long len limit) = fields_with offset 6 len limit
block_fields offset (block.Lengths first last) = fields_with offset 7 first last
block_fields offset (block.UnknownVersion major minor) = fields_with offset 8 major minor
block_fields offset (block.TooManyInterfaces room) = fields_with offset 9 room 0
block_fields offset (block.UnknownInterface interface) = fields_with offset 10 interface 0
block_fields offset (block.LongPacket captured_len left) = fields_with offset 11 captured_len left
block_fields offset (block.LongOption len left) = fields_with offset 12 len left
block_fields offset (block.Surplus captured_len left) = fields_with offset 13 captured_len left

-- the fields of an error
abbrev pub error_fields : CaptureError → CaptureErrorFields
error_fields capture.UnknownMagic = fields_with 0 1 0 0
error_fields (capture.UnknownVersion major) = fields_with 0 2 major 0
error_fields (capture.LongRecord offset captured_len limit) = fields_with offset 3 captured_len limit
error_fields (capture.Block offset error) = block_fields offset error

-- The numbers of an error in a block are those that its fields hold.
abbrev pub AreBlockNumbers : BlockError → Type 0
AreBlockNumbers block.UnknownByteOrder = ⊤
AreBlockNumbers (block.Length len) = len < 2 ^ 32
AreBlockNumbers (block.Long len limit) = (len < 2 ^ 32) × (limit < 2 ^ 32)
AreBlockNumbers (block.Lengths first last) = (first < 2 ^ 32) × (last < 2 ^ 32)
AreBlockNumbers (block.UnknownVersion major minor) = (major < 2 ^ 16) × (minor < 2 ^ 16)
AreBlockNumbers (block.TooManyInterfaces room) = room < 2 ^ 64
AreBlockNumbers (block.UnknownInterface interface) = interface < 2 ^ 32
AreBlockNumbers (block.LongPacket captured_len left) = (captured_len < 2 ^ 32) × (left < 2 ^ 64)
AreBlockNumbers (block.LongOption len left) = (len < 2 ^ 16) × (left < 2 ^ 64)
AreBlockNumbers (block.Surplus captured_len left) = (captured_len < 2 ^ 32) × (left < 2 ^ 64)

-- The numbers of an error are those that its fields hold.
abbrev pub AreNumbers : CaptureError → Type 0
AreNumbers capture.UnknownMagic = ⊤
AreNumbers (capture.UnknownVersion major) = major < 2 ^ 16
AreNumbers (capture.LongRecord offset captured_len limit) = (captured_len < 2 ^ 32) × (limit < 2 ^ 32)
AreNumbers (capture.Block offset error) = AreBlockNumbers error
