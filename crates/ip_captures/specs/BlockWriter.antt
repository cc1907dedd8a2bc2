-- What is read again of the blocks that are written (draft-ietf-opsawg-pcapng, sections 3.5 and 4.1 to 4.3).
use Rattle.std.specs.Prelude.{◌≡◌, ◌≢◌, ◌<◌, ◌≤◌, ℕ, ◌+◌, ◌-◌, ◌%◌, ◌==◌, if◌then◌else◌, ◌^◌, List, [], ◌∷◌, ◌++◌, length, slice_get, slice_range, Some, None}
use Rattle.std.specs.Option.{option_map_or}
use Rattle.ip_captures.specs.Frame.{FrameContents}
use Rattle.ip_captures.specs.Interface.{time_of, resolution}
use Rattle.ip_captures.specs.Options.{padded, IsOption, option_code, value_len, options_error}
use Rattle.ip_captures.specs.Block.{Section, IsBlock, section_after, frame_of_block}
use Rattle.ip_captures.specs.declared.byte_order.ByteOrder.{ByteOrder}
use Rattle.ip_captures.specs.declared.interface.Interface.{Interface}
use Rattle.ip_captures.specs.declared.block_writer.EnhancedPacket.{EnhancedPacket}
use Rattle.ip_captures.specs.declared.err.WriteError.{WriteError}
use Rattle.ip_captures.specs.declared.err.WriteError.TheVariants as write

-- The bytes p are an option with the code k and the value v.
pub record IsOptionWith (o : ByteOrder) (k : ℕ) (v p : List ℕ) : Type 0 where
  pub option : IsOption o p
  pub code : option_code o p ≡ k
  pub value : slice_range p 4 (4 + value_len o p) ≡ v

-- The bytes b are a section header, which begins a section of this order anywhere.
pub record IsSectionHeader (o : ByteOrder) (b : List ℕ) : Type 0 where
  pub block : (limit room : ℕ) (c : Section) → length b ≤ limit → IsBlock limit room c b
  pub begins : (c : Section) → section_after c b ≡ record { order = o; interfaces = [] }
  pub frame : (c : Section) → frame_of_block c b ≡ None

-- The bytes b describe one more interface in each section of this order.
pub record IsDescription (o : ByteOrder) (i : Interface) (b : List ℕ) : Type 0 where
  pub block : (limit room : ℕ) (c : Section) → c.order ≡ o → length c.interfaces < room → length b ≤ limit → IsBlock limit room c b
  pub described : (c : Section) → c.order ≡ o → section_after c b ≡ record c { interfaces = c.interfaces ++ i ∷ [] }
  pub frame : (c : Section) → c.order ≡ o → frame_of_block c b ≡ None

-- what is read again of a packet with a block of n bytes, in a section with these interfaces
abbrev pub packet_kept : List Interface → EnhancedPacket → ℕ → FrameContents
packet_kept interfaces p n = record {
  captured = p.captured.now;
  original_len = p.original_len;
  time = option_map_or (λ i. time_of i p.ticks) (slice_get interfaces p.interface) None;
  interface = p.interface;
  link_type = option_map_or (λ i. i.link_type) (slice_get interfaces p.interface) 0;
  record_len = n;
}

-- The bytes b are the block of a packet in each section of this order that describes the packet's interface.
pub record IsPacketBlock (o : ByteOrder) (p : EnhancedPacket) (b : List ℕ) : Type 0 where
  pub block : (limit room : ℕ) (c : Section) → c.order ≡ o → p.interface < length c.interfaces → length b ≤ limit → IsBlock limit room c b
  pub frame : (c : Section) → c.order ≡ o → frame_of_block c b ≡ Some (packet_kept c.interfaces p (length b))
  pub section : (c : Section) → c.order ≡ o → section_after c b ≡ c
  pub options : slice_range b (28 + padded (length p.captured.now)) (length b - 4) ≡ p.options.now

-- the length of a packet's block
abbrev pub packet_block_len : EnhancedPacket → ℕ
packet_block_len p = 32 + padded (length p.captured.now) + length p.options.now

-- The bytes are whole options, up to their end or up to the last byte (section 3.5).
pub record AreOptions (o : ByteOrder) (s : List ℕ) : Type 0 where
  pub padded : length s % 4 ≡ 0
  pub right : options_error o s ≡ None

-- the length of an interface's block: 10^6 ticks of a second and no offset need no options
abbrev pub description_len : Interface → ℕ
description_len i =
    let ticks = if i.ticks_per_second == 1000000 then 0 else 8 in
    let offset = if i.offset == 0 then 0 else 12 in
    20 + ticks + offset + (if ticks + offset == 0 then 0 else 4)

-- Why an interface isn't described in a buffer of so many bytes.
abbrev pub IsDescriptionError : Interface → ℕ → WriteError → Type 0
IsDescriptionError i room write.Options = ⊥
IsDescriptionError i room write.TooLong = ⊥
IsDescriptionError i room (write.NoRoom needed) = (needed ≡ description_len i) × (room < needed)
IsDescriptionError i room (write.Resolution ticks) = (ticks ≡ i.ticks_per_second) × (ticks ≢ 1000000) × ((b : ℕ) → b < 256 → resolution b ≢ ticks)

-- Why an option with a value of n bytes isn't written to a buffer of so many bytes.
abbrev pub IsOptionError : ℕ → ℕ → WriteError → Type 0
IsOptionError n room write.Options = ⊥
IsOptionError n room write.TooLong = 2 ^ 16 ≤ n
IsOptionError n room (write.NoRoom needed) = (needed ≡ 4 + padded n) × (room < needed)
IsOptionError n room (write.Resolution ticks) = ⊥

-- Why a block of n bytes isn't written to a buffer of so many bytes, with these options.
abbrev pub IsWriteError : ByteOrder → ℕ → List ℕ → ℕ → WriteError → Type 0
IsWriteError o n options room write.Options = ¬ AreOptions o options
IsWriteError o n options room write.TooLong = 2 ^ 32 ≤ n
IsWriteError o n options room (write.NoRoom needed) = (needed ≡ n) × (room < n)
IsWriteError o n options room (write.Resolution ticks) = ⊥

-- the number that stands for an error in C; 0 stands for none
abbrev pub write_code : WriteError → ℕ
write_code (write.NoRoom needed) = 1
write_code write.TooLong = 2
write_code write.Options = 3
write_code (write.Resolution ticks) = 4

-- the number of bytes that a buffer has to have, if a longer one helps
abbrev pub len_needed : WriteError → ℕ
len_needed (write.NoRoom needed) = needed
len_needed write.TooLong = 0
len_needed write.Options = 0
len_needed (write.Resolution ticks) = 0
