-- The blocks of a pcapng capture (draft-ietf-opsawg-pcapng, sections 3 and 4).
use Rattle.std.specs.Prelude.{◌≡◌, ◌≤◌, ℕ, ◌+◌, ◌-◌, ◌*◌, ◌%◌, ◌^◌, ◌==◌, min, List, [], ◌∷◌, ◌++◌, length, take, drop, slice_get, slice_range, Option, Some, None, not, ◌&&◌, ◌||◌, nat_le, nat_lt, is_none, if◌then◌else◌}
use Rattle.std.specs.Option.{option_map_or, option_or}
use Rattle.std.specs.List.{concat}
use Rattle.ip_captures.specs.Numbers.{short_number_at, number_at}
use Rattle.ip_captures.specs.Frame.{FrameContents}
use Rattle.ip_captures.specs.Interface.{interface_in, time_of}
use Rattle.ip_captures.specs.Options.{padded, options_error}
use Rattle.ip_captures.specs.Pieces.{AreLongest, pieces_in}
use Rattle.ip_captures.specs.declared.byte_order.ByteOrder.{ByteOrder}
use Rattle.ip_captures.specs.declared.byte_order.ByteOrder.TheVariants.{LittleEndian, BigEndian}
use Rattle.ip_captures.specs.declared.interface.Interface.{Interface}
use Rattle.ip_captures.specs.declared.block.BlockKind.{BlockKind}
use Rattle.ip_captures.specs.declared.block.BlockKind.TheVariants as kind
use Rattle.ip_captures.specs.declared.err.BlockError.{BlockError}
use Rattle.ip_captures.specs.declared.err.BlockError.TheVariants as error

-- what the blocks of a section depend on: the order of their bytes, and the interfaces described so far
pub record Section : Type 0 where
  pub order : ByteOrder
  pub interfaces : List Interface

-- the kind of a block, by its type
abbrev pub kind_of : ℕ → BlockKind
kind_of t =
    if t == 0x0a0d_0d0a then kind.SectionHeader
    else if t == 1 then kind.InterfaceDescription
    else if t == 2 then kind.ObsoletePacket
    else if t == 3 then kind.SimplePacket
    else if t == 5 then kind.InterfaceStatistics
    else if t == 6 then kind.EnhancedPacket
    else kind.Other

-- the order of a block's bytes: a section header has its own (section 4.1), in which its third number is 0x1A2B3C4D
abbrev pub order_of : ByteOrder → List ℕ → Option ByteOrder
order_of order s =
    if not (number_at LittleEndian s 0 == 0x0a0d_0d0a) then Some order
    else if number_at LittleEndian s 8 == 0x1a2b_3c4d then Some LittleEndian
    else if number_at BigEndian s 8 == 0x1a2b_3c4d then Some BigEndian
    else None

-- the type and the total length of a block
abbrev pub block_type : ByteOrder → List ℕ → ℕ
block_type o s = number_at o s 0

abbrev pub total_len : ByteOrder → List ℕ → ℕ
total_len o s = number_at o s 4

-- the length of the fields that a kind of block has
abbrev pub least_len : BlockKind → ℕ
least_len kind.SectionHeader = 28
least_len kind.InterfaceDescription = 20
least_len kind.ObsoletePacket = 32
least_len kind.SimplePacket = 16
least_len kind.InterfaceStatistics = 24
least_len kind.EnhancedPacket = 32
least_len kind.Other = 12

-- What is wrong with a total length: it is less than the fields have or no multiple of 4 (section 3.1), or greater than the
-- caller allows.
abbrev pub length_error : ℕ → ℕ → ℕ → Option BlockError
length_error limit least len =
    if nat_lt len least || not (len % 4 == 0) then Some (error.Length len)
    else if nat_lt limit len then Some (error.Long len limit)
    else None

-- What is wrong with the first 12 bytes of a block.
abbrev pub head_error : ℕ → ByteOrder → List ℕ → Option BlockError
head_error limit order s =
    option_map_or (λ o. length_error limit (least_len (kind_of (block_type o s))) (total_len o s)) (order_of order s) (Some error.UnknownByteOrder)

-- the order of the bytes of a block that has one
abbrev pub own_order : ByteOrder → List ℕ → ByteOrder
own_order order s = option_map_or (λ o. o) (order_of order s) order

-- the captured length of a packet of which only the original length is known (section 4.4): the snap length, where the packet is
-- longer and there is one
abbrev pub simple_len : Interface → ℕ → ℕ
simple_len i original = if i.snap_len == 0 then original else min original i.snap_len

-- What is wrong with an interface and a captured length: no such interface is described in the section, or the block has only `there`
-- bytes.
abbrev pub packet_error : List Interface → ℕ → ℕ → ℕ → Option BlockError
packet_error interfaces i captured there =
    if not (nat_lt i (length interfaces)) then Some (error.UnknownInterface i)
    else if nat_lt there captured then Some (error.LongPacket captured there)
    else None

-- What is wrong with an enhanced or obsolete packet block of an interface: that, or its options are (sections 4.3 and A.1).
abbrev pub timed_packet_error : List Interface → ByteOrder → ℕ → List ℕ → Option BlockError
timed_packet_error interfaces o i b = option_or (packet_error interfaces i (number_at o b 20) (length b - 32)) (options_error o (slice_range b (28 + padded (number_at o b 20)) (length b - 4)))

-- the captured length that a simple packet block states, by the first interface of the section
abbrev pub simple_captured : List Interface → ByteOrder → List ℕ → ℕ
simple_captured interfaces o b = option_map_or (λ i. simple_len i (number_at o b 8)) (slice_get interfaces 0) 0

-- What is wrong with a simple packet block (section 4.4): that, or it has more bytes than the packet, which its total length is to
-- account for.
abbrev pub simple_packet_error : List Interface → ByteOrder → List ℕ → Option BlockError
simple_packet_error interfaces o b =
    let captured = simple_captured interfaces o b in
    option_or (packet_error interfaces 0 captured (length b - 16)) (if nat_lt (padded captured) (length b - 16) then Some (error.Surplus captured (length b - 16)) else None)

-- What is wrong with the version of a section: the major number is 1, and the minor one 0 or, as in early files, 2 (section 4.1).
abbrev pub version_error : ℕ → ℕ → Option BlockError
version_error major minor = if major == 1 && (minor == 0 || minor == 2) then None else Some (error.UnknownVersion major minor)

-- What is wrong with the fields of a whole block, where there is memory for so many interfaces.
abbrev pub fields_error : ℕ → List Interface → ByteOrder → BlockKind → List ℕ → Option BlockError
fields_error room interfaces o kind.SectionHeader b = option_or (version_error (short_number_at o b 12) (short_number_at o b 14)) (options_error o (slice_range b 24 (length b - 4)))
fields_error room interfaces o kind.InterfaceDescription b = option_or (if nat_lt (length interfaces) room then None else Some (error.TooManyInterfaces room)) (options_error o (slice_range b 16 (length b - 4)))
fields_error room interfaces o kind.ObsoletePacket b = timed_packet_error interfaces o (short_number_at o b 8) b
fields_error room interfaces o kind.EnhancedPacket b = timed_packet_error interfaces o (number_at o b 8) b
fields_error room interfaces o kind.InterfaceStatistics b = options_error o (slice_range b 20 (length b - 4))
fields_error room interfaces o kind.SimplePacket b = simple_packet_error interfaces o b
fields_error room interfaces o kind.Other b = None

-- What is wrong with a whole block: its two total lengths differ (section 3.1), or one of its fields is wrong.
abbrev pub whole_error : ℕ → List Interface → ByteOrder → List ℕ → Option BlockError
whole_error room interfaces o b =
    if not (number_at o b (length b - 4) == total_len o b) then Some (error.Lengths (total_len o b) (number_at o b (length b - 4)))
    else fields_error room interfaces o (kind_of (block_type o b)) b

-- the same in a section
abbrev pub block_error : ℕ → Section → List ℕ → Option BlockError
block_error room c b = whole_error room c.interfaces (own_order c.order b) b

-- The bytes b are one block of a section: as many as it states, and nothing is wrong with it.
pub record IsBlock (limit room : ℕ) (c : Section) (b : List ℕ) : Type 0 where
  pub head : 12 ≤ length b
  pub head_right : head_error limit c.order b ≡ None
  pub len : length b ≡ total_len (own_order c.order b) b
  pub right : block_error room c b ≡ None

-- the section after a block
abbrev pub entered : Section → ByteOrder → BlockKind → List ℕ → Section
entered c o kind.SectionHeader b = record { order = o; interfaces = [] }
entered c o kind.InterfaceDescription b = record c { interfaces = c.interfaces ++ interface_in o b ∷ [] }
entered c o kind.ObsoletePacket b = c
entered c o kind.SimplePacket b = c
entered c o kind.InterfaceStatistics b = c
entered c o kind.EnhancedPacket b = c
entered c o kind.Other b = c

-- the same, by the block alone
abbrev pub section_after : Section → List ℕ → Section
section_after c b = let o = own_order c.order b in entered c o (kind_of (block_type o b)) b

-- The packet of a block (sections 4.3, 4.4 and A.1), on an interface and with its captured bytes.
abbrev pub packet_in : List Interface → List ℕ → ℕ → Option ℕ → ℕ → List ℕ → FrameContents
packet_in interfaces b i ticks original captured = record {
  captured = captured;
  original_len = original;
  time = option_map_or (λ t. option_map_or (λ x. time_of x t) (slice_get interfaces i) None) ticks None;
  interface = i;
  link_type = option_map_or (λ x. x.link_type) (slice_get interfaces i) 0;
  record_len = length b;
}

-- the 64 bits of a time, in two numbers
abbrev pub ticks_at : ByteOrder → List ℕ → ℕ → ℕ
ticks_at o b offset = number_at o b offset * 2 ^ 32 + number_at o b (offset + 4)

-- the frame of a kind of block, if it has one
abbrev pub frame_of_kind : List Interface → ByteOrder → BlockKind → List ℕ → Option FrameContents
frame_of_kind interfaces o kind.SectionHeader b = None
frame_of_kind interfaces o kind.InterfaceDescription b = None
frame_of_kind interfaces o kind.ObsoletePacket b =
    Some (packet_in interfaces b (short_number_at o b 8) (Some (ticks_at o b 12)) (number_at o b 24) (slice_range b 28 (28 + number_at o b 20)))
frame_of_kind interfaces o kind.SimplePacket b =
    let len = option_map_or (λ i. simple_len i (number_at o b 8)) (slice_get interfaces 0) 0 in
    Some (packet_in interfaces b 0 None (number_at o b 8) (slice_range b 12 (12 + len)))
frame_of_kind interfaces o kind.EnhancedPacket b =
    Some (packet_in interfaces b (number_at o b 8) (Some (ticks_at o b 12)) (number_at o b 24) (slice_range b 28 (28 + number_at o b 20)))
frame_of_kind interfaces o kind.InterfaceStatistics b = None
frame_of_kind interfaces o kind.Other b = None

-- the frame of a block, if it has one
abbrev pub frame_of_block : Section → List ℕ → Option FrameContents
frame_of_block c b = let o = own_order c.order b in frame_of_kind c.interfaces o (kind_of (block_type o b)) b

-- The longest list of blocks that begins the bytes s, and the rest.
abbrev pub AreLongestBlocks : ℕ → ℕ → Section → List ℕ → List (List ℕ) → List ℕ → Type 0
AreLongestBlocks limit room = AreLongest (IsBlock limit room) section_after

-- the length of the block that begins the bytes, if one does
abbrev pub first_block_len : ℕ → ℕ → Section → List ℕ → Option ℕ
first_block_len limit room c s =
    let len = total_len (own_order c.order s) s in
    if nat_le 12 (length s) && is_none (head_error limit c.order s) && nat_le len (length s) && is_none (block_error room c (take len s)) then Some len
    else None

-- the blocks that begin the bytes
abbrev pub blocks_in : ℕ → ℕ → Section → List ℕ → List (List ℕ)
blocks_in limit room = pieces_in (first_block_len limit room) section_after

-- what is left of the bytes after them
abbrev pub rest_of_blocks : ℕ → ℕ → Section → List ℕ → List ℕ
rest_of_blocks limit room c s = drop (length (concat (blocks_in limit room c s))) s
