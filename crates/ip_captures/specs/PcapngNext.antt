-- What comes next in a pcapng capture.
use Rattle.std.specs.Prelude.{◌≡◌, ◌≢◌, ◌<◌, ◌≤◌, ◌⊎◌, ℕ, ◌+◌, ◌-◌, ◌^◌, min, List, [], length, take, nat_lt, Option, Some, None, if◌then◌else◌}
use Rattle.ip_captures.specs.Frame.{contents}
use Rattle.ip_captures.specs.Block.{Section, IsBlock, own_order, total_len, head_error, block_error, frame_of_block, section_after}
use Rattle.ip_captures.specs.BlockGiven.{IsBody}
use Rattle.ip_captures.specs.declared.err.BlockError.{BlockError}
use Rattle.ip_captures.specs.declared.err.CaptureError.TheVariants as capture
use Rattle.ip_captures.specs.declared.next.Next.{Next}
use Rattle.ip_captures.specs.declared.next.Next.TheVariants as next

-- how many bytes a block that begins with s has at least: 12, and once these are there all
abbrev pub block_needed : Section → List ℕ → ℕ
block_needed c s = if nat_lt (length s) 12 then 12 else total_len (own_order c.order s) s

-- Something is wrong with the block that begins the bytes: with its first 12 bytes, or with all of them.
abbrev pub IsWrong : ℕ → ℕ → Section → List ℕ → BlockError → Type 0
IsWrong limit room c s w =
    (head_error limit c.order s ≡ Some w)
    ⊎ ((head_error limit c.order s ≡ None) × (total_len (own_order c.order s) s ≤ length s) × (block_error room c (take (total_len (own_order c.order s) s) s) ≡ Some w))

-- What comes next in a section, where the bytes s are left, from this offset on: the frame of the block that begins them, or
-- that block, or why no block does.
abbrev pub IsNextBlock : ℕ → ℕ → Section → ℕ → List ℕ → Next → Type 0
IsNextBlock limit room c offset s (next.Frame f) = (f.record_len ≤ length s) × IsBlock limit room c (take f.record_len s)
    × (frame_of_block c (take f.record_len s) ≡ Some (contents f))
IsNextBlock limit room c offset s (next.Block b) = (b.record_len ≤ length s) × IsBlock limit room c (take b.record_len s)
    × (frame_of_block c (take b.record_len s) ≡ None) × IsBody (own_order c.order (take b.record_len s)) (take b.record_len s) b
IsNextBlock limit room c offset s (next.Needs n) = (s ≢ []) × (length s < n) × (n ≡ block_needed c s) × (12 ≤ length s → head_error limit c.order s ≡ None)
IsNextBlock limit room c offset s next.Ended = s ≡ []
IsNextBlock limit room c offset s (next.Error e) = (12 ≤ length s) × ((w : BlockError) × (e ≡ capture.Block offset w) × IsWrong limit room c s w)

-- the offset after that: one beyond 64 bits stays at the greatest
abbrev pub offset_next : ℕ → Next → ℕ
offset_next offset (next.Frame f) = min (offset + f.record_len) (2 ^ 64 - 1)
offset_next offset (next.Block b) = min (offset + b.record_len) (2 ^ 64 - 1)
offset_next offset (next.Needs n) = offset
offset_next offset next.Ended = offset
offset_next offset (next.Error e) = offset

-- the section after that
abbrev pub section_next : Section → List ℕ → Next → Section
section_next c s (next.Frame f) = section_after c (take f.record_len s)
section_next c s (next.Block b) = section_after c (take b.record_len s)
section_next c s (next.Needs n) = c
section_next c s next.Ended = c
section_next c s (next.Error e) = c

-- the length of what came next, if it is a frame or another block
abbrev pub record_len_of : Next → Option ℕ
record_len_of (next.Frame f) = Some f.record_len
record_len_of (next.Block b) = Some b.record_len
record_len_of (next.Needs n) = None
record_len_of next.Ended = None
record_len_of (next.Error e) = None
