-- What a reader gives of a block.
use Rattle.std.specs.Prelude.{◌≡◌, ℕ, ◌-◌, List, length, slice_range, Some, None}
use Rattle.ip_captures.specs.Frame.{contents}
use Rattle.ip_captures.specs.Block.{frame_of_kind, kind_of, block_type}
use Rattle.ip_captures.specs.declared.byte_order.ByteOrder.{ByteOrder}
use Rattle.ip_captures.specs.declared.interface.Interface.{Interface}
use Rattle.ip_captures.specs.declared.next.Next.{Next}
use Rattle.ip_captures.specs.declared.next.Next.TheVariants as next
use Rattle.ip_captures.specs.declared.frame.Block.{Block}

-- the type and the body of the bytes of a block
pub record IsBody (o : ByteOrder) (bytes : List ℕ) (b : Block) : Type 0 where
  pub type : b.block_type ≡ block_type o bytes
  pub body : b.body.now ≡ slice_range bytes 8 (length bytes - 4)
  pub len : b.record_len ≡ length bytes

-- the frame of the bytes of a block, or its type and its body if it has none
abbrev pub IsGiven : List Interface → ByteOrder → List ℕ → Next → Type 0
IsGiven interfaces o bytes (next.Frame f) = frame_of_kind interfaces o (kind_of (block_type o bytes)) bytes ≡ Some (contents f)
IsGiven interfaces o bytes (next.Block b) = (frame_of_kind interfaces o (kind_of (block_type o bytes)) bytes ≡ None) × IsBody o bytes b
IsGiven interfaces o bytes (next.Needs n) = ⊥
IsGiven interfaces o bytes next.Ended = ⊥
IsGiven interfaces o bytes (next.Error e) = ⊥
