-- Where the captured bytes of a frame are.
use Rattle.std.proofs.Common.{◌≡◌, ℕ, ◌+◌, ◌-◌, ◌≤◌, List, length, take, drop, ap, arith, refl, sym, subst, ◌∙◌}
use Rattle.std.proofs.lemmas.List.{length-take, length-drop, length-take-le, take_min, take_all, take-append-drop}
use Rattle.std.proofs.lemmas.Option.{same_Some}
use Rattle.std.specs.Prelude.{Option, Some, None, slice_range, slice_get}
use Rattle.std.specs.Option.{option_map_or}
use Rattle.ip_captures.specs.Numbers.{number_at}
use Rattle.ip_captures.specs.Frame.{FrameContents, contents}
use Rattle.ip_captures.specs.Block.{Section, kind_of, block_type, total_len, least_len, length_error, own_order, order_of, simple_len, frame_of_kind}
use Rattle.ip_captures.specs.ClassicRecord.{header_len}
use Rattle.ip_captures.specs.ClassicNext.{IsNext, reader_after}
use Rattle.ip_captures.specs.PcapngNext.{IsNextBlock, offset_next}
use Rattle.ip_captures.specs.RecordFields.{AreCapturedAt}
use Rattle.ip_captures.specs.CaptureFields.{captured_in, captured_at}
use Rattle.ip_captures.specs.declared.byte_order.ByteOrder.{ByteOrder}
use Rattle.ip_captures.specs.declared.block.BlockKind.{BlockKind}
use Rattle.ip_captures.specs.declared.block.BlockKind.TheVariants as kind
use Rattle.ip_captures.specs.declared.err.BlockError.TheVariants as error
use Rattle.ip_captures.specs.declared.interface.Interface.{Interface}
use Rattle.ip_captures.specs.declared.frame.Frame.{Frame}
use Rattle.ip_captures.specs.declared.next.Next.{Next}
use Rattle.ip_captures.specs.declared.next.Next.TheVariants as next
use Rattle.ip_captures.specs.declared.classic_capture.ClassicCapture.{ClassicCapture}
use Rattle.ip_captures.proofs.NumberLemmas.{number_at-take, range-take}
use Rattle.ip_captures.proofs.BlockLemmas.{no_length_error, same_own}

take_again : (d : List ℕ) (m : ℕ) → take (length (take m d)) d ≡ take m d
take_again d m = ap (λ n. take n d) (length-take m d) ∙ take_min m d

range_again : (b : List ℕ) (i j : ℕ) → slice_range b i (i + length (slice_range b i j)) ≡ slice_range b i j
range_again b i j =
    let l = length (slice_range b i j) in
    let same : i + l - i ≡ l = omega arith in
    ap (λ n. take n (drop i b)) same ∙ take_again (drop i b) (j - i)

range_within : (b : List ℕ) (i j : ℕ) → i ≤ length b → i + length (slice_range b i j) ≤ length b
range_within b i j h = omega (arith, h, length-take (j - i) (drop i b), length-drop i b)

-- bytes of the first n ones are at the same place in all
captured_there : (s : List ℕ) (n i j : ℕ) (t : List ℕ) → n ≤ length s → i ≤ n → t ≡ slice_range (take n s) i j
    → (i + length t ≤ n) × (slice_range s i (i + length t) ≡ t)
captured_there s n i j t fits h e =
    let b = take n s in
    let all : length b ≡ n = length-take-le n s fits in
    let len : length t ≡ length (slice_range b i j) = ap length e in
    let inside : i + length (slice_range b i j) ≤ length b = range_within b i j (omega (arith, h, all)) in
    let within : i + length t ≤ n = omega (arith, all, len, inside) in
    let first : i ≤ i + length t = omega arith in
    let there : slice_range s i (i + length t) ≡ slice_range b i (i + length t) = sym (range-take s n i (i + length t) first within fits) in
    let again : slice_range b i (i + length t) ≡ slice_range b i j = ap (λ l. slice_range b i (i + l)) len ∙ range_again b i j in
    (within, there ∙ again ∙ sym e)

pub captured_in_record : (c : ClassicCapture) (s : List ℕ) (x : Next) → IsNext c s x → AreCapturedAt s (header_len c.header.variant) x
captured_in_record c s (next.Frame f) h =
    let n = f.record_len in
    let k = header_len c.header.variant in
    let all : length (take n s) ≡ n = length-take-le n s h.0 in
    let front : k ≤ length (take n s) = h.1.header in
    let captured : f.captured.now ≡ drop k (take n s) = ap (λ (x : FrameContents). x.captured) h.2 in
    let few : length (drop k (take n s)) ≤ n - k = omega (arith, all, length-drop k (take n s)) in
    let is : f.captured.now ≡ slice_range (take n s) k n = captured ∙ sym (take_all (n - k) (drop k (take n s)) few) in
    captured_there s n k n f.captured.now h.0 (omega (arith, front, all)) is
captured_in_record c s (next.Block b) h = absurd h
captured_in_record c s (next.Needs n) h = tt
captured_in_record c s next.Ended h = tt
captured_in_record c s (next.Error e) h = tt

pub moved : (c : ClassicCapture) (s : List ℕ) (x : Next) → IsNext c s x → (reader_after c x).offset ≡ offset_next c.offset x
moved c s (next.Frame f) h = refl
moved c s (next.Block b) h = absurd h
moved c s (next.Needs n) h = refl
moved c s next.Ended h = refl
moved c s (next.Error e) h = refl

-- the captured bytes of a kind of block
record Captured (k : BlockKind) (b : List ℕ) (f : Frame) : Type 0 where
  end : ℕ
  is : f.captured.now ≡ slice_range b (captured_in k) end
  least : captured_in k ≤ least_len k

captured_of : (interfaces : List Interface) (o : ByteOrder) (k : BlockKind) (b : List ℕ) (f : Frame) → frame_of_kind interfaces o k b ≡ Some (contents f) → Captured k b f
captured_of interfaces o kind.SectionHeader b f e = cc
captured_of interfaces o kind.InterfaceDescription b f e = cc
captured_of interfaces o kind.ObsoletePacket b f e =
    record { end = 28 + number_at o b 20; is = sym (ap (λ (x : FrameContents). x.captured) (same_Some _ (contents f) e)); least = omega arith }
captured_of interfaces o kind.SimplePacket b f e =
    record {
      end = 12 + option_map_or (λ i. simple_len i (number_at o b 8)) (slice_get interfaces 0) 0;
      is = sym (ap (λ (x : FrameContents). x.captured) (same_Some _ (contents f) e));
      least = omega arith;
    }
captured_of interfaces o kind.EnhancedPacket b f e =
    record { end = 28 + number_at o b 20; is = sym (ap (λ (x : FrameContents). x.captured) (same_Some _ (contents f) e)); least = omega arith }
captured_of interfaces o kind.InterfaceStatistics b f e = cc
captured_of interfaces o kind.Other b f e = cc

least_by : (limit : ℕ) (order : ByteOrder) (s : List ℕ) (x : Option ByteOrder)
    → option_map_or (λ o. length_error limit (least_len (kind_of (number_at o s 0))) (number_at o s 4)) x (Some error.UnknownByteOrder) ≡ None
    → least_len (kind_of (number_at (option_map_or (λ o. o) x order) s 0)) ≤ number_at (option_map_or (λ o. o) x order) s 4
least_by limit order s None e = cc
least_by limit order s (Some o) e = no_length_error limit (least_len (kind_of (number_at o s 0))) (number_at o s 4) e

pub captured_in_block : (limit room : ℕ) (c : Section) (offset : ℕ) (s : List ℕ) (x : Next) → IsNextBlock limit room c offset s x → AreCapturedAt s (captured_at c.order s) x
captured_in_block limit room c offset s (next.Frame f) h =
    let n = f.record_len in
    let b = take n s in
    let o = own_order c.order b in
    let k = kind_of (block_type o b) in
    let all : length b ≡ n = length-take-le n s h.0 in
    let least : least_len k ≤ total_len o b = least_by limit c.order b (order_of c.order b) h.1.head_right in
    let len : length b ≡ total_len o b = h.1.len in
    let head : 12 ≤ length b = h.1.head in
    let own : o ≡ own_order c.order s = sym (same_own b (drop n s) head c.order) ∙ ap (own_order c.order) (take-append-drop n s) in
    let same : block_type o b ≡ block_type (own_order c.order s) s =
    ap (λ o. number_at o b 0) own ∙ number_at-take (own_order c.order s) s n 0 (omega (arith, head, all)) h.0 in
    let found = captured_of c.interfaces o k b f h.2 in
    let inside : captured_in k ≤ n = omega (arith, found.least, least, len, all) in
    subst (λ (i : ℕ). AreCapturedAt s i (next.Frame f)) (ap (λ t. captured_in (kind_of t)) same) (captured_there s n (captured_in k) found.end f.captured.now h.0 inside found.is)
captured_in_block limit room c offset s (next.Block b) h = tt
captured_in_block limit room c offset s (next.Needs n) h = tt
captured_in_block limit room c offset s next.Ended h = tt
captured_in_block limit room c offset s (next.Error e) h = tt

pub captured_by : (limit room : ℕ) (c : Section) (offset : ℕ) (s : List ℕ) (x : Next) (i : ℕ) → (12 ≤ length s → i ≡ captured_at c.order s) → IsNextBlock limit room c offset s x → AreCapturedAt s i x
captured_by limit room c offset s (next.Frame f) i same h =
    let all : length (take f.record_len s) ≡ f.record_len = length-take-le f.record_len s h.0 in
    let head : 12 ≤ length (take f.record_len s) = h.1.head in
    subst (λ (n : ℕ). AreCapturedAt s n (next.Frame f)) (sym (same (omega (arith, head, all, h.0)))) (captured_in_block limit room c offset s (next.Frame f) h)
captured_by limit room c offset s (next.Block b) i same h = tt
captured_by limit room c offset s (next.Needs n) i same h = tt
captured_by limit room c offset s next.Ended i same h = tt
captured_by limit room c offset s (next.Error e) i same h = tt
