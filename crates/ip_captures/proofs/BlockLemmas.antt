-- The block that begins some bytes.
use Rattle.std.proofs.Common.{◌≡◌, ℕ, ◌+◌, ◌-◌, ◌^◌, ◌<◌, ◌≤◌, min, List, ◌++◌, length, take, drop, ap, arith, refl, inr, ◌∙◌, sym, subst, Bool, true, false}
use Rattle.std.proofs.lemmas.List.{length-append, length-take-le, take-append-drop, take_at}
use Rattle.std.proofs.lemmas.Option.{same_Some}
use Rattle.std.proofs.lemmas.Bool.{le-leb, leb-true}
use Rattle.std.proofs.lemmas.Bool.Decides.{nat_tests}
use Rattle.std.specs.Prelude.{Option, Some, None, is_none, not, ◌==◌, ◌&&◌, nat_le, nat_lt, slice_range, if◌then◌else◌}
use Rattle.std.specs.Option.{option_map_or, option_or}
use Rattle.ip_captures.specs.Numbers.{number_at}
use Rattle.ip_captures.specs.Options.{options_error}
use Rattle.ip_captures.specs.Block.{Section, kind_of, order_of, block_type, total_len, least_len, length_error, head_error, own_order, packet_error, fields_error, whole_error, block_error, IsBlock, first_block_len, entered, section_after, frame_of_kind, frame_of_block}
use Rattle.ip_captures.specs.BlockGiven.{IsGiven, IsBody}
use Rattle.ip_captures.specs.PcapngNext.{IsNextBlock, section_next, offset_next}
use Rattle.ip_captures.specs.Frame.{FrameContents, contents}
use Rattle.ip_captures.specs.declared.err.CaptureError.TheVariants as capture
use Rattle.ip_captures.specs.declared.next.Next.{Next}
use Rattle.ip_captures.specs.declared.next.Next.TheVariants as next
use Rattle.ip_captures.specs.declared.byte_order.ByteOrder.{ByteOrder}
use Rattle.ip_captures.specs.declared.byte_order.ByteOrder.TheVariants.{LittleEndian, BigEndian}
use Rattle.ip_captures.specs.declared.interface.Interface.{Interface}
use Rattle.ip_captures.specs.declared.block.BlockKind.{BlockKind}
use Rattle.ip_captures.specs.declared.block.BlockKind.TheVariants as kind
use Rattle.ip_captures.specs.declared.err.BlockError.{BlockError}
use Rattle.ip_captures.specs.declared.err.BlockError.TheVariants as error
use Rattle.ip_captures.proofs.NumberLemmas.{number_at-append, number_at-take}
use Rattle.ip_captures.proofs.PieceLemmas.{Finds}

pub packet_right : (interfaces : List Interface) (i captured there : ℕ) → i < length interfaces → captured ≤ there → packet_error interfaces i captured there ≡ None
packet_right interfaces i captured there h k = grind (arith, nat_tests)

-- The first 12 bytes of a block and of more bytes say the same.
module _ (p q : List ℕ) (h : 12 ≤ length p) where
  at_0 : (o : ByteOrder) → number_at o (p ++ q) 0 ≡ number_at o p 0
  at_0 o = number_at-append o p q 0 (omega arith)

  at_4 : (o : ByteOrder) → number_at o (p ++ q) 4 ≡ number_at o p 4
  at_4 o = number_at-append o p q 4 (omega arith)

  at_8 : (o : ByteOrder) → number_at o (p ++ q) 8 ≡ number_at o p 8
  at_8 o = number_at-append o p q 8 (omega arith)

  pub same_order : (order : ByteOrder) → order_of order (p ++ q) ≡ order_of order p
  same_order order =
      let by : ℕ → ℕ → ℕ → Option ByteOrder = λ a b d. if not (a == 0x0a0d_0d0a) then Some order else if b == 0x1a2b_3c4d then Some LittleEndian else if d == 0x1a2b_3c4d then Some BigEndian else None in
      ap (λ a. by a (number_at LittleEndian (p ++ q) 8) (number_at BigEndian (p ++ q) 8)) (at_0 LittleEndian)
      ∙ ap (λ b. by (number_at LittleEndian p 0) b (number_at BigEndian (p ++ q) 8)) (at_8 LittleEndian)
      ∙ ap (λ d. by (number_at LittleEndian p 0) (number_at LittleEndian p 8) d) (at_8 BigEndian)

  pub same_own : (order : ByteOrder) → own_order order (p ++ q) ≡ own_order order p
  same_own order = ap (λ x. option_map_or (λ o. o) x order) (same_order order)

  pub same_total : (order : ByteOrder) → total_len (own_order order (p ++ q)) (p ++ q) ≡ total_len (own_order order p) p
  same_total order = ap (λ o. number_at o (p ++ q) 4) (same_own order) ∙ at_4 (own_order order p)

  said : (limit : ℕ) (x : Option ByteOrder) → option_map_or (λ o. length_error limit (least_len (kind_of (number_at o (p ++ q) 0))) (number_at o (p ++ q) 4)) x (Some error.UnknownByteOrder)
      ≡ option_map_or (λ o. length_error limit (least_len (kind_of (number_at o p 0))) (number_at o p 4)) x (Some error.UnknownByteOrder)
  said limit None = refl
  said limit (Some o) = ap (λ n. length_error limit (least_len (kind_of n)) (number_at o (p ++ q) 4)) (at_0 o) ∙ ap (λ n. length_error limit (least_len (kind_of (number_at o p 0))) n) (at_4 o)

  pub same_head_error : (limit : ℕ) (order : ByteOrder) → head_error limit order (p ++ q) ≡ head_error limit order p
  same_head_error limit order =
      ap (λ x. option_map_or (λ o. length_error limit (least_len (kind_of (number_at o (p ++ q) 0))) (number_at o (p ++ q) 4)) x (Some error.UnknownByteOrder)) (same_order order)
      ∙ said limit (order_of order p)

least_len-least : (k : BlockKind) → 12 ≤ least_len k
least_len-least kind.SectionHeader = omega arith
least_len-least kind.InterfaceDescription = omega arith
least_len-least kind.ObsoletePacket = omega arith
least_len-least kind.SimplePacket = omega arith
least_len-least kind.InterfaceStatistics = omega arith
least_len-least kind.EnhancedPacket = omega arith
least_len-least kind.Other = omega arith

pub no_length_error : (limit least len : ℕ) → length_error limit least len ≡ None → least ≤ len
no_length_error limit least len e = grind (arith, nat_tests, e)

right_head : (limit : ℕ) (order : ByteOrder) (s : List ℕ) (x : Option ByteOrder)
    → option_map_or (λ o. length_error limit (least_len (kind_of (number_at o s 0))) (number_at o s 4)) x (Some error.UnknownByteOrder) ≡ None
    → 12 ≤ number_at (option_map_or (λ o. o) x order) s 4
right_head limit order s None e = cc
right_head limit order s (Some o) e =
    let least = least_len-least (kind_of (number_at o s 0)) in
    let len = no_length_error limit (least_len (kind_of (number_at o s 0))) (number_at o s 4) e in
    omega (arith, least, len)

pub head-least : (limit : ℕ) (order : ByteOrder) (s : List ℕ) → head_error limit order s ≡ None → 12 ≤ total_len (own_order order s) s
head-least limit order s e = right_head limit order s (order_of order s) e

all_true : (a b c d : Bool) (k : ℕ) → a ≡ true → b ≡ true → c ≡ true → d ≡ true → (let n : Option ℕ = None in if a && b && c && d then Some k else n) ≡ Some k
all_true true true true true k e f g h = refl
all_true true true true false k e f g h = cc
all_true true true false d k e f g h = cc
all_true true false c d k e f g h = cc
all_true false b c d k e f g h = cc

record AllTrue (a b c d : Bool) (k j : ℕ) : Type 0 where
  first : a ≡ true
  second : b ≡ true
  third : c ≡ true
  fourth : d ≡ true
  same : k ≡ j

true_all : (a b c d : Bool) (k j : ℕ) → (let n : Option ℕ = None in if a && b && c && d then Some k else n) ≡ Some j → AllTrue a b c d k j
true_all true true true true k j e = record { first = refl; second = refl; third = refl; fourth = refl; same = cc }
true_all true true true false k j e = cc
true_all true true false d k j e = cc
true_all true false c d k j e = cc
true_all false b c d k j e = cc

none_is : {X : Type 0} (x : Option X) → is_none x ≡ true → x ≡ None
none_is None e = refl
none_is (Some y) e = cc

-- a whole block
pub block_at : (limit room : ℕ) (c : Section) (s : List ℕ) (k : ℕ) → k ≡ total_len (own_order c.order s) s → k ≤ length s → head_error limit c.order s ≡ None → block_error room c (take k s) ≡ None
    → IsBlock limit room c (take k s)
block_at limit room c s k e l head right =
    let least : 12 ≤ k = omega (arith, head-least limit c.order s head) in
    let len : length (take k s) ≡ k = length-take-le k s l in
    let enough : 12 ≤ length (take k s) = omega (arith, len, least) in
    let joined = take-append-drop k s in
    record {
      head = enough;
      head_right = sym (same_head_error (take k s) (drop k s) enough limit c.order) ∙ ap (head_error limit c.order) joined ∙ head;
      len = len ∙ e ∙ ap (λ t. total_len (own_order c.order t) t) (sym joined) ∙ same_total (take k s) (drop k s) enough c.order;
      right = right;
    }

pub finds_blocks : (limit room : ℕ) → Finds (IsBlock limit room) (first_block_len limit room)
finds_blocks limit room = record {
  found = λ c s k e.
      let total = total_len (own_order c.order s) s in
      let t = true_all (nat_le 12 (length s)) (is_none (head_error limit c.order s)) (nat_le total (length s)) (is_none (block_error room c (take total s))) total k e in
      let head = none_is (head_error limit c.order s) t.second in
      let fits : k ≤ length s = omega (arith, leb-true total (length s) t.third, t.same) in
      let right = ap (λ n. block_error room c (take n s)) (sym t.same) ∙ none_is (block_error room c (take total s)) t.fourth in
      (block_at limit room c s k (sym t.same) fits head right, omega (arith, head-least limit c.order s head, t.same), fits);
  only = λ c p q b.
      let total = same_total p q b.head c.order ∙ sym b.len in
      let cut : take (total_len (own_order c.order (p ++ q)) (p ++ q)) (p ++ q) ≡ p = take_at p q _ (sym total) in
      all_true _ _ _ _ _ (le-leb 12 (length (p ++ q)) (omega (arith, b.head, length-append p q))) (ap is_none (same_head_error p q b.head limit c.order ∙ b.head_right))
      (le-leb _ (length (p ++ q)) (omega (arith, total, length-append p q))) (ap (λ t. is_none (block_error room c t)) cut ∙ ap is_none b.right)
      ∙ ap Some total;
}

-- the length of a frame's record is that of its block
frame_len : (interfaces : List Interface) (o : ByteOrder) (k : BlockKind) (b : List ℕ) (g : FrameContents) → frame_of_kind interfaces o k b ≡ Some g → g.record_len ≡ length b
frame_len interfaces o kind.SectionHeader b g e = cc
frame_len interfaces o kind.InterfaceDescription b g e = cc
frame_len interfaces o kind.ObsoletePacket b g e = sym (ap (λ (x : FrameContents). x.record_len) (same_Some _ g e))
frame_len interfaces o kind.SimplePacket b g e = sym (ap (λ (x : FrameContents). x.record_len) (same_Some _ g e))
frame_len interfaces o kind.EnhancedPacket b g e = sym (ap (λ (x : FrameContents). x.record_len) (same_Some _ g e))
frame_len interfaces o kind.InterfaceStatistics b g e = cc
frame_len interfaces o kind.Other b g e = cc

-- The head of a block of k bytes at the start of s.
pub record HasHead (limit : ℕ) (order : ByteOrder) (s : List ℕ) (o : ByteOrder) (k : ℕ) : Type 0 where
  pub right : head_error limit order s ≡ None
  pub ordered : order_of order s ≡ Some o
  pub len : k ≡ total_len o s
  pub fits : k ≤ length s

-- What the head says of s it says of the block.
pub record SaysHead (order : ByteOrder) (s : List ℕ) (o : ByteOrder) (k : ℕ) : Type 0 where
  pub least : 12 ≤ k
  pub all : length (take k s) ≡ k
  pub type : block_type o (take k s) ≡ block_type o s
  pub total : total_len o (take k s) ≡ k
  pub own : own_order order s ≡ o
  pub own_block : own_order order (take k s) ≡ o

pub says_head : (limit : ℕ) (order : ByteOrder) (s : List ℕ) (o : ByteOrder) (k : ℕ) → HasHead limit order s o k → SaysHead order s o k
says_head limit order s o k h =
    let own : own_order order s ≡ o = ap (λ x. option_map_or (λ o. o) x order) h.ordered in
    let total : total_len (own_order order s) s ≡ k = ap (λ o. total_len o s) own ∙ sym h.len in
    let least : 12 ≤ k = omega (arith, head-least limit order s h.right, total) in
    let all = length-take-le k s h.fits in
    let enough : 12 ≤ length (take k s) = omega (arith, all, least) in
    record {
      least = least;
      all = all;
      type = number_at-take o s k 0 (omega (arith, least)) h.fits;
      total = number_at-take o s k 4 (omega (arith, least)) h.fits ∙ sym h.len;
      own = own;
      own_block = sym (same_own (take k s) (drop k s) enough order) ∙ ap (own_order order) (take-append-drop k s) ∙ own;
    }

-- What a whole block gives is what comes next.
pub record IsRead (limit room : ℕ) (c : Section) (offset : ℕ) (s : List ℕ) (o : ByteOrder) (k : ℕ) (x : Next) : Type 0 where
  pub next : IsNextBlock limit room c offset s x
  pub section : entered c o (kind_of (block_type o s)) (take k s) ≡ section_next c s x
  pub moved : min (offset + k) (2 ^ 64 - 1) ≡ offset_next offset x

module _ (limit room : ℕ) (c : Section) (offset : ℕ) (s : List ℕ) (o : ByteOrder) (k : ℕ) (h : HasHead limit c.order s o k) (right : whole_error room c.interfaces o (take k s) ≡ None) where
  whole : IsBlock limit room c (take k s)
  whole =
      let says = says_head limit c.order s o k h in
      block_at limit room c s k (h.len ∙ ap (λ o. total_len o s) (sym says.own)) h.fits h.right (ap (λ o. whole_error room c.interfaces o (take k s)) says.own_block ∙ right)

  enters : entered c o (kind_of (block_type o s)) (take k s) ≡ section_after c (take k s)
  enters =
      let says = says_head limit c.order s o k h in
      ap (λ t. entered c o (kind_of t) (take k s)) (sym says.type) ∙ ap (λ o. entered c o (kind_of (block_type o (take k s))) (take k s)) (sym says.own_block)

  pub read : (x : Next) → IsGiven c.interfaces o (take k s) x → IsRead limit room c offset s o k x
  read (next.Frame f) g =
      let says = says_head limit c.order s o k h in
      let len : f.record_len ≡ k = frame_len c.interfaces o (kind_of (block_type o (take k s))) (take k s) (contents f) g ∙ says.all in
      let frame : frame_of_block c (take k s) ≡ Some (contents f) = ap (λ o. frame_of_kind c.interfaces o (kind_of (block_type o (take k s))) (take k s)) says.own_block ∙ g in
      record {
        next = (omega (arith, len, h.fits), subst (λ (n : ℕ). IsBlock limit room c (take n s)) (sym len) whole, subst (λ (n : ℕ). frame_of_block c (take n s) ≡ Some (contents f)) (sym len) frame);
        section = subst (λ (n : ℕ). entered c o (kind_of (block_type o s)) (take k s) ≡ section_after c (take n s)) (sym len) enters;
        moved = ap (λ n. min (offset + n) (2 ^ 64 - 1)) (sym len);
      }
  read (next.Block b) g =
      let says = says_head limit c.order s o k h in
      let len : b.record_len ≡ k = g.1.len ∙ says.all in
      let none : frame_of_block c (take k s) ≡ None = ap (λ o. frame_of_kind c.interfaces o (kind_of (block_type o (take k s))) (take k s)) says.own_block ∙ g.0 in
      let body : IsBody (own_order c.order (take k s)) (take k s) b = subst (λ (o : ByteOrder). IsBody o (take k s) b) (sym says.own_block) g.1 in
      record {
        next = (
          omega (arith, len, h.fits),
          subst (λ (n : ℕ). IsBlock limit room c (take n s)) (sym len) whole,
          subst (λ (n : ℕ). frame_of_block c (take n s) ≡ None) (sym len) none,
          subst (λ (n : ℕ). IsBody (own_order c.order (take n s)) (take n s) b) (sym len) body,
        );
        section = subst (λ (n : ℕ). entered c o (kind_of (block_type o s)) (take k s) ≡ section_after c (take n s)) (sym len) enters;
        moved = ap (λ n. min (offset + n) (2 ^ 64 - 1)) (sym len);
      }
  read (next.Needs n) g = absurd g
  read next.Ended g = absurd g
  read (next.Error e) g = absurd g

-- two of which the first one that is something counts, and none is: the first one is none
or_none : {X : Type 0} (x y : Option X) → option_or x y ≡ None → x ≡ None
or_none None y e = refl
or_none (Some z) y e = cc

room_by : (room : ℕ) (interfaces : List Interface) (o : ByteOrder) (k : BlockKind) (b : List ℕ) → k ≡ kind.InterfaceDescription → fields_error room interfaces o k b ≡ None → length interfaces < room
room_by room interfaces o kind.InterfaceDescription b i e = let first = or_none (let n : Option BlockError = None in if nat_lt (length interfaces) room then n else Some (error.TooManyInterfaces room)) (options_error o (slice_range b 16 (length b - 4))) e in grind (arith, nat_tests, first)
room_by room interfaces o kind.SectionHeader b i e = cc
room_by room interfaces o kind.ObsoletePacket b i e = cc
room_by room interfaces o kind.SimplePacket b i e = cc
room_by room interfaces o kind.EnhancedPacket b i e = cc
room_by room interfaces o kind.InterfaceStatistics b i e = cc
room_by room interfaces o kind.Other b i e = cc

else_none : {X : Type 0} (t : Bool) (x y : Option X) (z : X) → x ≡ Some z → (if t then x else y) ≡ None → y ≡ None
else_none true x y z a e = let i : Some z ≡ None = sym a ∙ e in cc
else_none false x y z a e = e

-- there is room for the interface of a block with which nothing is wrong
pub room_left : (room : ℕ) (interfaces : List Interface) (o : ByteOrder) (b : List ℕ) → whole_error room interfaces o b ≡ None → kind_of (block_type o b) ≡ kind.InterfaceDescription → length interfaces < room
room_left room interfaces o b e i =
    room_by room interfaces o (kind_of (block_type o b)) b i
    (else_none (not (number_at o b (length b - 4) == total_len o b)) _ _ (error.Lengths (total_len o b) (number_at o b (length b - 4))) refl e)

pub read_of : (limit room : ℕ) (c : Section) (offset : ℕ) (s : List ℕ) (o : ByteOrder) (k : ℕ) (b : List ℕ) (x : Next) → HasHead limit c.order s o k → b ≡ take k s → whole_error room c.interfaces o b ≡ None → IsGiven c.interfaces o b x
    → IsRead limit room c offset s o k x
read_of limit room c offset s o k b x h e right g =
    read limit room c offset s o k h (ap (whole_error room c.interfaces o) (sym e) ∙ right) x (subst (λ (t : List ℕ). IsGiven c.interfaces o t x) e g)

pub wrong_of : (limit room : ℕ) (c : Section) (offset : ℕ) (s : List ℕ) (o : ByteOrder) (k : ℕ) (b : List ℕ) (w : BlockError) → HasHead limit c.order s o k → b ≡ take k s → whole_error room c.interfaces o b ≡ Some w
    → IsNextBlock limit room c offset s (next.Error (capture.Block offset w))
wrong_of limit room c offset s o k b w h e wrong =
    let says = says_head limit c.order s o k h in
    let total : total_len (own_order c.order s) s ≡ k = ap (λ o. total_len o s) says.own ∙ sym h.len in
    let whole : block_error room c (take (total_len (own_order c.order s) s) s) ≡ Some w =
    ap (λ n. block_error room c (take n s)) total ∙ ap (λ o. whole_error room c.interfaces o (take k s)) says.own_block ∙ ap (whole_error room c.interfaces o) (sym e) ∙ wrong in
    (omega (arith, says.least, h.fits), (w, refl, inr (h.right, omega (arith, total, h.fits), whole)))
