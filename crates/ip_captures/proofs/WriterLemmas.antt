-- The blocks that are written, read again.
use Rattle.std.proofs.Common.{◌≡◌, ◌≢◌, [], ◌∷◌, ℕ, ◌+◌, ◌-◌, ◌*◌, ◌%◌, ◌^◌, ◌<◌, ◌≤◌, List, ◌++◌, length, take, drop, ap, arith, refl, ◌∙◌, sym}
use Rattle.std.proofs.lemmas.List.{length-append, append_assoc, append-nil, take_at, drop_at}
use Rattle.std.proofs.lemmas.Bool.Decides.{nat_tests}
use Rattle.std.specs.Prelude.{Some, None, slice_range}
use Rattle.std.specs.Option.{option_map_or, option_or}
use Rattle.ip_captures.specs.Numbers.{number_at, short_number_at}
use Rattle.ip_captures.specs.Options.{padded, options_error, option_code, option_len, option_value, value_len}
use Rattle.ip_captures.specs.Interface.{interface_in, ticks_in, offset_in}
use Rattle.ip_captures.specs.Block.{Section, kind_of, order_of, least_len, length_error, head_error, own_order, packet_error, fields_error, whole_error, IsBlock, entered, section_after, frame_of_kind, frame_of_block, packet_in, ticks_at}
use Rattle.ip_captures.specs.BlockWriter.{IsDescription, IsOptionWith, IsSectionHeader, IsPacketBlock, packet_kept, packet_block_len, AreOptions}
use Rattle.ip_captures.specs.declared.byte_order.ByteOrder.{ByteOrder}
use Rattle.ip_captures.specs.declared.byte_order.ByteOrder.TheVariants.{LittleEndian, BigEndian}
use Rattle.ip_captures.specs.declared.interface.Interface.{Interface}
use Rattle.ip_captures.specs.declared.block_writer.EnhancedPacket.{EnhancedPacket}
use Rattle.ip_captures.specs.declared.err.BlockError.TheVariants as error
use Rattle.ip_captures.proofs.NumberLemmas.{number_at-append, short_number_at-append, range-append}
use Rattle.ip_captures.proofs.OptionLemmas.{finds_options, error_after, value_after, value_here}
use Rattle.ip_captures.proofs.BlockLemmas.{packet_right, same_order}

-- what was appended after p, and before r
range_at : (p q r : List ℕ) (i j : ℕ) → length p ≡ i → i + length q ≡ j → slice_range ((p ++ q) ++ r) i j ≡ q
range_at p q r i j e f =
    let rest : drop i ((p ++ q) ++ r) ≡ q ++ r = ap (drop i) (append_assoc p q r) ∙ drop_at p (q ++ r) i e in
    ap (take (j - i)) rest ∙ take_at q r (j - i) (omega arith)

number_after : (o : ByteOrder) (p q : List ℕ) (i : ℕ) → length p ≡ i → length q ≡ 4 → number_at o (p ++ q) i ≡ number_at o q 0
number_after LittleEndian p q i e f =
    let four : i + 4 - i ≡ 4 - 0 = omega arith in
    let range : slice_range (p ++ q) i (i + 4) ≡ slice_range q 0 4 = ap (take (i + 4 - i)) (drop_at p q i e) ∙ ap (λ k. take k q) four in
    rw range refl
number_after BigEndian p q i e f =
    let four : i + 4 - i ≡ 4 - 0 = omega arith in
    let range : slice_range (p ++ q) i (i + 4) ≡ slice_range q 0 4 = ap (take (i + 4 - i)) (drop_at p q i e) ∙ ap (λ k. take k q) four in
    rw range refl

no_head_error : (limit least n : ℕ) → least ≤ n → n % 4 ≡ 0 → n ≤ limit → length_error limit least n ≡ None
no_head_error limit least n a b c = grind (arith, nat_tests)

-- A block of a kind other than a section header, by its first bytes.
pub record HasKind (o : ByteOrder) (t n : ℕ) (head : List ℕ) : Type 0 where
  pub len : 12 ≤ length head
  pub ordered : (c : ByteOrder) → order_of c head ≡ Some c
  pub type : number_at o head 0 ≡ t
  pub total : number_at o head 4 ≡ n

-- A block of n bytes with this head, and its total length at its end.
module _ (o : ByteOrder) (type n : ℕ) (head rest b : List ℕ) (h : HasKind o type n head) (joined : b ≡ head ++ rest) (len : length b ≡ n) (last : number_at o b (n - 4) ≡ n) where
  pub ordered : (c : ByteOrder) → order_of c b ≡ Some c
  ordered c = ap (order_of c) joined ∙ same_order head rest h.len c ∙ h.ordered c

  pub own : (c : ByteOrder) → own_order c b ≡ c
  own c = ap (λ x. option_map_or (λ o. o) x c) (ordered c)

  pub type_is : number_at o b 0 ≡ type
  type_is = ap (λ s. number_at o s 0) joined ∙ number_at-append o head rest 0 (omega (arith, h.len)) ∙ h.type

  pub total_is : number_at o b 4 ≡ n
  total_is = ap (λ s. number_at o s 4) joined ∙ number_at-append o head rest 4 (omega (arith, h.len)) ∙ h.total

  head_right : (limit : ℕ) → least_len (kind_of type) ≤ n → n % 4 ≡ 0 → n ≤ limit → head_error limit o b ≡ None
  head_right limit least whole fits =
      ap (λ x. option_map_or (λ o. length_error limit (least_len (kind_of (number_at o b 0))) (number_at o b 4)) x (Some error.UnknownByteOrder)) (ordered o)
      ∙ ap (λ t. length_error limit (least_len (kind_of t)) (number_at o b 4)) type_is
      ∙ ap (length_error limit (least_len (kind_of type))) total_is
      ∙ no_head_error limit (least_len (kind_of type)) n least whole fits

  all_right : (room : ℕ) (interfaces : List Interface) → fields_error room interfaces o (kind_of type) b ≡ None → whole_error room interfaces o b ≡ None
  all_right room interfaces right =
      let end : number_at o b (length b - 4) ≡ n = ap (λ k. number_at o b (k - 4)) len ∙ last in
      let same : number_at o b (length b - 4) ≡ number_at o b 4 = end ∙ sym total_is in
      let fields : fields_error room interfaces o (kind_of (number_at o b 0)) b ≡ None = ap (λ t. fields_error room interfaces o (kind_of t) b) type_is ∙ right in
      grind (arith, nat_tests, same, fields)

  pub is_block : (limit room : ℕ) (c : Section) → c.order ≡ o → least_len (kind_of type) ≤ n → n % 4 ≡ 0 → n ≤ limit → fields_error room c.interfaces o (kind_of type) b ≡ None
      → IsBlock limit room c b
  is_block limit room c e least whole fits right =
      let mine : own_order c.order b ≡ o = own c.order ∙ e in
      record {
        head = omega (arith, h.len, ap length joined, length-append head rest);
        head_right = ap (λ x. head_error limit x b) e ∙ head_right limit least whole fits;
        len = len ∙ sym total_is ∙ ap (λ x. number_at x b 4) (sym mine);
        right = ap (λ x. whole_error room c.interfaces x b) mine ∙ all_right room c.interfaces right;
      }

  pub section_is : (c : Section) → c.order ≡ o → section_after c b ≡ entered c o (kind_of type) b
  section_is c e =
      let mine : own_order c.order b ≡ o = own c.order ∙ e in
      ap (λ x. entered c x (kind_of (number_at x b 0)) b) mine ∙ ap (λ t. entered c o (kind_of t) b) type_is

  pub frame_is : (c : Section) → c.order ≡ o → frame_of_block c b ≡ frame_of_kind c.interfaces o (kind_of type) b
  frame_is c e =
      let mine : own_order c.order b ≡ o = own c.order ∙ e in
      ap (λ x. frame_of_kind c.interfaces x (kind_of (number_at x b 0)) b) mine ∙ ap (λ t. frame_of_kind c.interfaces o (kind_of t) b) type_is

-- The bytes before the captured ones in a packet's block of n bytes.
pub record IsPacketHead (o : ByteOrder) (p : EnhancedPacket) (n : ℕ) (head : List ℕ) : Type 0 where
  pub len : length head ≡ 28
  pub ordered : (c : ByteOrder) → order_of c head ≡ Some c
  pub type : number_at o head 0 ≡ 6
  pub total : number_at o head 4 ≡ n
  pub interface : number_at o head 8 ≡ p.interface
  pub ticks : ticks_at o head 12 ≡ p.ticks
  pub captured : number_at o head 20 ≡ length p.captured.now
  pub original : number_at o head 24 ≡ p.original_len

module _ (o : ByteOrder) (p : EnhancedPacket) (n : ℕ) (head padding last b : List ℕ) (h : IsPacketHead o p n head)
    (options : AreOptions o p.options.now) (size : n ≡ packet_block_len p) (pads : padded (length p.captured.now) ≡ length p.captured.now + length padding)
    (end : number_at o last 0 ≡ n) (four : length last ≡ 4) (joined : b ≡ (((head ++ p.captured.now) ++ padding) ++ p.options.now) ++ last) where
  abbrev s : List ℕ
  s = p.captured.now

  abbrev t : List ℕ
  t = p.options.now

  abbrev rest : List ℕ
  rest = s ++ (padding ++ (t ++ last))

  from_head : b ≡ head ++ rest
  from_head = joined ∙ append_assoc ((head ++ s) ++ padding) t last ∙ append_assoc (head ++ s) padding (t ++ last) ∙ append_assoc head s (padding ++ (t ++ last))

  before : length (((head ++ s) ++ padding) ++ t) ≡ 28 + length s + length padding + length t
  before = omega (arith, h.len, length-append ((head ++ s) ++ padding) t, length-append (head ++ s) padding, length-append head s)

  all : length b ≡ n
  all = omega (arith, ap length joined, before, four, length-append (((head ++ s) ++ padding) ++ t) last, size, pads)

  at : (i : ℕ) → i + 4 ≤ 28 → number_at o b i ≡ number_at o head i
  at i l = ap (λ q. number_at o q i) from_head ∙ number_at-append o head rest i (omega (arith, h.len))

  last_is : number_at o b (n - 4) ≡ n
  last_is = ap (λ q. number_at o q (n - 4)) joined ∙ number_after o (((head ++ s) ++ padding) ++ t) last (n - 4) (omega (arith, before, size, pads)) four ∙ end

  has : HasKind o 6 n head
  has = record { len = omega (arith, h.len); ordered = h.ordered; type = h.type; total = h.total }

  captured_is : slice_range b 28 (28 + number_at o b 20) ≡ s
  captured_is =
      let stated : number_at o b 20 ≡ length s = at 20 (omega arith) ∙ h.captured in
      ap (λ k. slice_range b 28 (28 + k)) stated
      ∙ ap (λ q. slice_range q 28 (28 + length s)) (joined ∙ append_assoc ((head ++ s) ++ padding) t last ∙ append_assoc (head ++ s) padding (t ++ last))
      ∙ range_at head s (padding ++ (t ++ last)) 28 (28 + length s) h.len refl

  options_are : slice_range b (28 + padded (length s)) (length b - 4) ≡ t
  options_are =
      let begins : length ((head ++ s) ++ padding) ≡ 28 + padded (length s) = omega (arith, h.len, pads, length-append (head ++ s) padding, length-append head s) in
      ap (λ q. slice_range q (28 + padded (length s)) (length b - 4)) joined
      ∙ range_at ((head ++ s) ++ padding) t last (28 + padded (length s)) (length b - 4) begins (omega (arith, all, size))

  whole : n % 4 ≡ 0
  whole = omega (arith, size, options.padded)

  fields : (room : ℕ) (interfaces : List Interface) → p.interface < length interfaces → fields_error room interfaces o (kind_of 6) b ≡ None
  fields room interfaces inside =
      let stated : number_at o b 20 ≡ length s = at 20 (omega arith) ∙ h.captured in
      let number : number_at o b 8 ≡ p.interface = at 8 (omega arith) ∙ h.interface in
      let right : options_error o (slice_range b (28 + padded (number_at o b 20)) (length b - 4)) ≡ None =
      ap (λ k. options_error o (slice_range b (28 + padded k) (length b - 4))) stated ∙ ap (options_error o) options_are ∙ options.right in
      let fits : packet_error interfaces (number_at o b 8) (number_at o b 20) (length b - 32) ≡ None =
      packet_right interfaces (number_at o b 8) (number_at o b 20) (length b - 32) (omega (arith, number, inside)) (omega (arith, stated, all, size, pads)) in
      ap (λ x. option_or x (options_error o (slice_range b (28 + padded (number_at o b 20)) (length b - 4)))) fits ∙ right

  frame : (interfaces : List Interface) → frame_of_kind interfaces o (kind_of 6) b ≡ Some (packet_kept interfaces p (length b))
  frame interfaces =
      let number : number_at o b 8 ≡ p.interface = at 8 (omega arith) ∙ h.interface in
      let ticks : ticks_at o b 12 ≡ p.ticks = ap (λ a. a * 2 ^ 32 + number_at o b 16) (at 12 (omega arith)) ∙ ap (λ a. number_at o head 12 * 2 ^ 32 + a) (at 16 (omega arith)) ∙ h.ticks in
      let original : number_at o b 24 ≡ p.original_len = at 24 (omega arith) ∙ h.original in
      ap (λ i. Some (packet_in interfaces b i (Some (ticks_at o b 12)) (number_at o b 24) (slice_range b 28 (28 + number_at o b 20)))) number
      ∙ ap (λ k. Some (packet_in interfaces b p.interface (Some k) (number_at o b 24) (slice_range b 28 (28 + number_at o b 20)))) ticks
      ∙ ap (λ k. Some (packet_in interfaces b p.interface (Some p.ticks) k (slice_range b 28 (28 + number_at o b 20)))) original
      ∙ ap (λ q. Some (packet_in interfaces b p.interface (Some p.ticks) p.original_len q)) captured_is

  pub is_packet : IsPacketBlock o p b
  is_packet = record {
    block = λ limit room c e inside fits. is_block o 6 n head rest b has from_head all last_is limit room c e (omega (arith, size)) whole (omega (arith, all, fits)) (fields room c.interfaces inside);
    frame = λ c e. frame_is o 6 n head rest b has from_head all last_is c e ∙ frame c.interfaces;
    section = λ c e. section_is o 6 n head rest b has from_head all last_is c e;
    options = options_are;
  }

-- an option of n bytes
pub is_option : (o : ByteOrder) (code n : ℕ) (head value padding p : List ℕ) → length head ≡ 4 → short_number_at o head 0 ≡ code → short_number_at o head 2 ≡ n → n ≡ length value
    → padded (length value) ≡ length value + length padding → p ≡ (((head ++ value) ++ padding) ++ []) ++ [] → IsOptionWith o code value p
is_option o code n head value padding p four is_code is_len same pads joined =
    let parts : p ≡ (head ++ value) ++ padding = joined ∙ append-nil (((head ++ value) ++ padding) ++ []) ∙ append-nil ((head ++ value) ++ padding) in
    let begins : p ≡ head ++ (value ++ padding) = parts ∙ append_assoc head value padding in
    let len : value_len o p ≡ length value = ap (λ q. short_number_at o q 2) begins ∙ short_number_at-append o head (value ++ padding) 2 (omega (arith, four)) ∙ is_len ∙ same in
    let all : length p ≡ 4 + length value + length padding = omega (arith, ap length parts, four, length-append (head ++ value) padding, length-append head value) in
    record {
      option = record { header = omega (arith, all); len = all ∙ sym (ap (λ k. 4 + padded k) len ∙ omega (arith, pads)) };
      code = ap (λ q. short_number_at o q 0) begins ∙ short_number_at-append o head (value ++ padding) 0 (omega (arith, four)) ∙ is_code;
      value = ap (λ k. slice_range p 4 (4 + k)) len ∙ ap (λ q. slice_range q 4 (4 + length value)) parts ∙ range_at head value padding 4 (4 + length value) four refl;
    }

-- the bytes of a section header
abbrev pub section_bytes : ByteOrder → List ℕ
section_bytes LittleEndian = 0x0a ∷ 0x0d ∷ 0x0d ∷ 0x0a ∷ 28 ∷ 0 ∷ 0 ∷ 0 ∷ 0x4d ∷ 0x3c ∷ 0x2b ∷ 0x1a ∷ 1 ∷ 0 ∷ 0 ∷ 0 ∷ 255 ∷ 255 ∷ 255 ∷ 255 ∷ 255 ∷ 255 ∷ 255 ∷ 255 ∷ 28 ∷ 0 ∷ 0 ∷ 0 ∷ []
section_bytes BigEndian = 0x0a ∷ 0x0d ∷ 0x0d ∷ 0x0a ∷ 0 ∷ 0 ∷ 0 ∷ 28 ∷ 0x1a ∷ 0x2b ∷ 0x3c ∷ 0x4d ∷ 0 ∷ 1 ∷ 0 ∷ 0 ∷ 255 ∷ 255 ∷ 255 ∷ 255 ∷ 255 ∷ 255 ∷ 255 ∷ 255 ∷ 0 ∷ 0 ∷ 0 ∷ 28 ∷ []

pub is_section : (o : ByteOrder) → IsSectionHeader o (section_bytes o)
is_section LittleEndian = record {
  block = λ limit room c fits. record { head = omega arith; head_right = no_head_error limit 28 28 (omega arith) refl fits; len = refl; right = refl };
  begins = λ c. refl;
  frame = λ c. refl;
}
is_section BigEndian = record {
  block = λ limit room c fits. record { head = omega arith; head_right = no_head_error limit 28 28 (omega arith) refl fits; len = refl; right = refl };
  begins = λ c. refl;
  frame = λ c. refl;
}

-- An option before others.
module _ (o : ByteOrder) (k : ℕ) (v p : List ℕ) (is : IsOptionWith o k v p) (some : k ≢ 0) (t : List ℕ) where
  found : option_len o (p ++ t) ≡ Some (length p)
  found = finds_options.only o p t is.option

  coded : option_code o (p ++ t) ≡ k
  coded = short_number_at-append o p t 0 (omega (arith, is.option.header)) ∙ is.code

  pub error_skips : options_error o (p ++ t) ≡ options_error o t
  error_skips = error_after o 0 (p ++ t) (length p) found (λ e. some (sym coded ∙ e)) ∙ ap (options_error o) (drop_at p t (length p) refl)

  pub value_skips : (j : ℕ) → j ≢ k → option_value o j (p ++ t) ≡ option_value o j t
  value_skips j other =
      value_after o j (p ++ t) (length p) found (λ e. some (sym coded ∙ e)) (λ e. other (sym e ∙ coded)) ∙ ap (option_value o j) (drop_at p t (length p) refl)

  pub value_is : option_value o k (p ++ t) ≡ Some v
  value_is =
      let len : value_len o (p ++ t) ≡ value_len o p = short_number_at-append o p t 2 (omega (arith, is.option.header)) in
      let fits : 4 + value_len o p ≤ length p = omega (arith, is.option.len) in
      value_here o k (p ++ t) (length p) found (λ e. some (sym coded ∙ e)) coded
      ∙ ap (λ n. Some (slice_range (p ++ t) 4 (4 + n))) len
      ∙ ap Some (range-append p t 4 (4 + value_len o p) (omega arith) fits ∙ is.value)

-- the end of options
pub end_right : (o : ByteOrder) → options_error o (0 ∷ 0 ∷ 0 ∷ 0 ∷ []) ≡ None
end_right LittleEndian = refl
end_right BigEndian = refl

pub end_has_none : (o : ByteOrder) (code : ℕ) → option_value o code (0 ∷ 0 ∷ 0 ∷ 0 ∷ []) ≡ None
end_has_none LittleEndian code = refl
end_has_none BigEndian code = refl

-- The bytes before the options in an interface's block of n bytes.
pub record IsInterfaceHead (o : ByteOrder) (i : Interface) (n : ℕ) (head : List ℕ) : Type 0 where
  pub len : length head ≡ 16
  pub ordered : (c : ByteOrder) → order_of c head ≡ Some c
  pub type : number_at o head 0 ≡ 1
  pub total : number_at o head 4 ≡ n
  pub link_type : short_number_at o head 8 ≡ i.link_type
  pub snap_len : number_at o head 12 ≡ i.snap_len

module _ (o : ByteOrder) (i : Interface) (n : ℕ) (head options last b : List ℕ) (h : IsInterfaceHead o i n head) (are : AreOptions o options)
    (size : n ≡ 20 + length options) (ticks : ticks_in o options ≡ i.ticks_per_second) (offset : offset_in o options ≡ i.offset)
    (end : number_at o last 0 ≡ n) (four : length last ≡ 4) (joined : b ≡ (head ++ options) ++ last) where
  from_start : b ≡ head ++ (options ++ last)
  from_start = joined ∙ append_assoc head options last

  whole_len : length b ≡ n
  whole_len = omega (arith, ap length joined, h.len, four, size, length-append (head ++ options) last, length-append head options)

  ends : number_at o b (n - 4) ≡ n
  ends = ap (λ q. number_at o q (n - 4)) joined ∙ number_after o (head ++ options) last (n - 4) (omega (arith, h.len, size, length-append head options)) four ∙ end

  options_between : slice_range b 16 (length b - 4) ≡ options
  options_between = ap (λ q. slice_range q 16 (length b - 4)) joined ∙ range_at head options last 16 (length b - 4) h.len (omega (arith, whole_len, size))

  kinded : HasKind o 1 n head
  kinded = record { len = omega (arith, h.len); ordered = h.ordered; type = h.type; total = h.total }

  right : (room : ℕ) (interfaces : List Interface) → length interfaces < room → fields_error room interfaces o (kind_of 1) b ≡ None
  right room interfaces less =
      let options_right : options_error o (slice_range b 16 (length b - 4)) ≡ None = ap (options_error o) options_between ∙ are.right in
      grind (arith, nat_tests, less, options_right)

  interface_is : interface_in o b ≡ i
  interface_is =
      let link : short_number_at o b 8 ≡ i.link_type = ap (λ q. short_number_at o q 8) from_start ∙ short_number_at-append o head (options ++ last) 8 (omega (arith, h.len)) ∙ h.link_type in
      let snap : number_at o b 12 ≡ i.snap_len = ap (λ q. number_at o q 12) from_start ∙ number_at-append o head (options ++ last) 12 (omega (arith, h.len)) ∙ h.snap_len in
      let clock : ticks_in o (slice_range b 16 (length b - 4)) ≡ i.ticks_per_second = ap (ticks_in o) options_between ∙ ticks in
      let moved : offset_in o (slice_range b 16 (length b - 4)) ≡ i.offset = ap (offset_in o) options_between ∙ offset in
      let made : ℕ → ℕ → ℕ → ℕ → Interface = λ l s t f. record { link_type = l; snap_len = s; ticks_per_second = t; offset = f } in
      ap (λ l. made l (number_at o b 12) (ticks_in o (slice_range b 16 (length b - 4))) (offset_in o (slice_range b 16 (length b - 4)))) link
      ∙ ap (λ s. made i.link_type s (ticks_in o (slice_range b 16 (length b - 4))) (offset_in o (slice_range b 16 (length b - 4)))) snap
      ∙ ap (λ t. made i.link_type i.snap_len t (offset_in o (slice_range b 16 (length b - 4)))) clock
      ∙ ap (λ f. made i.link_type i.snap_len i.ticks_per_second f) moved

  pub is_description : IsDescription o i b
  is_description = record {
    block = λ limit room c e less fits.
        is_block o 1 n head (options ++ last) b kinded from_start whole_len ends limit room c e (omega (arith, size)) (omega (arith, size, are.padded)) (omega (arith, whole_len, fits)) (right room c.interfaces less);
    described = λ c e.
        section_is o 1 n head (options ++ last) b kinded from_start whole_len ends c e
        ∙ ap (λ x. record c { interfaces = c.interfaces ++ x ∷ [] }) interface_is;
    frame = λ c e. frame_is o 1 n head (options ++ last) b kinded from_start whole_len ends c e;
  }

-- no padding
pub unpadded : (head z options last b : List ℕ) → padded 0 ≡ 0 + length z → b ≡ (((head ++ []) ++ z) ++ options) ++ last → b ≡ (head ++ options) ++ last
unpadded head [] options last b pads joined = joined ∙ ap (λ q. (q ++ options) ++ last) (append-nil (head ++ []) ∙ append-nil head)
unpadded head (x ∷ z) options last b pads joined = absurd (omega (arith, pads))
