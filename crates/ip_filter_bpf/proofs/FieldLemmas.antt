-- Fields of base headers: what tests compare, and what instructions load.
use Rattle.std.proofs.Common.{◌≡◌, ◌≢◌, ◌⊎◌, ℕ, ◌+◌, ◌-◌, ◌*◌, ◌/◌, ◌%◌, ◌^◌, ◌<◌, ◌≤◌, Bool, true, false, cond, ◌&&◌, not, nat_lt, nat_le, bit_and, List, length, take, inl, inr, refl, sym, ap, subst, ◌∙◌, arith, ne_eqb}
use Rattle.std.specs.Prelude.{Option, Some, None, ◌==◌, slice_index}
use Rattle.std.specs.Option.{option_map_or}
use Rattle.std.proofs.Math.Nat.{div-le_self}
use Rattle.std.proofs.lemmas.Nat.{and_mask}
use Rattle.std.proofs.lemmas.Grind.{common_steps}
use Rattle.std.proofs.lemmas.Bool.{cases_lt, lt-ltb, le-ltb, le-leb, lt-leb}
use Rattle.std.proofs.lemmas.Bool.Decides.{eqb_tells}
use Rattle.std.proofs.lemmas.List.{get_or-take}
use Rattle.ip_base.specs.Ipv4Header.{ipv4_header_len}
use Rattle.ip_bpf.specs.Machine.{number_at, width_len, holds}
use Rattle.ip_bpf.specs.declared.instruction.Width.{Width}
use Rattle.ip_bpf.specs.declared.instruction.Width.TheVariants as width
use Rattle.ip_bpf.specs.declared.instruction.Comparison.TheVariants as by
use Rattle.ip_dissect.specs.Dissection.{DissectedParts, dissected}
use Rattle.ip_filter.specs.Tests.{meets, compared, comparison_in}
use Rattle.ip_filter.specs.Truth.{compares, quantity_of}
use Rattle.ip_filter.specs.declared.filter.Test.{Test}
use Rattle.ip_filter.specs.declared.term.Comparison.{Comparison}
use Rattle.ip_filter.specs.declared.term.Quantity.{Quantity}
use Rattle.ip_filter.specs.declared.term.Quantity.TheVariants as quantity
use Rattle.ip_filter_bpf.specs.Blocks.{HasBytes}
use Rattle.ip_filter_bpf.specs.Compiled.{number_of, room_of}
use Rattle.ip_filter_bpf.specs.Fields.{field_value, field_at, field_of, compares_field}
use Rattle.ip_filter_bpf.specs.declared.fields.Field.{Field}
use Rattle.ip_filter_bpf.specs.declared.version.Version.{Version}
use Rattle.ip_filter_bpf.specs.declared.version.Version.TheVariants as version
use Rattle.ip_filter_bpf.proofs.PacketLemmas.{starts4, starts6, at4, at6, least4, long4, long6, below_or_not}

-- ---- what is loaded

pub number_small : (packet : List ℕ) (k : ℕ) (w : Width) → HasBytes packet → number_at packet k w < 2 ^ 32
number_small packet k width.Word bytes =
    let a = bytes k in let b = bytes (k + 1) in let c = bytes (k + 2) in let d = bytes (k + 3) in
    omega (arith, a, b, c, d)
number_small packet k width.HalfWord bytes =
    let a = bytes k in let b = bytes (k + 1) in
    omega (arith, a, b)
number_small packet k width.Byte bytes = let a = bytes k in omega (arith, a)

pub shifted_small : (n k : ℕ) → n < 2 ^ 32 → n / 2 ^ k < 2 ^ 32
shifted_small n k small = let less = div-le_self n (2 ^ k) in omega (arith, small, less)

byte_as_it_is : (n : ℕ) → n < 256 → bit_and (n / 2 ^ 0) 0xffff_ffff ≡ n
byte_as_it_is n small = and_mask (n / 2 ^ 0) 32 ∙ omega arith

high_six : (n : ℕ) → n < 256 → bit_and (n / 2 ^ 2) 0xffff_ffff ≡ n / 4
high_six n small = and_mask (n / 2 ^ 2) 32 ∙ omega arith

low_two : (n : ℕ) → bit_and (n / 2 ^ 0) 3 ≡ n % 4
low_two n = and_mask (n / 2 ^ 0) 2 ∙ omega arith

class_high : (a b : ℕ) → a < 256 → b < 256 → bit_and ((256 * a + b) / 2 ^ 6) 63 ≡ (16 * (a % 16) + b / 16) / 4
class_high a b small_a small_b = and_mask ((256 * a + b) / 2 ^ 6) 6 ∙ omega arith

class_low : (a b : ℕ) → a < 256 → b < 256 → bit_and ((256 * a + b) / 2 ^ 4) 3 ≡ (16 * (a % 16) + b / 16) % 4
class_low a b small_a small_b = and_mask ((256 * a + b) / 2 ^ 4) 2 ∙ omega arith

label_low : (a b c d : ℕ) → a < 256 → b < 256 → c < 256 → d < 256
    → bit_and ((0x100_0000 * a + 0x1_0000 * b + 0x100 * c + d) / 2 ^ 0) 0xf_ffff ≡ 65536 * (b % 16) + 256 * c + d
label_low a b c d small_a small_b small_c small_d = and_mask ((0x100_0000 * a + 0x1_0000 * b + 0x100 * c + d) / 2 ^ 0) 20 ∙ omega arith

-- ---- the fields of a packet

-- the packet has the quantity in the field
pub record HasField (q : Quantity) (f : Field) (s : List ℕ) : Type 0 where
  pub value : quantity_of q (dissected s) ≡ Some (field_value f s)
  pub small : field_value f s < 2 ^ 32 - 1
  pub there : f.offset + width_len f.width ≤ length s

module _ (s : List ℕ) (bytes : HasBytes s) (four : (dissected s).version ≡ 4) where
  in_base4 : (i : ℕ) → i < 20 → slice_index (take (ipv4_header_len s) s) i ≡ slice_index s i
  in_base4 i less =
      let is = starts4 s four in
      let l = least4 s is.none is.version in
      get_or-take (ipv4_header_len s) s i 0 (omega (arith, l.0, less))

  ttl4 : HasField quantity.HopLimit (field_at width.Byte 8 0 0xffff_ffff) s
  ttl4 =
      let is = starts4 s four in
      let b = bytes 8 in
      let long = long4 s four in
      let e : field_value (field_at width.Byte 8 0 0xffff_ffff) s ≡ slice_index s 8 = byte_as_it_is (slice_index s 8) b in
      record {
        value = ap (quantity_of quantity.HopLimit) (at4 s is.none is.version) ∙ ap Some (in_base4 8 (omega arith) ∙ sym e);
        small = subst (λ (n : ℕ). n < 2 ^ 32 - 1) (sym e) (omega (arith, b));
        there = omega (arith, long);
      }

  dscp4 : HasField quantity.Dscp (field_at width.Byte 1 2 0xffff_ffff) s
  dscp4 =
      let is = starts4 s four in
      let b = bytes 1 in
      let long = long4 s four in
      let e : field_value (field_at width.Byte 1 2 0xffff_ffff) s ≡ slice_index s 1 / 4 = high_six (slice_index s 1) b in
      record {
        value = ap (quantity_of quantity.Dscp) (at4 s is.none is.version) ∙ ap Some (ap (λ (n : ℕ). n / 4) (in_base4 1 (omega arith)) ∙ sym e);
        small = subst (λ (n : ℕ). n < 2 ^ 32 - 1) (sym e) (omega (arith, b));
        there = omega (arith, long);
      }

  ecn4 : HasField quantity.Ecn (field_at width.Byte 1 0 3) s
  ecn4 =
      let is = starts4 s four in
      let b = bytes 1 in
      let long = long4 s four in
      let e : field_value (field_at width.Byte 1 0 3) s ≡ slice_index s 1 % 4 = low_two (slice_index s 1) in
      record {
        value = ap (quantity_of quantity.Ecn) (at4 s is.none is.version) ∙ ap Some (ap (λ (n : ℕ). n % 4) (in_base4 1 (omega arith)) ∙ sym e);
        small = subst (λ (n : ℕ). n < 2 ^ 32 - 1) (sym e) (omega (arith, b));
        there = omega (arith, long);
      }

  no_flow4 : quantity_of quantity.FlowLabel (dissected s) ≡ None
  no_flow4 = rw four refl

module _ (s : List ℕ) (bytes : HasBytes s) (six : (dissected s).version ≡ 6) where
  in_base6 : (i : ℕ) → i < 40 → slice_index (take 40 s) i ≡ slice_index s i
  in_base6 i less = get_or-take 40 s i 0 less

  hop6 : HasField quantity.HopLimit (field_at width.Byte 7 0 0xffff_ffff) s
  hop6 =
      let is = starts6 s six in
      let b = bytes 7 in
      let long = long6 s six in
      let e : field_value (field_at width.Byte 7 0 0xffff_ffff) s ≡ slice_index s 7 = byte_as_it_is (slice_index s 7) b in
      record {
        value = ap (quantity_of quantity.HopLimit) (at6 s is.none is.other) ∙ ap Some (in_base6 7 (omega arith) ∙ sym e);
        small = subst (λ (n : ℕ). n < 2 ^ 32 - 1) (sym e) (omega (arith, b));
        there = omega (arith, long);
      }

  dscp6 : HasField quantity.Dscp (field_at width.HalfWord 0 6 63) s
  dscp6 =
      let is = starts6 s six in
      let a = bytes 0 in
      let b = bytes 1 in
      let long = long6 s six in
      let e : field_value (field_at width.HalfWord 0 6 63) s ≡ (16 * (slice_index s 0 % 16) + slice_index s 1 / 16) / 4 = class_high (slice_index s 0) (slice_index s 1) a b in
      record {
        value = ap (quantity_of quantity.Dscp) (at6 s is.none is.other)
            ∙ ap (λ (n : ℕ). Some ((16 * (n % 16) + slice_index (take 40 s) 1 / 16) / 4)) (in_base6 0 (omega arith))
            ∙ ap (λ (n : ℕ). Some ((16 * (slice_index s 0 % 16) + n / 16) / 4)) (in_base6 1 (omega arith))
            ∙ ap Some (sym e);
        small = subst (λ (n : ℕ). n < 2 ^ 32 - 1) (sym e) (omega (arith, a, b));
        there = omega (arith, long);
      }

  ecn6 : HasField quantity.Ecn (field_at width.HalfWord 0 4 3) s
  ecn6 =
      let is = starts6 s six in
      let a = bytes 0 in
      let b = bytes 1 in
      let long = long6 s six in
      let e : field_value (field_at width.HalfWord 0 4 3) s ≡ (16 * (slice_index s 0 % 16) + slice_index s 1 / 16) % 4 = class_low (slice_index s 0) (slice_index s 1) a b in
      record {
        value = ap (quantity_of quantity.Ecn) (at6 s is.none is.other)
            ∙ ap (λ (n : ℕ). Some ((16 * (n % 16) + slice_index (take 40 s) 1 / 16) % 4)) (in_base6 0 (omega arith))
            ∙ ap (λ (n : ℕ). Some ((16 * (slice_index s 0 % 16) + n / 16) % 4)) (in_base6 1 (omega arith))
            ∙ ap Some (sym e);
        small = subst (λ (n : ℕ). n < 2 ^ 32 - 1) (sym e) (omega (arith, a, b));
        there = omega (arith, long);
      }

  flow6 : HasField quantity.FlowLabel (field_at width.Word 0 0 0xf_ffff) s
  flow6 =
      let is = starts6 s six in
      let a = bytes 0 in
      let b = bytes 1 in
      let c = bytes 2 in
      let d = bytes 3 in
      let long = long6 s six in
      let e : field_value (field_at width.Word 0 0 0xf_ffff) s ≡ 65536 * (slice_index s 1 % 16) + 256 * slice_index s 2 + slice_index s 3 = label_low (slice_index s 0) (slice_index s 1) (slice_index s 2) (slice_index s 3) a b c d in
      record {
        value = ap (quantity_of quantity.FlowLabel) (at6 s is.none is.other)
            ∙ ap (λ (n : ℕ). Some (65536 * (n % 16) + 256 * slice_index (take 40 s) 2 + slice_index (take 40 s) 3)) (in_base6 1 (omega arith))
            ∙ ap (λ (n : ℕ). Some (65536 * (slice_index s 1 % 16) + 256 * n + slice_index (take 40 s) 3)) (in_base6 2 (omega arith))
            ∙ ap (λ (n : ℕ). Some (65536 * (slice_index s 1 % 16) + 256 * slice_index s 2 + n)) (in_base6 3 (omega arith))
            ∙ ap Some (sym e);
        small = subst (λ (n : ℕ). n < 2 ^ 32 - 1) (sym e) (omega (arith, a, b, c, d));
        there = omega (arith, long);
      }

-- ---- tests

-- the test compares the field
pub record Compares (x : Test) (f : Field) (s : List ℕ) : Type 0 where
  pub met : meets x (dissected s) ≡ option_map_or (λ c. compares c (field_value f s) x.number) (comparison_in x.comparison) false
  pub small : field_value f s < 2 ^ 32 - 1
  pub there : f.offset + width_len f.width ≤ length s

-- the test compares the field, or no packet meets it
abbrev pub ComparesIfSome : Test → List ℕ → Option Field → Type 0
ComparesIfSome x s None = meets x (dissected s) ≡ false
ComparesIfSome x s (Some f) = Compares x f s

module _ (x : Test) (q : Quantity) (s : List ℕ) (is : meets x (dissected s) ≡ compared x q (dissected s)) where
  by_field : (f : Field) → HasField q f s → Compares x f s
  by_field f has = record {
    met = is ∙ ap (λ (o : Option ℕ). option_map_or (λ c. option_map_or (λ n. compares c n x.number) o false) (comparison_in x.comparison) false) has.value;
    small = has.small;
    there = has.there;
  }

  never : (o : Option Comparison) → option_map_or (λ (c : Comparison). false) o false ≡ false
  never None = refl
  never (Some c) = refl

  by_no_field : quantity_of q (dissected s) ≡ None → meets x (dissected s) ≡ false
  by_no_field none =
      is
      ∙ ap (λ (o : Option ℕ). option_map_or (λ c. option_map_or (λ n. compares c n x.number) o false) (comparison_in x.comparison) false) none
      ∙ never (comparison_in x.comparison)

hop_limit : (x : Test) (p : DissectedParts) → x.kind ≡ 12 → meets x p ≡ compared x quantity.HopLimit p
hop_limit x p kind = rw kind refl

dscp : (x : Test) (p : DissectedParts) → x.kind ≡ 13 → meets x p ≡ compared x quantity.Dscp p
dscp x p kind = rw kind refl

ecn : (x : Test) (p : DissectedParts) → x.kind ≡ 14 → meets x p ≡ compared x quantity.Ecn p
ecn x p kind = rw kind refl

flow : (x : Test) (p : DissectedParts) → x.kind ≡ 15 → meets x p ≡ compared x quantity.FlowLabel p
flow x p kind = rw kind refl

no_quantity : (p : DissectedParts) → p.version ≡ 0 → (quantity_of quantity.HopLimit p ≡ None) × (quantity_of quantity.Dscp p ≡ None) × (quantity_of quantity.Ecn p ≡ None) × (quantity_of quantity.FlowLabel p ≡ None)
no_quantity p zero = (rw zero refl, rw zero refl, rw zero refl, rw zero refl)

pub kinds : (k : ℕ) → compares_field k ≡ true → (k ≡ 12) ⊎ ((k ≡ 13) ⊎ ((k ≡ 14) ⊎ (k ≡ 15)))
kinds k h = grind (arith, common_steps, eqb_tells)

module _ (x : Test) (s : List ℕ) (bytes : HasBytes s) where
  says12 : (v : Version) → x.kind ≡ 12 → (dissected s).version ≡ number_of v → ComparesIfSome x s (field_of 12 v)
  says12 version.None kind is = by_no_field x quantity.HopLimit s (hop_limit x (dissected s) kind) (no_quantity (dissected s) is).0
  says12 version.Ipv4 kind is = by_field x quantity.HopLimit s (hop_limit x (dissected s) kind) _ (ttl4 s bytes is)
  says12 version.Ipv6 kind is = by_field x quantity.HopLimit s (hop_limit x (dissected s) kind) _ (hop6 s bytes is)

  says13 : (v : Version) → x.kind ≡ 13 → (dissected s).version ≡ number_of v → ComparesIfSome x s (field_of 13 v)
  says13 version.None kind is = by_no_field x quantity.Dscp s (dscp x (dissected s) kind) (no_quantity (dissected s) is).1
  says13 version.Ipv4 kind is = by_field x quantity.Dscp s (dscp x (dissected s) kind) _ (dscp4 s bytes is)
  says13 version.Ipv6 kind is = by_field x quantity.Dscp s (dscp x (dissected s) kind) _ (dscp6 s bytes is)

  says14 : (v : Version) → x.kind ≡ 14 → (dissected s).version ≡ number_of v → ComparesIfSome x s (field_of 14 v)
  says14 version.None kind is = by_no_field x quantity.Ecn s (ecn x (dissected s) kind) (no_quantity (dissected s) is).2
  says14 version.Ipv4 kind is = by_field x quantity.Ecn s (ecn x (dissected s) kind) _ (ecn4 s bytes is)
  says14 version.Ipv6 kind is = by_field x quantity.Ecn s (ecn x (dissected s) kind) _ (ecn6 s bytes is)

  says15 : (v : Version) → x.kind ≡ 15 → (dissected s).version ≡ number_of v → ComparesIfSome x s (field_of 15 v)
  says15 version.None kind is = by_no_field x quantity.FlowLabel s (flow x (dissected s) kind) (no_quantity (dissected s) is).3
  says15 version.Ipv4 kind is = by_no_field x quantity.FlowLabel s (flow x (dissected s) kind) (no_flow4 s bytes is)
  says15 version.Ipv6 kind is = by_field x quantity.FlowLabel s (flow x (dissected s) kind) _ (flow6 s bytes is)

  pub says : (v : Version) → compares_field x.kind ≡ true → (dissected s).version ≡ number_of v → ComparesIfSome x s (field_of x.kind v)
  says v h is = elim (kinds x.kind h) [
    | inl kind ↦ subst (λ (k : ℕ). ComparesIfSome x s (field_of k v)) (sym kind) (says12 v kind is)
    | inr (inl kind) ↦ subst (λ (k : ℕ). ComparesIfSome x s (field_of k v)) (sym kind) (says13 v kind is)
    | inr (inr (inl kind)) ↦ subst (λ (k : ℕ). ComparesIfSome x s (field_of k v)) (sym kind) (says14 v kind is)
    | inr (inr (inr kind)) ↦ subst (λ (k : ℕ). ComparesIfSome x s (field_of k v)) (sym kind) (says15 v kind is)
  ]

-- ---- the field that a test compares

pub record Fits (v : Version) (f : Field) : Type 0 where
  pub room : 6 ≤ 2 * room_of v
  pub near : f.offset < 64
  pub few : f.shift < 32

fits4 : (a b c : Bool) (f : Field) → cond a (Some (field_at width.Byte 8 0 0xffff_ffff)) (cond b (Some (field_at width.Byte 1 2 0xffff_ffff)) (cond c (Some (field_at width.Byte 1 0 3)) None)) ≡ Some f → Fits version.Ipv4 f
fits4 true b c f e = let same : field_at width.Byte 8 0 0xffff_ffff ≡ f = cc in subst (Fits version.Ipv4) same (record { room = omega arith; near = omega arith; few = omega arith })
fits4 false true c f e = let same : field_at width.Byte 1 2 0xffff_ffff ≡ f = cc in subst (Fits version.Ipv4) same (record { room = omega arith; near = omega arith; few = omega arith })
fits4 false false true f e = let same : field_at width.Byte 1 0 3 ≡ f = cc in subst (Fits version.Ipv4) same (record { room = omega arith; near = omega arith; few = omega arith })
fits4 false false false f e = absurd (let no : ⊥ = cc in no)

fits6 : (a b c d : Bool) (f : Field) → cond a (Some (field_at width.Byte 7 0 0xffff_ffff)) (cond b (Some (field_at width.HalfWord 0 6 63)) (cond c (Some (field_at width.HalfWord 0 4 3)) (cond d (Some (field_at width.Word 0 0 0xf_ffff)) None))) ≡ Some f → Fits version.Ipv6 f
fits6 true b c d f e = let same : field_at width.Byte 7 0 0xffff_ffff ≡ f = cc in subst (Fits version.Ipv6) same (record { room = omega arith; near = omega arith; few = omega arith })
fits6 false true c d f e = let same : field_at width.HalfWord 0 6 63 ≡ f = cc in subst (Fits version.Ipv6) same (record { room = omega arith; near = omega arith; few = omega arith })
fits6 false false true d f e = let same : field_at width.HalfWord 0 4 3 ≡ f = cc in subst (Fits version.Ipv6) same (record { room = omega arith; near = omega arith; few = omega arith })
fits6 false false false true f e = let same : field_at width.Word 0 0 0xf_ffff ≡ f = cc in subst (Fits version.Ipv6) same (record { room = omega arith; near = omega arith; few = omega arith })
fits6 false false false false f e = absurd (let no : ⊥ = cc in no)

pub fits : (kind : ℕ) (v : Version) (f : Field) → field_of kind v ≡ Some f → Fits v f
fits kind version.None f e = absurd (let no : ⊥ = cc in no)
fits kind version.Ipv4 f e = fits4 (kind == 12) (kind == 13) (kind == 14) f e
fits kind version.Ipv6 f e = fits6 (kind == 12) (kind == 13) (kind == 14) (kind == 15) f e

-- ---- comparisons

-- k is the number n, or the greatest of 32 bits if n is greater
pub record Lowered (n k : ℕ) : Type 0 where
  pub same : n < 2 ^ 32 → k ≡ n
  pub more : 2 ^ 32 ≤ n → k ≡ 2 ^ 32 - 1

module _ (a n k : ℕ) (small : a < 2 ^ 32 - 1) (low : Lowered n k) where
  same_equal : (a == n) ≡ (a == k)
  same_equal = elim (cases_lt n (2 ^ 32)) [
    | inl less ↦ ap (λ (j : ℕ). a == j) (sym (low.same less))
    | inr above ↦
        let e = low.more above in
        let x : a ≢ n = omega arith in
        let y : a ≢ k = omega (arith, e) in
        ne_eqb a n x ∙ sym (ne_eqb a k y)
  ]

  same_greater : nat_lt n a ≡ nat_lt k a
  same_greater = elim (cases_lt n (2 ^ 32)) [
    | inl less ↦ ap (λ (j : ℕ). nat_lt j a) (sym (low.same less))
    | inr above ↦
        let e = low.more above in
        let x : a ≤ n = omega arith in
        let y : a ≤ k = omega (arith, e) in
        le-ltb n a x ∙ sym (le-ltb k a y)
  ]

  same_least : nat_le n a ≡ nat_le k a
  same_least = elim (cases_lt n (2 ^ 32)) [
    | inl less ↦ ap (λ (j : ℕ). nat_le j a) (sym (low.same less))
    | inr above ↦
        let e = low.more above in
        let x : a < n = omega arith in
        let y : a < k = omega (arith, e) in
        lt-leb n a x ∙ sym (lt-leb k a y)
  ]

turned_round : (t : Bool) (l m : ℕ) → cond (not t) l m ≡ cond t m l
turned_round true l m = refl
turned_round false l m = refl

twice_turned : (t : Bool) (l m : ℕ) → cond (not (not t)) l m ≡ cond t l m
twice_turned true l m = refl
twice_turned false l m = refl

-- where a comparison leads, by its code
module _ (x : Test) (a k l m : ℕ) (small : a < 2 ^ 32 - 1) (low : Lowered x.number k) where
  abbrev leads_to : ℕ
  leads_to = cond (option_map_or (λ c. compares c a x.number) (comparison_in x.comparison) false) l m

  pub equal : x.comparison ≡ 1 → leads_to ≡ cond (holds by.Equal a k) l m
  equal is = rw is (ap (λ t. cond t l m) (same_equal a x.number k small low))

  pub not_equal : x.comparison ≡ 2 → leads_to ≡ cond (holds by.Equal a k) m l
  not_equal is = rw is (turned_round (a == x.number) l m ∙ ap (λ t. cond t m l) (same_equal a x.number k small low))

  pub less : x.comparison ≡ 3 → leads_to ≡ cond (holds by.GreaterOrEqual a k) m l
  less is = rw is (ap (λ t. cond t l m) (below_or_not a x.number) ∙ turned_round (nat_le x.number a) l m ∙ ap (λ t. cond t m l) (same_least a x.number k small low))

  pub at_most : x.comparison ≡ 4 → leads_to ≡ cond (holds by.Greater a k) m l
  at_most is = rw is (turned_round (nat_lt x.number a) l m ∙ ap (λ t. cond t m l) (same_greater a x.number k small low))

  pub greater : x.comparison ≡ 5 → leads_to ≡ cond (holds by.Greater a k) l m
  greater is = rw is (ap (λ t. cond t l m) (same_greater a x.number k small low))

  pub at_least : x.comparison ≡ 6 → leads_to ≡ cond (holds by.GreaterOrEqual a k) l m
  at_least is = rw is (ap (λ t. cond (not t) l m) (below_or_not a x.number) ∙ twice_turned (nat_le x.number a) l m ∙ ap (λ t. cond t l m) (same_least a x.number k small low))

  pub no_comparison : x.comparison ≢ 1 → x.comparison ≢ 2 → x.comparison ≢ 3 → x.comparison ≢ 4 → x.comparison ≢ 5 → x.comparison ≢ 6 → leads_to ≡ m
  no_comparison one two three four five six = rw (ne_eqb x.comparison 1 one, ne_eqb x.comparison 2 two, ne_eqb x.comparison 3 three, ne_eqb x.comparison 4 four, ne_eqb x.comparison 5 five, ne_eqb x.comparison 6 six) refl
