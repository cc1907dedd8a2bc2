-- The addresses of a routing header.
use Rattle.std.proofs.Math.Nat.{mul-mod_left, mul-div_cancel}
use Rattle.ip_spec.proofs.Common.{◌≡◌, ℕ, ◌-◌, ◌*◌, ◌/◌, ◌%◌, List, length, slice_index, ◌≤◌, ◌<◌, rules, refl, sym, ap, ◌∙◌, arith}
use Rattle.ip_header_contents.specs.Routing.{IsLayout, IsCompressedLayout}
use Rattle.ip_header_contents.specs.declared.routing_layout.AddressLayout.{AddressLayout}

-- without the last address and the padding, the others have the length of several
module _ (b : List ℕ) (x : AddressLayout) (is : IsCompressedLayout b x) (last_len padding len left : ℕ) where
  pub others : last_len ≡ 16 - slice_index b 4 % 16 → padding ≡ slice_index b 5 / 16 → len ≡ 16 - slice_index b 4 / 16 → left ≡ length b - 8 - last_len - padding → left % len ≡ 0
  others el ep en eq =
      let all : left ≡ (x.count - 1) * x.len = omega (arith, eq, is.whole, is.last_len, el, ep) in
      rw (all, en, sym is.len) (mul-mod_left (x.count - 1) x.len)

abbrev made : ℕ → ℕ → ℕ → AddressLayout
made count len last_len = record { count = count; len = len; last_len = last_len }

same_layout : (x y : AddressLayout) → x.count ≡ y.count → x.len ≡ y.len → x.last_len ≡ y.last_len → x ≡ y
same_layout x y ec el ek =
    let same : made x.count x.len x.last_len ≡ made y.count y.len y.last_len = rw (ec, el, ek) refl in
    same

same_count : (c d n : ℕ) → 1 ≤ c → 1 ≤ d → 1 ≤ n → (c - 1) * n ≡ (d - 1) * n → c ≡ d
same_count c d n some_c some_d some_n e =
    let less : c - 1 ≡ d - 1 = sym (mul-div_cancel (c - 1) some_n) ∙ ap (λ k. k / n) e ∙ mul-div_cancel (d - 1) some_n in
    omega (arith, less, some_c, some_d)

one_compressed : (b : List ℕ) (x y : AddressLayout) → slice_index b 4 < 256 → IsCompressedLayout b x → IsCompressedLayout b y → x ≡ y
one_compressed b x y byte p q =
    let len : x.len ≡ y.len = p.len ∙ sym q.len in
    let some : 1 ≤ x.len = omega (arith, byte, p.len) in
    let all : (x.count - 1) * x.len ≡ (y.count - 1) * x.len = rw len (omega (arith, rw len at p.whole, q.whole, p.last_len, q.last_len)) in
    same_layout x y (same_count x.count y.count x.len p.some q.some some all) len (p.last_len ∙ sym q.last_len)

pub one_layout : (b : List ℕ) (x y : AddressLayout) → slice_index b 4 < 256 → IsLayout b x → IsLayout b y → x ≡ y
one_layout b x y byte p q = search (one_compressed, rules)
