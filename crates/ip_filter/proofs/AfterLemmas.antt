-- What follows the packet changes no formula.
use Rattle.ip_spec.proofs.Common.{◌≡◌, ℕ, ◌≤◌, List, length, take, refl, sym, ap, ◌∙◌, arith, common_steps, get_or, get_or-take, take-take, length-take-le, eqb_tells, eq-eqb, ◌%◌, ◌/◌, ◌*◌, inl, inr, Bool, false, not, ◌&&◌, ◌||◌, Option, None, Some, none-some, option_map_or, slice_index}
use Rattle.std.proofs.Common.{max, bit_and}
use Rattle.ip_base.specs.Ipv4Header.{version, ihl, ipv4_header_len}
use Rattle.ip_dissect.specs.Extent.{packet_bytes, missing_of, ipv4_stated, ipv6_stated}
use Rattle.ip_dissect.specs.End.{base_end}
use Rattle.ip_dissect.specs.Dissection.{DissectedParts, without_base, ipv4_dissected, ipv6_dissected, dissected}
use Rattle.ip_dissect.specs.declared.end.End.{End}
use Rattle.ip_filter.specs.Truth.{compares, quantity_of, holds}
use Rattle.ip_filter.specs.Access.{number_at, bytes_from}
use Rattle.ip_filter.specs.declared.term.AccessedHeader.{AccessedHeader}
use Rattle.ip_filter.specs.declared.term.AccessedHeader.TheVariants as from
use Rattle.ip_filter.specs.declared.term.Quantity.{Quantity}
use Rattle.ip_filter.specs.declared.term.Quantity.TheVariants as quantity
use Rattle.ip_filter.specs.Formula.{Formula, truth, single, negation, both, either}
use Rattle.ip_filter.specs.declared.term.Term.{Term}
use Rattle.ip_filter.specs.declared.term.Term.TheVariants as term

-- no quantity and no term reads the padding
quantity_unread : (q : Quantity) (p : DissectedParts) (z : List ℕ) → quantity_of q (record p { padding = z }) ≡ quantity_of q p
quantity_unread quantity.Headers p z = refl
quantity_unread q p z = refl

header_unread : (h : AccessedHeader) (p : DissectedParts) (z : List ℕ) → bytes_from h (record p { padding = z }) ≡ bytes_from h p
header_unread (from.Base v) p z = refl
header_unread (from.Transport n) p z = refl

padding_unread : (x : Term) (p : DissectedParts) (z : List ℕ) → holds x (record p { padding = z }) ≡ holds x p
padding_unread (term.Compared q c n) p z = ap (λ x. option_map_or (λ m. compares c m n) x false) (quantity_unread q p z)
padding_unread (term.Access a c) p z = ap (λ n. option_map_or (λ m. compares c.comparison (bit_and m c.mask) c.number) n false) (ap (number_at a.offset a.size) (header_unread a.header p z))
padding_unread x p z = refl

-- equal truths of terms give equal truths of formulas
truth-same : (f : Formula) (g h : Term → Bool) → ((x : Term) → g x ≡ h x) → truth f g ≡ truth f h
truth-same (single x) g h same = same x
truth-same (negation f) g h same = ap not (truth-same f g h same)
truth-same (both a b) g h same = ap (λ y. y && truth b g) (truth-same a g h same) ∙ ap (λ y. truth a h && y) (truth-same b g h same)
truth-same (either a b) g h same = ap (λ y. y || truth b g) (truth-same a g h same) ∙ ap (λ y. truth a h || y) (truth-same b g h same)

-- what a whole base header needs
least4 : (s : List ℕ) → base_end s ≡ None → version s ≡ 4 → 5 ≤ ihl s
least4 s e four = grind (arith, common_steps, none-some)

fits4 : (s : List ℕ) → base_end s ≡ None → version s ≡ 4 → ipv4_header_len s ≤ length s
fits4 s e four = grind (arith, common_steps, none-some)

is6 : (s : List ℕ) → base_end s ≡ None → (version s ≡ 4 → ⊥) → version s ≡ 6
is6 s e other = grind (arith, common_steps, none-some)

fits6 : (s : List ℕ) → base_end s ≡ None → (version s ≡ 4 → ⊥) → 40 ≤ length s
fits6 s e other = grind (arith, common_steps, none-some)

none4 : (s : List ℕ) → version s ≡ 4 → 5 ≤ ihl s → ipv4_header_len s ≤ length s → base_end s ≡ None
none4 s four least len = grind (arith, common_steps)

none6 : (s : List ℕ) → version s ≡ 6 → 40 ≤ length s → base_end s ≡ None
none6 s six len = grind (arith, common_steps)

-- the parts after an IPv4 base header, and after an IPv6 one
at4 : (s : List ℕ) → base_end s ≡ None → version s ≡ 4 → dissected s ≡ ipv4_dissected (take (ipv4_header_len s) s) s
unfolding dissected
at4 s none four = rw (none, eq-eqb (version s) 4 four) refl

at6 : (s : List ℕ) → base_end s ≡ None → version s ≡ 6 → dissected s ≡ ipv6_dissected (take 40 s) s
unfolding dissected
at6 s none six = rw (none, six) refl

-- where a length is stated, there is a base header
has_base_of : (s : List ℕ) (o : Option End) (p : DissectedParts) (n : ℕ) → (option_map_or (without_base s) o p).stated ≡ Some n → o ≡ None
has_base_of s None p n e = refl
has_base_of s (Some x) p n e = absurd (none-some n e)

begins : (s : List ℕ) (n : ℕ) → (dissected s).stated ≡ Some n → base_end s ≡ None
unfolding dissected
begins s n e = has_base_of s (base_end s) _ n e

-- bytes that are equal up to k
module _ (s t : List ℕ) (k n : ℕ) (ks : k ≤ length s) (kt : k ≤ length t) (within : n ≤ k) (same : take k t ≡ take k s) where
  front : (j : ℕ) → j ≤ k → take j t ≡ take j s
  front j le = sym (take-take j k t le) ∙ ap (take j) same ∙ take-take j k s le

  byte : 1 ≤ k → slice_index t 0 ≡ slice_index s 0
  byte some = sym (get_or-take k t 0 0 some) ∙ ap (λ x. get_or x 0 0) same ∙ get_or-take k s 0 0 some

  packet : (b : List ℕ) (o : Option ℕ) → o ≡ Some n → length b ≤ k → packet_bytes b o t ≡ packet_bytes b o s
  packet b o e base = rw e (front (max n (length b)) (omega arith))

  present : (o : Option ℕ) → o ≡ Some n → missing_of o (length t) ≡ missing_of o (length s)
  present o e = rw e (omega arith)

  all4 : (b : List ℕ) → ipv4_stated b ≡ Some n → length b ≤ k → ipv4_dissected b t ≡ record (ipv4_dissected b s) { padding = (ipv4_dissected b t).padding }
  all4 b e base = rw (packet b (ipv4_stated b) e base, present (ipv4_stated b) e) refl

  all6 : (b : List ℕ) → ipv6_stated b ≡ Some n → length b ≤ k → ipv6_dissected b t ≡ record (ipv6_dissected b s) { padding = (ipv6_dissected b t).padding }
  all6 b e base = rw (packet b (ipv6_stated b) e base, present (ipv6_stated b) e) refl

  unread : (x : Term) (p q : DissectedParts) → dissected t ≡ p → dissected s ≡ q → p ≡ record q { padding = p.padding } → holds x (dissected t) ≡ holds x (dissected s)
  unread x p q tp sq e = ap (holds x) (tp ∙ e) ∙ padding_unread x q p.padding ∙ ap (holds x) (sym sq)

  after4 : (x : Term) → base_end s ≡ None → version s ≡ 4 → (dissected s).stated ≡ Some n → length (dissected s).base ≤ k → holds x (dissected t) ≡ holds x (dissected s)
  after4 x none four stated base =
      let b : List ℕ = take (ipv4_header_len s) s in
      let is : dissected s ≡ ipv4_dissected b s = at4 s none four in
      let len : length b ≡ ipv4_header_len s = length-take-le (ipv4_header_len s) s (fits4 s none four) in
      let least : 5 ≤ ihl s = least4 s none four in
      let short : length b ≤ k = rw (ap (λ p. length p.base) is) at base in
      let first : slice_index t 0 ≡ slice_index s 0 = byte (omega arith) in
      let ihls : ihl t ≡ ihl s = ap (λ y. y % 16) first in
      let begin : take (ipv4_header_len t) t ≡ b = ap (λ y. take (4 * y) t) ihls ∙ front (ipv4_header_len s) (omega arith) in
      let none_t : base_end t ≡ None = none4 t (ap (λ y. y / 16) first ∙ four) (omega arith) (omega arith) in
      unread x (ipv4_dissected b t) (ipv4_dissected b s) (at4 t none_t (ap (λ y. y / 16) first ∙ four) ∙ ap (λ y. ipv4_dissected y t) begin) is
      (all4 b (ap (λ p. p.stated) (sym is) ∙ stated) short)

  after6 : (x : Term) → base_end s ≡ None → (version s ≡ 4 → ⊥) → (dissected s).stated ≡ Some n → length (dissected s).base ≤ k → holds x (dissected t) ≡ holds x (dissected s)
  after6 x none other stated base =
      let b : List ℕ = take 40 s in
      let six : version s ≡ 6 = is6 s none other in
      let is : dissected s ≡ ipv6_dissected b s = at6 s none six in
      let len : length b ≡ 40 = length-take-le 40 s (fits6 s none other) in
      let short : length b ≤ k = rw (ap (λ p. length p.base) is) at base in
      let first : slice_index t 0 ≡ slice_index s 0 = byte (omega arith) in
      let begin : take 40 t ≡ b = front 40 (omega arith) in
      let six_t : version t ≡ 6 = ap (λ y. y / 16) first ∙ six in
      unread x (ipv6_dissected b t) (ipv6_dissected b s) (at6 t (none6 t six_t (omega arith)) six_t ∙ ap (λ y. ipv6_dissected y t) begin) is
      (all6 b (ap (λ p. p.stated) (sym is) ∙ stated) short)

  pub after : (f : Formula) → (dissected s).stated ≡ Some n → length (dissected s).base ≤ k → truth f (λ x. holds x (dissected t)) ≡ truth f (λ x. holds x (dissected s))
  after f stated base = truth-same f (λ x. holds x (dissected t)) (λ x. holds x (dissected s)) (λ x. elim (eqb_tells (version s) 4) [
    | inl w ↦ after4 x (begins s n stated) w.1 stated base
    | inr w ↦ after6 x (begins s n stated) w.1 stated base
  ])
