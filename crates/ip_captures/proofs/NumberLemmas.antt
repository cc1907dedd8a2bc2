-- Numbers at offsets of bytes, and of bytes that continue them; a quotient by parts.
use Rattle.std.proofs.Common.{◌≡◌, ℕ, ◌+◌, ◌-◌, ◌*◌, ◌/◌, ◌%◌, ◌<◌, ◌≤◌, List, ◌++◌, length, take, drop, ap, arith, refl, ◌∙◌, sym}
use Rattle.std.proofs.Math.Nat.{mul-add-div_right}
use Rattle.std.proofs.lemmas.Nat.{div-add-mod'}
use Rattle.std.proofs.lemmas.List.{drop-append-le, take-append-le, length-drop, take-append-drop, length-take-le}
use Rattle.std.specs.Prelude.{slice_range}
use Rattle.ip_captures.specs.Numbers.{number_at, short_number_at}
use Rattle.ip_captures.specs.declared.byte_order.ByteOrder.{ByteOrder}
use Rattle.ip_captures.specs.declared.byte_order.ByteOrder.TheVariants.{LittleEndian, BigEndian}

pub range-append : (p q : List ℕ) (i j : ℕ) → i ≤ j → j ≤ length p → slice_range (p ++ q) i j ≡ slice_range p i j
range-append p q i j l h =
    let begins : i ≤ length p = omega arith in
    let fits : j - i ≤ length (drop i p) = omega (arith, length-drop i p) in
    rw (drop-append-le i p q begins) (take-append-le (j - i) (drop i p) q fits)

pub number_at-append : (o : ByteOrder) (p q : List ℕ) (i : ℕ) → i + 4 ≤ length p → number_at o (p ++ q) i ≡ number_at o p i
number_at-append LittleEndian p q i h = rw (range-append p q i (i + 4) (omega arith) h) refl
number_at-append BigEndian p q i h = rw (range-append p q i (i + 4) (omega arith) h) refl

pub number_at-take : (o : ByteOrder) (s : List ℕ) (k i : ℕ) → i + 4 ≤ k → k ≤ length s → number_at o (take k s) i ≡ number_at o s i
number_at-take o s k i h l =
    let long : i + 4 ≤ length (take k s) = omega (arith, length-take-le k s l) in
    sym (number_at-append o (take k s) (drop k s) i long) ∙ ap (λ t. number_at o t i) (take-append-drop k s)

pub short_number_at-append : (o : ByteOrder) (p q : List ℕ) (i : ℕ) → i + 2 ≤ length p → short_number_at o (p ++ q) i ≡ short_number_at o p i
short_number_at-append LittleEndian p q i h = rw (range-append p q i (i + 2) (omega arith) h) refl
short_number_at-append BigEndian p q i h = rw (range-append p q i (i + 2) (omega arith) h) refl

pub short_number_at-take : (o : ByteOrder) (s : List ℕ) (k i : ℕ) → i + 2 ≤ k → k ≤ length s → short_number_at o (take k s) i ≡ short_number_at o s i
short_number_at-take o s k i h l =
    let long : i + 2 ≤ length (take k s) = omega (arith, length-take-le k s l) in
    sym (short_number_at-append o (take k s) (drop k s) i long) ∙ ap (λ t. short_number_at o t i) (take-append-drop k s)

pub range-take : (s : List ℕ) (k i j : ℕ) → i ≤ j → j ≤ k → k ≤ length s → slice_range (take k s) i j ≡ slice_range s i j
range-take s k i j h g l =
    let long : j ≤ length (take k s) = omega (arith, length-take-le k s l) in
    sym (range-append (take k s) (drop k s) i j h long) ∙ ap (λ t. slice_range t i j) (take-append-drop k s)

-- so many times n, divided by t
pub quotient_by_parts : (k n t : ℕ) → 0 < t → n / t * k + n % t * k / t ≡ n * k / t
quotient_by_parts k n t h =
    let joined : n / t * k * t + n % t * k ≡ n * k = omega (arith, ap (λ a. a * k) (div-add-mod' n t)) in
    sym (mul-add-div_right h (n / t * k) (n % t * k)) ∙ ap (λ a. a / t) joined
