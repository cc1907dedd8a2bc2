-- Keys in slots.
use Rattle.std.proofs.Common.{◌≡◌, ℕ, ◌%◌, true, List, [], ◌∷◌, length, refl, sym, ◌∙◌, arith, ◌&&◌, eqb, Bool}
use Rattle.std.proofs.lemmas.Bool.{and_parts, and_from, eq-eqb, eqb-true}
use Rattle.std.proofs.lemmas.Slice.Eq.{bytes_eq-Decides}
use Rattle.std.specs.Str.{bytes_eq}
use Rattle.ip_base.specs.declared.ip_number_impl.IpNumber.{IpNumber}
use Rattle.ip_defragmenter.specs.Key.{IsKey, same_key}
use Rattle.ip_defragmenter.specs.Slot.{front_of, padded, slot_with}
use Rattle.ip_defragmenter.specs.Slots.{has_key}
use Rattle.ip_defragmenter.specs.declared.key.FragmentKey.{FragmentKey}
use Rattle.ip_defragmenter.specs.declared.key.FragmentKey.TheVariants.{Ipv4, Ipv6}

-- the front of 4 bytes that were padded
four : (b : List ℕ) → length b ≡ 4 → front_of (padded b) ≡ b
four [] len = absurd (omega (arith, len))
four (a ∷ []) len = absurd (omega (arith, len))
four (a ∷ b ∷ []) len = absurd (omega (arith, len))
four (a ∷ b ∷ c ∷ []) len = absurd (omega (arith, len))
four (a ∷ b ∷ c ∷ d ∷ []) len = refl
four (a ∷ b ∷ c ∷ d ∷ e ∷ rest) len = absurd (omega (arith, len))

same_bytes : (a b : List ℕ) → a ≡ b → bytes_eq a b ≡ true
same_bytes a b is = (bytes_eq-Decides a b).1 is

are_bytes : (a b : List ℕ) → bytes_eq a b ≡ true → a ≡ b
are_bytes a b is = (bytes_eq-Decides a b).0 is

-- four tests that hold
all_four : (a b c d : Bool) → a ≡ true → b ≡ true → c ≡ true → d ≡ true → (a && b && c && d) ≡ true
all_four a b c d p q r s = rw (p, q, r, s) refl

four_parts : (a b c d : Bool) → (a && b && c && d) ≡ true → (a ≡ true) × (b ≡ true) × (c ≡ true) × (d ≡ true)
four_parts a b c d all =
    let last = and_parts (a && b && c) d all in
    let third = and_parts (a && b) c last.0 in
    let second = and_parts a b third.0 in
    (second.0, second.1, third.1, last.1)

pub own_key : (since context : ℕ) (k : FragmentKey) → IsKey k → has_key context k (slot_with since context k) ≡ true
own_key since context (Ipv4 a b c d) (source, destination, small) =
    and_from (eqb context context) _ (eq-eqb context context refl)
    (all_four _ _ _ _ (eq-eqb (d % 65536) d (omega (arith, small))) (eq-eqb c.0 c.0 refl) (same_bytes (front_of (padded a)) a (four a source)) (same_bytes (front_of (padded b)) b (four b destination)))
own_key since context (Ipv6 a b d) (source, destination) =
    and_from (eqb context context) _ (eq-eqb context context refl)
    (and_from (eqb d d && bytes_eq a a) (bytes_eq b b) (and_from (eqb d d) (bytes_eq a a) (eq-eqb d d refl) (same_bytes a a refl)) (same_bytes b b refl))

pub own_context : (since c d : ℕ) (j k : FragmentKey) → has_key c j (slot_with since d k) ≡ true → c ≡ d
own_context since c d j (Ipv4 x y z i) found = sym (eqb-true d c (and_parts (eqb d c) _ found).0)
own_context since c d j (Ipv6 x y i) found = sym (eqb-true d c (and_parts (eqb d c) _ found).0)

same_ipv4 : (a b e f : List ℕ) (p q : IpNumber) (i j : ℕ) → a ≡ e → b ≡ f → p.0 ≡ q.0 → i ≡ j → Ipv4 a b p i ≡ Ipv4 e f q j
same_ipv4 a b e f p q i j s t u v = rw (s, t, u, v) refl

same_ipv6 : (a b e f : List ℕ) (i j : ℕ) → a ≡ e → b ≡ f → i ≡ j → Ipv6 a b i ≡ Ipv6 e f j
same_ipv6 a b e f i j s t v = rw (s, t, v) refl

pub only_key : (since c d : ℕ) (j k : FragmentKey) → IsKey j → IsKey k → has_key c j (slot_with since d k) ≡ true → j ≡ k
only_key since c d (Ipv4 a b p i) (Ipv4 e f q l) j (source, destination, small) found =
    let parts = four_parts _ _ _ _ (and_parts (eqb d c) _ found).1 in
    same_ipv4 a b e f p q i l
    (sym (sym (four e source) ∙ are_bytes (front_of (padded e)) a parts.2))
    (sym (sym (four f destination) ∙ are_bytes (front_of (padded f)) b parts.3))
    (sym (eqb-true q.0 p.0 parts.1))
    (omega (arith, eqb-true (l % 65536) i parts.0, small))
only_key since c d (Ipv4 a b p i) (Ipv6 e f l) j k found = absurd (let q = (and_parts (eqb d c) _ found).1 in cc)
only_key since c d (Ipv6 a b i) (Ipv4 e f q l) j k found = absurd (let q = (and_parts (eqb d c) _ found).1 in cc)
only_key since c d (Ipv6 a b i) (Ipv6 e f l) j k found =
    let all = and_parts (eqb l i && bytes_eq e a) (bytes_eq f b) (and_parts (eqb d c) _ found).1 in
    let first = and_parts (eqb l i) (bytes_eq e a) all.0 in
    same_ipv6 a b e f i l (sym (are_bytes e a first.1)) (sym (are_bytes f b all.1)) (sym (eqb-true l i first.0))

-- Keys that are found equal are.
pub same_keys : (j k : FragmentKey) → same_key j k ≡ true → j ≡ k
same_keys (Ipv4 a b p i) (Ipv4 e f q l) is =
    let parts = four_parts (eqb i l) (eqb p.0 q.0) (bytes_eq a e) (bytes_eq b f) is in
    same_ipv4 a b e f p q i l (are_bytes a e parts.2) (are_bytes b f parts.3) (eqb-true p.0 q.0 parts.1) (eqb-true i l parts.0)
same_keys (Ipv4 a b p i) (Ipv6 e f l) is = absurd (cc)
same_keys (Ipv6 a b i) (Ipv4 e f q l) is = absurd (cc)
same_keys (Ipv6 a b i) (Ipv6 e f l) is =
    let all = and_parts (eqb i l && bytes_eq a e) (bytes_eq b f) is in
    let first = and_parts (eqb i l) (bytes_eq a e) all.0 in
    same_ipv6 a b e f i l (are_bytes a e first.1) (are_bytes b f all.1) (eqb-true i l first.0)
