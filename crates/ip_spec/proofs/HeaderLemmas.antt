-- Headers, and headers at the start of bytes.
use Rattle.ip_spec.proofs.Common.{◌≡◌, ◌≢◌, ℕ, zero, suc, ◌+◌, ◌*◌, ◌<◌, ◌≤◌, List, ◌++◌, length, get_or, take, drop, refl, ap, sym, ◌∙◌, arith, inl, inr, ◌⊎◌, Bool, true, false, nat_eq, cond, slice_index, rules, common_steps, get_or_append_left, length-take-le, take-append_seam, eqb_tells, IsHeader, IsRawHeader, IsFragmentHeader, IsAuthHeader, IsExtensionNumber, IsLaterNumber, raw, fragment, auth, IsPrefix, ExtHeader, IsNext, IsEnd}
use Rattle.ip_spec.proofs.PrefixLemmas.{prefix-append, prefix_of-take, prefix-length}

pub eq_or : (m n : ℕ) → (m ≡ n) ⊎ (m ≢ n)
eq_or m n = elim (eqb_tells m n) [ inl w ↦ inl w.1 | inr w ↦ inr w.1 ]

pub header_number : (n : ℕ) (b : List ℕ) → IsHeader n b → IsExtensionNumber n
header_number n b h = search rules

-- A property of 0, 43, 60, 44 and 51 holds for each extension number.
pub by_number : (S : ℕ → Type 0) → S 0 → S 43 → S 60 → S 44 → S 51 → (n : ℕ) → IsExtensionNumber n → S n
by_number S a b c d e n x = search rules

-- The extension numbers except 0 are those of headers that may follow another.
pub later_of : (n : ℕ) → IsExtensionNumber n → n ≢ 0 → IsLaterNumber n
later_of n x z = search rules

pub later_extension : (n : ℕ) → IsLaterNumber n → IsExtensionNumber n
later_extension n l = search rules

pub later_not_zero : (n : ℕ) → IsLaterNumber n → n ≢ 0
later_not_zero n l z = search rules

pub later_or : (n : ℕ) → IsLaterNumber n ⊎ (IsLaterNumber n → ⊥)
later_or n = search rules

-- The format of the headers of a number.
pub fragment_of : (n : ℕ) (b : List ℕ) → n ≡ 44 → IsHeader n b → IsFragmentHeader b
fragment_of n b k h = search rules

pub auth_of : (n : ℕ) (b : List ℕ) → n ≡ 51 → IsHeader n b → IsAuthHeader b
auth_of n b k h = search rules

pub header-least : (n : ℕ) (b : List ℕ) → IsHeader n b → 8 ≤ length b
header-least n b h = elim h [ raw k r ↦ omega (arith, r.len) | fragment k f ↦ omega (arith, f.len) | auth k a ↦ omega (arith, a.len, a.not_zero) ]

-- Bytes are a header, or not.
pub header_or : (n : ℕ) (b : List ℕ) → IsHeader n b ⊎ (IsHeader n b → ⊥)
header_or n b = search rules

-- the length of the header of number n with t as byte 1
told : ℕ → ℕ → ℕ
told n t = cond (nat_eq n 44) 8 (cond (nat_eq n 51) (4 * (t + 2)) (8 * (t + 1)))

header-told : (n : ℕ) (b : List ℕ) → IsHeader n b → length b ≡ told n (slice_index b 1)
unfolding told
header-told n b h = search rules

-- two headers of one number at one place are equal
pub one_header : (n : ℕ) (b d x y : List ℕ) → IsHeader n b → IsHeader n d → b ++ x ≡ d ++ y → b ≡ d
one_header n b d x y hb hd e =
    let lb : 8 ≤ length b = header-least n b hb in
    let ld : 8 ≤ length d = header-least n d hd in
    let one = get_or_append_left b x 0 1 (omega arith) in
    let other = get_or_append_left d y 0 1 (omega arith) in
    let same_len : length b ≡ length d = cc (header-told n b hb, header-told n d hd) in
    cc (take-append_seam b x, take-append_seam d y)

-- s starts with a header of fewer than k bytes, or not
short_header_or : (n : ℕ) (s : List ℕ) (k : ℕ) → ((b : List ℕ) × IsHeader n b × IsPrefix b s) ⊎ ((b : List ℕ) → IsHeader n b → IsPrefix b s → length b < k → ⊥)
short_header_or n s zero = inr (λ b h f l. omega arith)
short_header_or n s (suc k) = search (rules, short_header_or n s k, header_or n (take k s), prefix_of-take k s, eq_or)

first_or : (m : ℕ) (r : List ℕ) → ((h : ExtHeader) × IsNext true m r h) ⊎ IsEnd true m r
first_or m r = elim (short_header_or m r (suc (length r))) [
  | inl (b, h, f) ↦ inl (record { number = m; bytes = b }, record { number = refl; header = h; prefix = f; zero_only_first = λ z. refl })
  | inr none ↦ inr (λ h x. none h.bytes x.header x.prefix (omega (arith, prefix-length h.bytes r x.prefix)))
]

-- a header follows, or none
pub next_or : (first : Bool) (m : ℕ) (r : List ℕ) → ((h : ExtHeader) × IsNext first m r h) ⊎ IsEnd first m r
next_or true m r = first_or m r
next_or false m r = grind (arith, common_steps, eq_or m 0, first_or m r)

-- at most one header follows
pub one_next : (first : Bool) (m : ℕ) (r : List ℕ) (h g : ExtHeader) → IsNext first m r h → IsNext first m r g → h ≡ g
one_next first m r h g x y = grind (arith, common_steps, one_header, prefix-append)

-- Bytes that are long enough start with a header.
pub prefix_byte : (b s : List ℕ) → IsPrefix b s → 8 ≤ length b → slice_index b 1 ≡ slice_index s 1
prefix_byte b s f l = sym (get_or_append_left b (drop (length b) s) 0 1 (omega arith)) ∙ ap (λ x. get_or x 1 0) (sym (prefix-append b s f))

module _ (s : List ℕ) (k : ℕ) (enough : k ≤ length s) (least : 8 ≤ k) where
  pub raw_begins : k ≡ 8 * (slice_index s 1 + 1) → IsRawHeader (take k s)
  raw_begins e = search (rules, prefix_byte, prefix_of-take, length-take-le)

  pub auth_begins : k ≡ 4 * (slice_index s 1 + 2) → 1 ≤ slice_index s 1 → IsAuthHeader (take k s)
  auth_begins e some_len = search (rules, prefix_byte, prefix_of-take, length-take-le)

  pub fragment_begins : k ≡ 8 → IsFragmentHeader (take k s)
  fragment_begins e = search (rules, length-take-le)
