-- The fragments of an IPv6 packet by its base header, its extension headers and what follows them.
use Rattle.ip_spec.proofs.Common.{◌≡◌, ℕ, ◌+◌, ◌-◌, ◌/◌, ◌%◌, ◌<◌, List, [], ◌∷◌, ◌++◌, suc, length, take, drop, refl, sym, ◌∙◌, ap, arith, slice_set, slice_index, length-set, length-append, append-nil, take-append_seam, drop-append_seam, get_or-set_same, ExtHeader, bytes_of}
use Rattle.std.specs.Prelude.{nat_lt}
use Rattle.std.proofs.lemmas.List.{set-append_left}
use Rattle.ip_base.specs.Checksum.{with_word}
use Rattle.ip_base.proofs.ChecksumLemmas.{word_len}
use Rattle.ip_defragmenter.specs.Sent.{ipv6_first}
use Rattle.ip_defragmenter.specs.Split.{link_after}
use Rattle.ip_defragmenter_laws.specs.Ipv6.{fragment_header_bytes, ipv6_fragment_bytes}
use Rattle.ip_rewrite.specs.Headers.{number_of_first, linked_headers}
use Rattle.ip_rewrite.specs.Writing.{front_with, link_of}
use Rattle.ip_rewrite.proofs.ChainLemmas.{AreHeaders}
use Rattle.ip_rewrite.proofs.FrontLemmas.{front_len, front_set, link_less}
use Rattle.ip_rewrite.proofs.RestoringLemmas.{word_set}

-- the offset of the last next header field
fewer : (h g : ExtHeader) (c : List ExtHeader) → length (h ∷ g ∷ c) - 1 ≡ suc (length (g ∷ c) - 1)
fewer h g c = omega arith

last_offset : (l : ℕ) (b : List ℕ) (h : ExtHeader) (c : List ExtHeader) → link_of l b (h ∷ c) ≡ length b + length (bytes_of (take (length (h ∷ c) - 1) (h ∷ c)))
last_offset l b h [] = refl
last_offset l b h (g ∷ c) =
    ap (λ k. length b + k) (last_offset 0 h.bytes g c ∙ sym (length-append h.bytes (bytes_of (take (length (g ∷ c) - 1) (g ∷ c)))))
    ∙ ap (λ (k : ℕ). length b + length (bytes_of (take k (h ∷ g ∷ c)))) (sym (fewer h g c))

pub link_is : (b : List ℕ) (c : List ExtHeader) → length b ≡ 40 → link_after 40 c ≡ link_of 6 b c
link_is b [] len = refl
link_is b (h ∷ c) len = ap (λ k. k + length (bytes_of (take (length (h ∷ c) - 1) (h ∷ c)))) (sym len) ∙ sym (last_offset 6 b h c)

-- a word of the first of two lists
word_append : (b r : List ℕ) (i n : ℕ) → i + 1 < length b → with_word (b ++ r) i n ≡ with_word b i n ++ r
word_append b r i n within =
    ap (λ x. slice_set x (i + 1) (n % 256)) (set-append_left b r i (n / 256) (omega (arith, within)))
    ∙ set-append_left (slice_set b i (n / 256)) r (i + 1) (n % 256) (omega (arith, within, length-set b i (n / 256)))

-- The bytes s are the base header b, the headers c, each of which leads to the next one, and the last to m, and the bytes r.
module _ (s b : List ℕ) (c : List ExtHeader) (m : ℕ) (r : List ℕ) (is : s ≡ front_with 6 b c m ++ r) (len : length b ≡ 40) (headers : AreHeaders c) where
  abbrev n : ℕ
  n = 40 + length (bytes_of c)

  size : length (front_with 6 b c m) ≡ n
  size = front_len 6 b c m ∙ ap (λ k. k + length (bytes_of c)) len

  pub taken : take n s ≡ front_with 6 b c m
  taken = ap (take n) is ∙ (ap (λ k. take k (front_with 6 b c m ++ r)) (sym size) ∙ take-append_seam (front_with 6 b c m) r)

  pub dropped : drop n s ≡ r
  dropped = ap (drop n) is ∙ (ap (λ k. drop k (front_with 6 b c m ++ r)) (sym size) ∙ drop-append_seam (front_with 6 b c m) r)

  pub number : slice_index s (link_after 40 c) ≡ m
  number =
      let x : List ℕ = front_with 6 b c m ++ r in
      let within : link_of 6 b c < length x = omega (arith, link_less 6 b c (omega (arith, len)) headers, size, len, length-append (front_with 6 b c m) r) in
      ap (slice_index s) (link_is b c len)
      ∙ (ap (λ y. slice_index y (link_of 6 b c)) (is ∙ sym (front_set 6 b c m m r (omega (arith, len)) headers))
      ∙ get_or-set_same x (link_of 6 b c) m 0 within)

  -- the front with another length
  module _ (t : ℕ) where
    abbrev w : List ℕ
    w = with_word b 4 t

    w_len : length w ≡ 40
    w_len = word_len b 4 t ∙ len

    stated : with_word (front_with 6 b c m) 4 t ≡ front_with 6 w c m
    stated =
        let k : ℕ = number_of_first c m in
        word_append (slice_set b 6 k) (bytes_of (linked_headers m c)) 4 t (omega (arith, len, length-set b 6 k))
        ∙ ap (λ x. x ++ bytes_of (linked_headers m c)) (sym (word_set b 4 t 6 k (λ e. omega (arith, e)) (λ e. omega (arith, e))))

    pub first : ipv6_first s n (link_after 40 c) t ≡ front_with 6 w c 44
    first =
        ap (λ x. slice_set (with_word x 4 t) (link_after 40 c) 44) taken
        ∙ (ap (λ x. slice_set x (link_after 40 c) 44) stated
        ∙ (ap (λ i. slice_set (front_with 6 w c m) i 44) (link_is w c w_len)
        ∙ (ap (λ x. slice_set x (link_of 6 w c) 44) (sym (append-nil (front_with 6 w c m)))
        ∙ (front_set 6 w c m 44 [] (omega (arith, w_len)) headers ∙ append-nil (front_with 6 w c 44)))))

  -- a fragment
  pub made : (id start end : ℕ) → ipv6_fragment_bytes s n (link_after 40 c) id start end
      ≡ front_with 6 (with_word b 4 (n - 40 + 8 + (end - start))) c 44 ++ (fragment_header_bytes m start (nat_lt end (length r)) id ++ take (end - start) (drop start r))
  made id start end =
      ap (λ x. x ++ (fragment_header_bytes (slice_index s (link_after 40 c)) start (nat_lt end (length (drop n s))) id ++ take (end - start) (drop start (drop n s)))) (first (n - 40 + 8 + (end - start)))
      ∙ (ap (λ k. front_with 6 (with_word b 4 (n - 40 + 8 + (end - start))) c 44 ++ (fragment_header_bytes k start (nat_lt end (length (drop n s))) id ++ take (end - start) (drop start (drop n s)))) number
      ∙ ap (λ x. front_with 6 (with_word b 4 (n - 40 + 8 + (end - start))) c 44 ++ (fragment_header_bytes m start (nat_lt end (length x)) id ++ take (end - start) (drop start x))) dropped)
