-- The extension headers of a packet, and their numbers.
use Rattle.ip_spec.proofs.Common.{◌≡◌, ℕ, List, [], ◌∷◌, ◌++◌, refl, rules, arith, common_steps, bytes_of, ExtHeader, IsChain, IsHeader, Option, None, Some, Bool, true, false, ◌==◌, ◌||◌}
use Rattle.std.proofs.Common.{◌<◌, ◌*◌, ◌%◌, ◌^◌, bit_or}
use Rattle.std.specs.Int.{bit_at}
use Rattle.std.proofs.lemmas.Nat.{pow_below}
use Rattle.std.proofs.lemmas.Nat.Bits.{bit_at_or, bit_at-lt, bit_at-pow_same, bit_at-pow_other}
use Rattle.ip_spec.specs.Header.{raw, fragment, auth}
use Rattle.std.specs.List.{list_any}
use Rattle.ip_base.specs.Ipv4HeaderSlice as ipv4_header
use Rattle.ip_base.specs.Ipv6HeaderSlice as ipv6_header
use Rattle.ip_ext_slices.specs.Longest.{longest_chain}
use Rattle.ip_ext_slices.proofs.LongestLemmas.{longest_chain-bytes_of}
use Rattle.ip_dissect.specs.Dissection.{dissected}
use Rattle.ip_dissect.specs.Summary.{IsBaseOf}
use Rattle.ip_dissect.specs.declared.dissection.BaseHeader.{BaseHeader}
use Rattle.ip_dissect.specs.declared.dissection.BaseHeader.TheVariants.{Ipv4, Ipv6}
use Rattle.ip_dissect.proofs.Ipv4Lemmas.{ipv4_prefix}
use Rattle.ip_dissect.proofs.DissectedLemmas.{begins4, begins6, begins_none}
use Rattle.ip_dissect.proofs.LaterLemmas.{chain_to_later-longest}
use Rattle.ip_filter.specs.Facts.{number_after}
use Rattle.ip_filter.specs.HeaderFields.{has_options, has_option}
use Rattle.ip_filter.specs.HeaderConditions.{is_asked, meets_condition}
use Rattle.ip_filter.specs.declared.header_condition.HeaderCondition.{HeaderCondition}
use Rattle.ip_filter.specs.declared.header_condition.HeaderCondition.TheVariants as asks

-- They are a chain from the number after the base header.
pub packet_chain : (s : List ℕ) (o : Option BaseHeader) → IsBaseOf s o → IsChain (number_after o) (dissected s).headers
packet_chain s None is = rw (begins_none s is).is (search rules)
packet_chain s (Some (Ipv4 h)) is = rw (begins4 s (Some (Ipv4 h)) (ipv4_header.bytes h) is refl refl).is (ipv4_prefix (ipv4_header.bytes h) _).chain
packet_chain s (Some (Ipv6 h)) is = rw (begins6 s (Some (Ipv6 h)) (ipv6_header.bytes h) is refl refl).is (chain_to_later-longest _ _).has.0.chain

-- So they are the longest chain of their own bytes.
pub headers_again : (s : List ℕ) (o : Option BaseHeader) → IsBaseOf s o → longest_chain (number_after o) (bytes_of (dissected s).headers) ≡ (dissected s).headers
headers_again s o is = longest_chain-bytes_of (number_after o) (dissected s).headers (packet_chain s o is)

-- The number of a header is below 64.
pub small_number : (n : ℕ) (b : List ℕ) → IsHeader n b → n < 64
small_number n b (raw is x) = search rules
small_number n b (fragment is x) = omega (arith, is)
small_number n b (auth is x) = omega (arith, is)

-- One more header.
pub any_more : (q : ExtHeader → Bool) (c : List ExtHeader) (h : ExtHeader) → list_any q (c ++ h ∷ []) ≡ (list_any q c || q h)
any_more q c h = grind (arith, common_steps)

-- the bit of a number below 64
pub one_bit : (k w : ℕ) → k < w → 1 * 2 ^ k % 2 ^ w ≡ 2 ^ k
one_bit k w less = grind (arith, common_steps, pow_below k w less)

pub bit_same : (m k : ℕ) → (bit_at (bit_or m (2 ^ k)) k == 1) ≡ true
bit_same m k = rw (bit_at_or m (2 ^ k) k, bit_at-pow_same k) (grind (arith, common_steps, bit_at-lt m k))

pub bit_other : (m k n : ℕ) → (n ≡ k → ⊥) → (bit_at (bit_or m (2 ^ k)) n == 1) ≡ (bit_at m n == 1)
bit_other m k n other = rw (bit_at_or m (2 ^ k) n, bit_at-pow_other k n other) (grind (arith, common_steps))

-- A header that meets a condition has a number that can meet it.
not_asked : (x : HeaderCondition) (h : ExtHeader) → is_asked x h.number ≡ false → meets_condition x h ≡ false
not_asked (asks.SecurityParameters i) h other = rw other refl
not_asked (asks.RoutingType t) h other = rw other refl
not_asked (asks.SegmentsLeft c k) h other = rw other refl
not_asked (asks.Identification i) h other = rw other refl

-- Without a header of such a number, none meets it.
pub none_meets : (x : HeaderCondition) (c : List ExtHeader) → false ≡ list_any (λ h. is_asked x h.number) c → false ≡ list_any (meets_condition x) c
none_meets x [] none = refl
none_meets x (h ∷ c) none = grind (arith, common_steps, not_asked x h, none_meets x c)

-- Without a header of options, there is no option.
pub no_options : (n : ℕ) (c : List ExtHeader) → false ≡ list_any (λ h. has_options h.number) c → false ≡ list_any (has_option n) c
no_options n [] none = refl
no_options n (h ∷ c) none = grind (arith, common_steps, no_options n c)
