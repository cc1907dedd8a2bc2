-- Packets without extension headers, counted apart from the statistics.
use Rattle.std.proofs.Common.{◌≡◌, ◌≢◌, ℕ, ◌+◌, ◌<◌, ◌≤◌, ◌==◌, ◌&&◌, Bool, true, false, not, List, [], ◌∷◌, length, get_or, set, replicate, refl, sym, ap, ◌∙◌, arith, if◌then◌else◌, min, Fits, w64, lit<, inl, inr, subst}
use Rattle.std.proofs.lemmas.Grind.{common_steps}
use Rattle.std.proofs.lemmas.List.{ext_get_or, length-replicate, get_or-replicate, length-set, get_or-set_same, get_or-set_other}
use Rattle.std.proofs.lemmas.Bool.{cases_eq}
use Rattle.ip_spec.specs.Chain.{ExtHeader, bytes_of}
use Rattle.ip_dissect.specs.Dissection.{DissectedParts}
use Rattle.ip_dissect.specs.End.{has_error}
use Rattle.ip_dissect.specs.declared.fragment.FragmentKind.{FragmentKind}
use Rattle.ip_dissect.specs.declared.fragment.FragmentKind.TheVariants.{Atomic, First, Middle, Last}
use Rattle.ip_codes.specs.Codes.{end_code}
use Rattle.ip_statistics.specs.Counts.{added, all_added, each_below, one_if}
use Rattle.ip_statistics.specs.HeaderCounts.{number_counts}
use Rattle.ip_statistics.specs.Lengths.{is_for_length}
use Rattle.ip_statistics.specs.Packet.{counts_of, is_fragment_of, faulty_layer, fault_index}
use Rattle.ip_statistics.specs.Statistics.{merged, nothing}
use Rattle.ip_statistics.specs.declared.statistics.Statistics.{Statistics}
use Rattle.ip_statistics.proofs.CountLemmas.{added-zero, all_added_comm, all_added_assoc, is_all_added, length-each_below, get_or-each_below, sum_by_place}
use Rattle.ip_statistics.proofs.LengthLemmas.{one_index, quarter}
use Rattle.ip_batches.specs.Plain.{first_count, packets_of, with_plain, IsPlain}
use Rattle.ip_batches.specs.declared.plain.PlainCounts.{PlainCounts}

-- Zeros leave counts as they are.
zeros_each : (k : ℕ) (f : ℕ → ℕ) → ((i : ℕ) → i < k → f i ≡ 0) → each_below k f ≡ replicate k 0
zeros_each k f zeros = ext_get_or 0 (each_below k f) (replicate k 0) (length-each_below k f ∙ sym (length-replicate k 0)) (λ i l.
    let below : i < k = omega (arith, l, length-each_below k f) in
    get_or-each_below k f i 0 below ∙ zeros i below ∙ sym (get_or-replicate k i 0 0 below))

stays : (xs : List ℕ) (k : ℕ) (f : ℕ → ℕ) → all_added xs (replicate k 0) ≡ xs → ((i : ℕ) → i < k → f i ≡ 0) → xs ≡ all_added xs (each_below k f)
stays xs k f none zeros = sym (ap (all_added xs) (zeros_each k f zeros) ∙ none)

same : (a n : ℕ) → added a 0 ≡ a → n ≡ 0 → a ≡ added a n
same a n none zero = sym (ap (added a) zero ∙ none)

-- one more in the first count
at_place : (n i m : ℕ) → m ≡ one_if (0 == i) → (if i == 0 then added n 1 else 0) ≡ added (if i == 0 then n else 0) m
at_place n i m e = grind (arith, common_steps, e)

one_first : (k n : ℕ) (f : ℕ → ℕ) → ((i : ℕ) → i < k → f i ≡ one_if (0 == i)) → first_count k (added n 1) ≡ all_added (first_count k n) (each_below k f)
one_first k n f ones = is_all_added (first_count k n) (each_below k f) (first_count k (added n 1)) (length-each_below k _ ∙ sym (length-each_below k f)) (length-each_below k _ ∙ sym (length-each_below k _)) (λ i l.
    let below : i < k = omega (arith, l, length-each_below k (λ j. if j == 0 then n else 0)) in
    get_or-each_below k _ i 0 below ∙ at_place n i (f i) (ones i below)
    ∙ sym (ap (λ x. added x (get_or (each_below k f) i 0)) (get_or-each_below k _ i 0 below) ∙ ap (added (if i == 0 then n else 0)) (get_or-each_below k f i 0 below)))

next_first : (xs : List ℕ) (k m n : ℕ) (f : ℕ → ℕ) → m ≡ added n 1 → ((i : ℕ) → i < k → f i ≡ one_if (0 == i)) → all_added xs (first_count k m) ≡ all_added (all_added xs (first_count k n)) (each_below k f)
next_first xs k m n f e ones = ap (λ x. all_added xs (first_count k x)) e ∙ ap (all_added xs) (one_first k n f ones) ∙ sym (all_added_assoc xs (first_count k n) (each_below k f))

-- what such a packet counts
has_version : (v : ℕ) → one_if (v == 4) + one_if (v == 6) ≡ 1 → (v == 0) ≡ false
has_version v e = grind (arith, common_steps, e)

no_header : (v i : ℕ) (c : List ExtHeader) → (v == 0) ≡ false → c ≡ [] → one_if (not (v == 0) && (min (length c) 16 == i)) ≡ one_if (0 == i)
no_header v i c e none = ap (λ b. one_if (not b && (min (length c) 16 == i))) e ∙ ap (λ d. one_if (min (length d) 16 == i)) none

no_bytes : (v i : ℕ) (c : List ExtHeader) → i < 73 → (v == 0) ≡ false → c ≡ [] → one_if (not (v == 0) && is_for_length i (length (bytes_of c))) ≡ one_if (0 == i)
no_bytes v i c l e none = ap (λ b. one_if (not b && is_for_length i (length (bytes_of c)))) e ∙ ap (λ d. one_if (is_for_length i (length (bytes_of d)))) none
    ∙ ap one_if (let q = quarter 0 (lit< tt) in one_index 0 0 (lit< tt) q.1 q.2 i l)

no_fragment : (kind : FragmentKind) (f : _) → f ≡ Rattle.std.specs.Prelude.None → one_if (is_fragment_of kind f) ≡ 0
no_fragment Atomic f e = ap (λ x. one_if (is_fragment_of Atomic x)) e
no_fragment First f e = ap (λ x. one_if (is_fragment_of First x)) e
no_fragment Middle f e = ap (λ x. one_if (is_fragment_of Middle x)) e
no_fragment Last f e = ap (λ x. one_if (is_fragment_of Last x)) e

one_packet : (p4 p6 x4 x6 : ℕ) → x4 + x6 ≡ 1 → added (added p4 x4) (added p6 x6) ≡ added (added p4 p6) 1
one_packet p4 p6 x4 x6 e = omega (arith, e)

sum_next : (a m n x : ℕ) → m ≡ added n x → added a m ≡ added (added a n) x
sum_next a m n x e = omega (arith, e)

-- The packet is counted: in the plain counts, and in the numbers of payloads.
pub plain_counted : (a : Statistics) (p q : PlainCounts) (d : DissectedParts) (numbers : List ℕ) (k n : ℕ) → merged a nothing ≡ a → IsPlain d
    → a.headers ≡ all_added a.headers (number_counts [])
    → q ≡ record { ipv4 = added p.ipv4 (one_if (d.version == 4)); ipv6 = added p.ipv6 (one_if (d.version == 6)); incomplete = added p.incomplete (one_if (not (d.missing == 0))); payload_bytes = added p.payload_bytes (length d.payload) }
    → n ≡ 256 → k ≡ d.number → numbers ≡ all_added a.payload_numbers (each_below n (λ i. one_if (k == i)))
    → with_plain q (record a { payload_numbers = numbers }) ≡ merged (with_plain p a) (counts_of d)
plain_counted a p q d numbers k n none is no_headers e len number counted =
    let version = has_version d.version is.version in
    let total : packets_of q ≡ added (packets_of p) 1 = ap packets_of e ∙ one_packet p.ipv4 p.ipv6 (one_if (d.version == 4)) (one_if (d.version == 6)) is.version in
    let at = is.end in
    cc (
      sum_next a.packets (packets_of q) (packets_of p) 1 total,
      same a.without_header (one_if (d.version == 0)) (ap (λ m. m.without_header) none) (ap one_if version),
      sum_next a.ipv4 q.ipv4 p.ipv4 (one_if (d.version == 4)) (ap (λ m. m.ipv4) e),
      sum_next a.ipv6 q.ipv6 p.ipv6 (one_if (d.version == 6)) (ap (λ m. m.ipv6) e),
      sum_next a.at_payload (packets_of q) (packets_of p) (one_if (end_code d.end == 0)) (total ∙ ap (added (packets_of p)) (sym (ap (λ n. one_if (n == 0)) at))),
      same a.at_later_fragment (one_if (end_code d.end == 1)) (ap (λ m. m.at_later_fragment) none) (ap (λ n. one_if (n == 1)) at),
      same a.at_truncated_header (one_if (end_code d.end == 2)) (ap (λ m. m.at_truncated_header) none) (ap (λ n. one_if (n == 2)) at),
      same a.at_fault (one_if (end_code d.end == 3)) (ap (λ m. m.at_fault) none) (ap (λ n. one_if (n == 3)) at),
      same a.atomic_fragments (one_if (is_fragment_of Atomic d.fragment)) (ap (λ m. m.atomic_fragments) none) (no_fragment Atomic d.fragment is.fragment),
      same a.first_fragments (one_if (is_fragment_of First d.fragment)) (ap (λ m. m.first_fragments) none) (no_fragment First d.fragment is.fragment),
      same a.middle_fragments (one_if (is_fragment_of Middle d.fragment)) (ap (λ m. m.middle_fragments) none) (no_fragment Middle d.fragment is.fragment),
      same a.last_fragments (one_if (is_fragment_of Last d.fragment)) (ap (λ m. m.last_fragments) none) (no_fragment Last d.fragment is.fragment),
      sum_next a.incomplete q.incomplete p.incomplete (one_if (not (d.missing == 0))) (ap (λ m. m.incomplete) e),
      sum_next a.payload_bytes q.payload_bytes p.payload_bytes (if has_error d.end then 0 else length d.payload) (ap (λ m. m.payload_bytes) e ∙ ap (added p.payload_bytes) (sym (ap (λ b. if b then 0 else length d.payload) is.error))),
      next_first a.chain_headers 17 (packets_of q) (packets_of p) (λ i. one_if (not (d.version == 0) && (min (length d.headers) 16 == i))) total (λ i l. no_header d.version i d.headers version is.headers),
      next_first a.chain_bytes 73 (packets_of q) (packets_of p) (λ i. one_if (not (d.version == 0) && is_for_length i (length (bytes_of d.headers)))) total (λ i l. no_bytes d.version i d.headers l version is.headers),
      no_headers ∙ ap (λ c. all_added a.headers (number_counts c)) (sym is.headers),
      counted ∙ ap (λ m. all_added a.payload_numbers (each_below m (λ i. one_if (k == i)))) len ∙ ap (λ m. all_added a.payload_numbers (each_below 256 (λ i. one_if (m == i)))) number
          ∙ ap (λ m. all_added a.payload_numbers (each_below 256 (λ i. one_if ((m == 0) && (d.number == i))))) (sym at),
      stays a.later_fragment_numbers 256 (λ n. one_if ((end_code d.end == 1) && (d.number == n))) (ap (λ m. m.later_fragment_numbers) none) (λ i l. ap (λ n. one_if ((n == 1) && (d.number == i))) at),
      stays a.truncated_headers 16 (λ l. one_if ((end_code d.end == 2) && (faulty_layer d.end == l))) (ap (λ m. m.truncated_headers) none) (λ i l. ap (λ n. one_if ((n == 2) && (faulty_layer d.end == i))) at),
      stays a.faults 128 (λ i. one_if ((end_code d.end == 3) && (fault_index d.end == i))) (ap (λ m. m.faults) none) (λ i l. ap (λ n. one_if ((n == 3) && (fault_index d.end == i))) at),
    )

-- Any other packet may be counted before these or after them.
sum_other : (a n m : ℕ) → added (added a m) n ≡ added (added a n) m
sum_other a n m = omega arith

list_other : (xs ys zs : List ℕ) → all_added (all_added xs ys) zs ≡ all_added (all_added xs zs) ys
list_other xs ys zs = all_added_assoc xs ys zs ∙ ap (all_added xs) (all_added_comm ys zs) ∙ sym (all_added_assoc xs zs ys)

pub other_counted : (a c : Statistics) (p : PlainCounts) → with_plain p (merged a c) ≡ merged (with_plain p a) c
other_counted a c p = cc (
  sum_other a.packets (packets_of p) c.packets,
  sum_other a.ipv4 p.ipv4 c.ipv4,
  sum_other a.ipv6 p.ipv6 c.ipv6,
  sum_other a.at_payload (packets_of p) c.at_payload,
  sum_other a.incomplete p.incomplete c.incomplete,
  sum_other a.payload_bytes p.payload_bytes c.payload_bytes,
  list_other a.chain_headers c.chain_headers (first_count 17 (packets_of p)),
  list_other a.chain_bytes c.chain_bytes (first_count 73 (packets_of p)),
)

-- No such packets leave statistics as they are.
either_same : (b : Bool) (z : ℕ) → (if b then z else z) ≡ z
either_same true z = refl
either_same false z = refl

first_zero : (xs : List ℕ) (k : ℕ) → all_added xs (replicate k 0) ≡ xs → all_added xs (first_count k 0) ≡ xs
first_zero xs k none = ap (all_added xs) (zeros_each k (λ i. if i == 0 then 0 else 0) (λ i l. either_same (i == 0) 0)) ∙ none

pub no_plain : (a : Statistics) (p : PlainCounts) → merged a nothing ≡ a → p ≡ record { ipv4 = 0; ipv6 = 0; incomplete = 0; payload_bytes = 0 } → with_plain p a ≡ a
unfolding all_added each_below
no_plain a p none e = let zero : added 0 0 ≡ 0 = omega arith in ap (λ q. with_plain q a) e ∙ cc (
  ap (added a.packets) zero ∙ ap (λ m. m.packets) none,
  ap (λ m. m.ipv4) none,
  ap (λ m. m.ipv6) none,
  ap (added a.at_payload) zero ∙ ap (λ m. m.at_payload) none,
  ap (λ m. m.incomplete) none,
  ap (λ m. m.payload_bytes) none,
  ap (λ n. all_added a.chain_headers (first_count 17 n)) zero ∙ first_zero a.chain_headers 17 (ap (λ m. m.chain_headers) none),
  ap (λ n. all_added a.chain_bytes (first_count 73 n)) zero ∙ first_zero a.chain_bytes 73 (ap (λ m. m.chain_bytes) none),
)

-- A number is added to the first count.
not_first : (i n : ℕ) → i ≢ 0 → (if i == 0 then n else 0) ≡ 0
not_first i n other = grind (arith, common_steps)

pub first_added : (xs ys : List ℕ) (n : ℕ) → 0 < length xs → ((i : ℕ) → Fits w64 (get_or ys i 0)) → ys ≡ set xs 0 (added (get_or xs 0 0) n) → ys ≡ all_added xs (first_count (length xs) n)
first_added xs ys n l fits e = sum_by_place xs ys (length xs) (λ i. if i == 0 then n else 0) refl (ap length e ∙ length-set xs 0 _) (λ i m.
    elim (cases_eq i 0) [
      | inl same ↦ ap (λ zs. get_or zs i 0) e ∙ subst (λ j. get_or (set xs 0 (added (get_or xs 0 0) n)) j 0 ≡ added (get_or xs j 0) (if j == 0 then n else 0)) (sym same) (get_or-set_same xs 0 _ 0 l)
      | inr other ↦ let kept : get_or ys i 0 ≡ get_or xs i 0 = ap (λ zs. get_or zs i 0) e ∙ get_or-set_other xs 0 i _ 0 other in
          kept ∙ sym (ap (added (get_or xs i 0)) (not_first i n other) ∙ added-zero (get_or xs i 0) (subst (Fits w64) kept (fits i)))
    ])

pub none_added : (xs : List ℕ) (n : ℕ) → length xs ≤ 0 → xs ≡ all_added xs (first_count (length xs) n)
unfolding all_added
none_added [] n l = refl
none_added (x ∷ xs) n l = absurd (let h : ⊥ = omega (arith, l) in h)
