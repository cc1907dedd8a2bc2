-- Sums of statistics, in any order.
use Rattle.std.proofs.Common.{◌≡◌, ℕ, zero, suc, ◌≤◌, ◌<◌, List, [], ◌∷◌, ◌++◌, length, get_or, set, inl, inr, arith, refl, sym, ap, ◌∙◌}
use Rattle.std.specs.Prelude.{IsPermutation}
use Rattle.std.proofs.lemmas.Bool.{cases_lt}
use Rattle.std.proofs.lemmas.List.{set-get_or, set_comm}
use Rattle.std.proofs.lemmas.List.Edits.{swap_is}
use Rattle.std.proofs.lemmas.List.Sorted.{IsPermutation-keeps}
use Rattle.ip_dissect.specs.Dissection.{dissected}
use Rattle.ip_statistics.specs.Packet.{counts_of}
use Rattle.ip_statistics.specs.Lists.{statistics_of, Merges, counted, joined, packets_in, merged_in}
use Rattle.ip_statistics.specs.Statistics.{nothing, merged}
use Rattle.ip_statistics.specs.declared.statistics.Statistics.{Statistics}
use Rattle.ip_statistics.proofs.CountLemmas.{added_comm, added_assoc, sum-zero, all_added_comm, all_added_assoc, all_added-zeros, zeros_added, of_length}

pub merged_comm : (a b : Statistics) → merged a b ≡ merged b a
merged_comm a b = cc (added_comm a.packets b.packets, added_comm a.without_header b.without_header, added_comm a.ipv4 b.ipv4, added_comm a.ipv6 b.ipv6, added_comm a.at_payload b.at_payload, added_comm a.at_later_fragment b.at_later_fragment, added_comm a.at_truncated_header b.at_truncated_header, added_comm a.at_fault b.at_fault, added_comm a.atomic_fragments b.atomic_fragments, added_comm a.first_fragments b.first_fragments, added_comm a.middle_fragments b.middle_fragments, added_comm a.last_fragments b.last_fragments, added_comm a.incomplete b.incomplete, added_comm a.payload_bytes b.payload_bytes, all_added_comm a.chain_headers b.chain_headers, all_added_comm a.chain_bytes b.chain_bytes, all_added_comm a.headers b.headers, all_added_comm a.payload_numbers b.payload_numbers, all_added_comm a.later_fragment_numbers b.later_fragment_numbers, all_added_comm a.truncated_headers b.truncated_headers, all_added_comm a.faults b.faults)

pub merged_assoc : (a b c : Statistics) → merged (merged a b) c ≡ merged a (merged b c)
merged_assoc a b c = cc (added_assoc a.packets b.packets c.packets, added_assoc a.without_header b.without_header c.without_header, added_assoc a.ipv4 b.ipv4 c.ipv4, added_assoc a.ipv6 b.ipv6 c.ipv6, added_assoc a.at_payload b.at_payload c.at_payload, added_assoc a.at_later_fragment b.at_later_fragment c.at_later_fragment, added_assoc a.at_truncated_header b.at_truncated_header c.at_truncated_header, added_assoc a.at_fault b.at_fault c.at_fault, added_assoc a.atomic_fragments b.atomic_fragments c.atomic_fragments, added_assoc a.first_fragments b.first_fragments c.first_fragments, added_assoc a.middle_fragments b.middle_fragments c.middle_fragments, added_assoc a.last_fragments b.last_fragments c.last_fragments, added_assoc a.incomplete b.incomplete c.incomplete, added_assoc a.payload_bytes b.payload_bytes c.payload_bytes, all_added_assoc a.chain_headers b.chain_headers c.chain_headers, all_added_assoc a.chain_bytes b.chain_bytes c.chain_bytes, all_added_assoc a.headers b.headers c.headers, all_added_assoc a.payload_numbers b.payload_numbers c.payload_numbers, all_added_assoc a.later_fragment_numbers b.later_fragment_numbers c.later_fragment_numbers, all_added_assoc a.truncated_headers b.truncated_headers c.truncated_headers, all_added_assoc a.faults b.faults c.faults)

-- nothing is neutral
nothing_twice : merged nothing nothing ≡ nothing
nothing_twice = cc (zeros_added 17, zeros_added 73, zeros_added 256, zeros_added 256, zeros_added 256, zeros_added 16, zeros_added 128)

sum_and_nothing : (a b : Statistics) (fits : (length a.chain_headers ≤ 17) × (length a.chain_bytes ≤ 73) × (length a.headers ≤ 256) × (length a.payload_numbers ≤ 256) × (length a.later_fragment_numbers ≤ 256) × (length a.truncated_headers ≤ 16) × (length a.faults ≤ 128)) → merged (merged a b) nothing ≡ merged a b
sum_and_nothing a b fits = cc (sum-zero a.packets b.packets, sum-zero a.without_header b.without_header, sum-zero a.ipv4 b.ipv4, sum-zero a.ipv6 b.ipv6, sum-zero a.at_payload b.at_payload, sum-zero a.at_later_fragment b.at_later_fragment, sum-zero a.at_truncated_header b.at_truncated_header, sum-zero a.at_fault b.at_fault, sum-zero a.atomic_fragments b.atomic_fragments, sum-zero a.first_fragments b.first_fragments, sum-zero a.middle_fragments b.middle_fragments, sum-zero a.last_fragments b.last_fragments, sum-zero a.incomplete b.incomplete, sum-zero a.payload_bytes b.payload_bytes, all_added-zeros a.chain_headers b.chain_headers 17 fits.0, all_added-zeros a.chain_bytes b.chain_bytes 73 fits.1, all_added-zeros a.headers b.headers 256 fits.2, all_added-zeros a.payload_numbers b.payload_numbers 256 fits.3, all_added-zeros a.later_fragment_numbers b.later_fragment_numbers 256 fits.4, all_added-zeros a.truncated_headers b.truncated_headers 16 fits.5, all_added-zeros a.faults b.faults 128 fits.6)

-- the statistics of one packet, and those of more
abbrev pub counts_at : List ℕ → Statistics
counts_at s = counts_of (dissected s)

pub nothing_right : (xs : List (List ℕ)) → merged (statistics_of xs) nothing ≡ statistics_of xs
nothing_right [] = nothing_twice
nothing_right (s ∷ xs) = sum_and_nothing (counts_at s) (statistics_of xs) (of_length 17 _, of_length 73 _, of_length 256 _, of_length 256 _, of_length 256 _, of_length 16 _, of_length 128 _)

-- Lists joined, and packets exchanged.
pub statistics_of-append : (xs ys : List (List ℕ)) → statistics_of (xs ++ ys) ≡ merged (statistics_of xs) (statistics_of ys)
statistics_of-append [] ys = sym (merged_comm nothing (statistics_of ys) ∙ nothing_right ys)
statistics_of-append (s ∷ xs) ys = ap (merged (counts_at s)) (statistics_of-append xs ys) ∙ sym (merged_assoc (counts_at s) (statistics_of xs) (statistics_of ys))

exchanged : (a b c : Statistics) → merged a (merged b c) ≡ merged b (merged a c)
exchanged a b c = sym (merged_assoc a b c) ∙ ap (λ d. merged d c) (merged_comm a b) ∙ merged_assoc b a c

exchanged_with_first : (xs : List (List ℕ)) (j : ℕ) (s t : List ℕ) → j < length xs → merged (counts_at s) (statistics_of (set xs j t)) ≡ merged (counts_at t) (statistics_of (set xs j s))
exchanged_with_first [] j s t l = absurd (let h : ⊥ = omega (arith, l) in h)
exchanged_with_first (x ∷ xs) zero s t l = exchanged (counts_at s) (counts_at t) (statistics_of xs)
exchanged_with_first (x ∷ xs) (suc j) s t l = exchanged (counts_at s) (counts_at x) (statistics_of (set xs j t))
    ∙ ap (merged (counts_at x)) (exchanged_with_first xs j s t (omega (arith, l)))
    ∙ exchanged (counts_at x) (counts_at t) (statistics_of (set xs j s))

exchanged_in : (xs : List (List ℕ)) (i j : ℕ) (s t : List ℕ) → i < j → j < length xs → statistics_of (set (set xs i s) j t) ≡ statistics_of (set (set xs i t) j s)
exchanged_in [] i j s t below l = absurd (let h : ⊥ = omega (arith, l) in h)
exchanged_in (x ∷ xs) i zero s t below l = absurd (let h : ⊥ = omega (arith, below) in h)
exchanged_in (x ∷ xs) zero (suc j) s t below l = exchanged_with_first xs j s t (omega (arith, l))
exchanged_in (x ∷ xs) (suc i) (suc j) s t below l = ap (merged (counts_at x)) (exchanged_in xs i j s t (omega (arith, below)) (omega (arith, l)))

-- the element at a place, put there again
put_again : (xs : List (List ℕ)) (i j : ℕ) → set (set xs i (get_or xs i [])) j (get_or xs j []) ≡ xs
put_again xs i j = ap (λ ys. set ys j (get_or xs j [])) (set-get_or xs i []) ∙ set-get_or xs j []

swapped : (xs : List (List ℕ)) (i j : ℕ) → i < length xs → j < length xs → statistics_of (set (set xs i (get_or xs j [])) j (get_or xs i [])) ≡ statistics_of xs
swapped xs i j l m = elim (cases_lt i j) [
  | inl below ↦ exchanged_in xs i j (get_or xs j []) (get_or xs i []) below m ∙ ap statistics_of (put_again xs i j)
  | inr not_below ↦ elim (cases_lt j i) [
    | inl above ↦ ap statistics_of (set_comm xs i j (get_or xs j []) (get_or xs i []) (λ e. omega (arith, e, above)))
        ∙ exchanged_in xs j i (get_or xs i []) (get_or xs j []) above l ∙ ap statistics_of (put_again xs j i)
    | inr not_above ↦ let same : j ≡ i = omega (arith, not_below, not_above) in
        ap statistics_of (ap (λ k. set (set xs i (get_or xs k [])) k (get_or xs i [])) same ∙ put_again xs i i)
  ]
]

pub statistics_of-permutation : (xs ys : List (List ℕ)) → IsPermutation xs ys → statistics_of xs ≡ statistics_of ys
statistics_of-permutation xs ys = IsPermutation-keeps xs (λ zs. statistics_of xs ≡ statistics_of zs) refl (λ zs i j l m e. e ∙ sym (ap statistics_of (sym (swap_is zs i j [] l m)) ∙ swapped zs i j l m)) ys

pub merged_in-packets_in : (m : Merges) → merged_in m ≡ statistics_of (packets_in m)
merged_in-packets_in (counted xs) = refl
merged_in-packets_in (joined m n) = ap (λ a. merged a (merged_in n)) (merged_in-packets_in m) ∙ ap (merged (statistics_of (packets_in m))) (merged_in-packets_in n) ∙ sym (statistics_of-append (packets_in m) (packets_in n))
