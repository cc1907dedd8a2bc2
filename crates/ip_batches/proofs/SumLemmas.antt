-- Packets counted one by one.
use Rattle.std.proofs.Common.{◌≡◌, ℕ, suc, List, [], ◌∷◌, ◌++◌, length, get_or, replicate, refl, sym, ap, ◌∙◌, Fits, w64}
use Rattle.ip_dissect.specs.Dissection.{dissected}
use Rattle.ip_statistics.specs.Counts.{all_added}
use Rattle.ip_statistics.specs.HeaderCounts.{AreCounts}
use Rattle.ip_statistics.specs.Packet.{counts_of}
use Rattle.ip_statistics.specs.Lists.{statistics_of}
use Rattle.ip_statistics.specs.Statistics.{merged}
use Rattle.ip_statistics.specs.declared.statistics.Statistics.{Statistics}
use Rattle.ip_statistics.proofs.MergeLemmas.{merged_comm, merged_assoc, statistics_of-append}
use Rattle.ip_statistics.proofs.CountLemmas.{added-zero}
use Rattle.ip_statistics.proofs.HeaderLemmas.{none_counted}

-- The last packet may be counted first.
last_first : (xs : List (List ℕ)) (s : List ℕ) → statistics_of (s ∷ xs) ≡ statistics_of (xs ++ s ∷ [])
last_first xs s = statistics_of-append (s ∷ []) xs ∙ merged_comm _ _ ∙ sym (statistics_of-append xs (s ∷ []))

-- One more is counted.
pub next_counted : (a b c : Statistics) (xs : List (List ℕ)) (s : List ℕ) → b ≡ merged a (statistics_of xs) → c ≡ merged b (counts_of (dissected s))
    → c ≡ merged a (statistics_of (xs ++ s ∷ []))
next_counted a b c xs s before counted = counted ∙ ap (λ m. merged m (counts_of (dissected s))) before ∙ merged_assoc a (statistics_of xs) (counts_of (dissected s))
    ∙ ap (merged a) (merged_comm (statistics_of xs) (counts_of (dissected s)) ∙ last_first xs s)

-- All are counted after others.
pub counted_after : (a b : Statistics) (xs ys : List (List ℕ)) → b ≡ merged a (statistics_of xs) → a ≡ statistics_of ys → b ≡ statistics_of (xs ++ ys)
counted_after a b xs ys counted before = counted ∙ ap (λ m. merged m (statistics_of xs)) before ∙ merged_comm _ _ ∙ sym (statistics_of-append xs ys)

-- Zeros add nothing.
zeros_of_length : (xs : List ℕ) → ((i : ℕ) → Fits w64 (get_or xs i 0)) → all_added xs (replicate (length xs) 0) ≡ xs
unfolding all_added
zeros_of_length [] fits = refl
zeros_of_length (x ∷ xs) fits = cc (added-zero x (fits 0), zeros_of_length xs (λ i. fits (suc i)))

pub zeros_add_nothing : (xs : List ℕ) (n : ℕ) → ((i : ℕ) → Fits w64 (get_or xs i 0)) → n ≡ length xs → all_added xs (replicate n 0) ≡ xs
zeros_add_nothing xs n fits e = ap (λ m. all_added xs (replicate m 0)) e ∙ zeros_of_length xs fits

pub lists_stay : (a : Statistics) → all_added a.chain_headers (replicate 17 0) ≡ a.chain_headers → all_added a.chain_bytes (replicate 73 0) ≡ a.chain_bytes → all_added a.headers (replicate 256 0) ≡ a.headers → all_added a.payload_numbers (replicate 256 0) ≡ a.payload_numbers → all_added a.later_fragment_numbers (replicate 256 0) ≡ a.later_fragment_numbers → all_added a.truncated_headers (replicate 16 0) ≡ a.truncated_headers → all_added a.faults (replicate 128 0) ≡ a.faults
    → record a { chain_headers = all_added a.chain_headers (replicate 17 0); chain_bytes = all_added a.chain_bytes (replicate 73 0); headers = all_added a.headers (replicate 256 0); payload_numbers = all_added a.payload_numbers (replicate 256 0); later_fragment_numbers = all_added a.later_fragment_numbers (replicate 256 0); truncated_headers = all_added a.truncated_headers (replicate 16 0); faults = all_added a.faults (replicate 128 0) } ≡ a
lists_stay a chains lengths headers numbers later truncated faults = rw (chains, lengths, headers, numbers, later, truncated, faults) refl

-- No header adds nothing.
pub no_headers_counted : (xs : List ℕ) → ((i : ℕ) → Fits w64 (get_or xs i 0)) → length xs ≡ 256 → AreCounts xs
no_headers_counted xs fits len = record { len = len; none = none_counted xs [] refl len fits }
