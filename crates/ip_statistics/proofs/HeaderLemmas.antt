-- Extension headers counted by their numbers.
use Rattle.std.proofs.Common.{◌≡◌, ℕ, ◌+◌, ◌==◌, ◌&&◌, List, [], ◌∷◌, ◌++◌, length, get_or, Fits, w64, sym, ◌∙◌, ap, true, arith}
use Rattle.std.specs.List.{count_by}
use Rattle.std.proofs.lemmas.List.Sums.{sum_by-cons}
use Rattle.ip_spec.specs.Chain.{ExtHeader}
use Rattle.ip_statistics.specs.Counts.{all_added, each_below, one_if}
use Rattle.ip_statistics.specs.HeaderCounts.{number_counts}
use Rattle.ip_statistics.proofs.CountLemmas.{each_below_same, length-all_added, length-each_below, sum_of_none, sum_of_sums}

-- the headers in a list with the number k
abbrev pub with_number : List ExtHeader → ℕ → ℕ
with_number hs k = count_by (λ h. h.number == k) hs

-- One more header is counted.
more_with : (c : List ExtHeader) (h : ExtHeader) (k : ℕ) → with_number (c ++ h ∷ []) k ≡ with_number c k + one_if (h.number == k)
more_with [] h k = sum_by-cons (λ g. one_if (g.number == k)) h [] ∙ omega arith
more_with (g ∷ c) h k = sum_by-cons (λ f. one_if (f.number == k)) g (c ++ h ∷ []) ∙ omega (arith, more_with c h k, sum_by-cons (λ f. one_if (f.number == k)) g c)

pub counted_more : (old xs ys : List ℕ) (c : List ExtHeader) (h : ExtHeader) → length old ≡ 256 → xs ≡ all_added old (number_counts c) → ys ≡ all_added xs (each_below (length xs) (λ i. one_if (true && (h.number == i))))
    → ys ≡ all_added old (number_counts (c ++ h ∷ []))
counted_more old xs ys c h e sum one = one
    ∙ ap (λ n. all_added xs (each_below n (λ i. one_if (h.number == i)))) (ap length sum ∙ length-all_added old (number_counts c) (e ∙ sym (length-each_below 256 (with_number c))) ∙ e)
    ∙ ap (λ zs. all_added zs (each_below 256 (λ i. one_if (h.number == i)))) sum
    ∙ sum_of_sums old 256 (with_number c) (λ i. one_if (h.number == i)) e
    ∙ ap (all_added old) (each_below_same 256 (λ i. with_number c i + one_if (h.number == i)) (with_number (c ++ h ∷ [])) (λ i _. sym (more_with c h i)))

-- None is.
pub none_counted : (xs : List ℕ) (c : List ExtHeader) → c ≡ [] → length xs ≡ 256 → ((i : ℕ) → Fits w64 (get_or xs i 0)) → xs ≡ all_added xs (number_counts c)
none_counted xs c none e fits = sum_of_none xs 256 (with_number c) e fits (λ i _. ap (λ hs. with_number hs i) none)
