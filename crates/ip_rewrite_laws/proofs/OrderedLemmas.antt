-- Headers that are linked anew before they are put in order.
use Rattle.ip_spec.proofs.Common.{◌≡◌, ℕ, List, [], ◌∷◌, ◌++◌, refl, ◌∙◌, ap, Bool, true, false, if◌then◌else◌, ◌||◌, ◌==◌, list_any, slice_set, ExtHeader}
use Rattle.std.proofs.lemmas.List.{set-set}
use Rattle.ip_rewrite.specs.Headers.{number_of_first, linked_headers}
use Rattle.ip_rewrite.specs.Order.{is_routing, rank_of, rank, of_rank, in_order}
use Rattle.ip_rewrite.proofs.RestoringLemmas.{Alike}

-- Headers that are linked differ only in their links.
linked_alike : (m : ℕ) (c : List ExtHeader) → Alike (linked_headers m c) c
linked_alike m [] = tt
linked_alike m (h ∷ c) = (refl, λ x. set-set h.bytes 0 (number_of_first c m) x, linked_alike m c)

alike_first : (m : ℕ) (c d : List ExtHeader) → Alike c d → number_of_first c m ≡ number_of_first d m
alike_first m [] [] a = refl
alike_first m [] (h ∷ d) a = absurd a
alike_first m (g ∷ c) [] a = absurd a
alike_first m (g ∷ c) (h ∷ d) a = a.0

alike_linked : (m : ℕ) (c d : List ExtHeader) → Alike c d → linked_headers m c ≡ linked_headers m d
alike_linked m [] [] a = refl
alike_linked m [] (h ∷ d) a = absurd a
alike_linked m (g ∷ c) [] a = absurd a
alike_linked m (g ∷ c) (h ∷ d) a =
    let bytes : slice_set g.bytes 0 (number_of_first c m) ≡ slice_set h.bytes 0 (number_of_first d m) = a.1 (number_of_first c m) ∙ ap (slice_set h.bytes 0) (alike_first m c d a.2) in
    ap (λ (n : ℕ). let k : ExtHeader = record { number = n; bytes = slice_set g.bytes 0 (number_of_first c m) } in k ∷ linked_headers m c) a.0
    ∙ (ap (λ (b : List ℕ). let k : ExtHeader = record { number = h.number; bytes = b } in k ∷ linked_headers m c) bytes
    ∙ ap (λ x. record { number = h.number; bytes = slice_set h.bytes 0 (number_of_first d m) } ∷ x) (alike_linked m c d a.2))

-- So do those that are put in order.
routing_alike : (c d : List ExtHeader) → Alike c d → list_any is_routing c ≡ list_any is_routing d
routing_alike [] [] a = refl
routing_alike [] (h ∷ d) a = absurd a
routing_alike (g ∷ c) [] a = absurd a
routing_alike (g ∷ c) (h ∷ d) a = ap (λ n. (n == 43) || list_any is_routing c) a.0 ∙ ap (λ b. is_routing h || b) (routing_alike c d a.2)

rank_alike : (g h : ExtHeader) (c d : List ExtHeader) → g.number ≡ h.number → Alike c d → rank g c ≡ rank h d
rank_alike g h c d n a = ap (λ k. rank_of k (list_any is_routing c)) n ∙ ap (rank_of h.number) (routing_alike c d a)

of_alike : (k : ℕ) (c d : List ExtHeader) → Alike c d → Alike (of_rank k c) (of_rank k d)
of_alike k [] [] a = tt
of_alike k [] (h ∷ d) a = absurd a
of_alike k (g ∷ c) [] a = absurd a
of_alike k (g ∷ c) (h ∷ d) a = keep (rank g c == k) (rank h d == k) (ap (λ n. n == k) (rank_alike g h c d a.0 a.2)) (of_alike k c d a.2)
  where
    keep : (x y : Bool) → x ≡ y → Alike (of_rank k c) (of_rank k d) → Alike (if x then g ∷ of_rank k c else of_rank k c) (if y then h ∷ of_rank k d else of_rank k d)
    keep true true e b = (a.0, a.1, b)
    keep true false e b = absurd (cc)
    keep false true e b = absurd (cc)
    keep false false e b = b

joined_alike : (c d x y : List ExtHeader) → Alike c d → Alike x y → Alike (c ++ x) (d ++ y)
joined_alike [] [] x y a b = b
joined_alike [] (h ∷ d) x y a b = absurd a
joined_alike (g ∷ c) [] x y a b = absurd a
joined_alike (g ∷ c) (h ∷ d) x y a b = (a.0, a.1, joined_alike c d x y a.2 b)

order_alike : (c d : List ExtHeader) → Alike c d → Alike (in_order c) (in_order d)
order_alike c d a =
    let one = joined_alike (of_rank 0 c) (of_rank 0 d) (of_rank 1 c) (of_rank 1 d) (of_alike 0 c d a) (of_alike 1 c d a) in
    let two = joined_alike (of_rank 0 c ++ of_rank 1 c) (of_rank 0 d ++ of_rank 1 d) (of_rank 2 c) (of_rank 2 d) one (of_alike 2 c d a) in
    let three = joined_alike (of_rank 0 c ++ of_rank 1 c ++ of_rank 2 c) (of_rank 0 d ++ of_rank 1 d ++ of_rank 2 d) (of_rank 3 c) (of_rank 3 d) two (of_alike 3 c d a) in
    joined_alike (of_rank 0 c ++ of_rank 1 c ++ of_rank 2 c ++ of_rank 3 c) (of_rank 0 d ++ of_rank 1 d ++ of_rank 2 d ++ of_rank 3 d) (of_rank 4 c) (of_rank 4 d) three (of_alike 4 c d a)

pub linked_ordered : (k m : ℕ) (c : List ExtHeader) → linked_headers m (in_order (linked_headers k c)) ≡ linked_headers m (in_order c)
linked_ordered k m c = alike_linked m (in_order (linked_headers k c)) (in_order c) (order_alike (linked_headers k c) c (linked_alike k c))
