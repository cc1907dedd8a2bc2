-- Chains as keys.
use Rattle.std.proofs.Common.{◌≡◌, ◌≢◌, ℕ, List, [], ◌∷◌, ◌++◌, refl, sym, ap, ◌∙◌, append_assoc, Bool, true, false}
use Rattle.std.specs.Prelude.{◌==◌}
use Rattle.std.proofs.lemmas.List.{append-nil}
use Rattle.std.proofs.lemmas.Bool.{eqb-true, eq-eqb}
use Rattle.ip_dissect.specs.Dissection.{DissectedParts, dissected}
use Rattle.ip_key_counts.specs.Counts.{Counts, counted, keys_counted}
use Rattle.ip_key_counts.proofs.MergeLemmas.{keys_append}
use Rattle.ip_chain_counts.specs.Chain.{chain_of, keys_of, keys_of_all}

-- A packet without a base header counts nothing, and any other one its key.
pub none_counted : (room : ℕ) (c : Counts) (path : List ℕ) (p : DissectedParts) → p.version ≡ 0 → c ≡ keys_counted room c (keys_of path p)
unfolding keys_counted
none_counted room c path p is = rw (eq-eqb p.version 0 is) refl

either : (t : Bool) → (t ≡ true → ⊥) → t ≡ false
either true differs = absurd (differs refl)
either false differs = refl

different : (a b : ℕ) → a ≢ b → (a == b) ≡ false
different a b apart = either (a == b) (λ is. apart (eqb-true a b is))

pub one_counted : (room : ℕ) (c : Counts) (path : List ℕ) (p : DissectedParts) → p.version ≢ 0 → counted room c (path ++ chain_of p) 1 ≡ keys_counted room c (keys_of path p)
unfolding keys_counted
one_counted room c path p apart = rw (different p.version 0 apart) refl

pub keys_of_more : (path s : List ℕ) (xs : List (List ℕ)) → keys_of_all path (xs ++ s ∷ []) ≡ keys_of_all path xs ++ keys_of path (dissected s)
unfolding keys_of_all
keys_of_more path s [] = append-nil (keys_of path (dissected s))
keys_of_more path s (x ∷ xs) =
    ap (λ (ks : List (List ℕ)). keys_of path (dissected x) ++ ks) (keys_of_more path s xs)
    ∙ sym (append_assoc (keys_of path (dissected x)) (keys_of_all path xs) (keys_of path (dissected s)))

pub one_more : (room : ℕ) (c old new : Counts) (path s : List ℕ) (xs : List (List ℕ)) → new ≡ keys_counted room old (keys_of path (dissected s))
    → old ≡ keys_counted room c (keys_of_all path xs) → new ≡ keys_counted room c (keys_of_all path (xs ++ s ∷ []))
one_more room c old new path s xs counts before =
    counts
    ∙ (ap (λ (d : Counts). keys_counted room d (keys_of path (dissected s))) before
    ∙ (sym (keys_append room c (keys_of_all path xs) (keys_of path (dissected s))) ∙ ap (keys_counted room c) (sym (keys_of_more path s xs))))
