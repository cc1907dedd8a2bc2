-- The bytes of keys.
use Rattle.std.proofs.Common.{◌≡◌, ℕ, List, [], ◌∷◌, ◌++◌, sym, ap, ◌∙◌, subst, append_assoc, arith}
use Rattle.std.specs.Prelude.{◌<◌, ◌+◌, length, take, set, slice_set, min}
use Rattle.std.proofs.Math.Seq.{take-set-lt, set-append_seam}
use Rattle.std.proofs.lemmas.List.{length-append, length_push}
use Rattle.ip_dissect.specs.Dissection.{DissectedParts}
use Rattle.ip_chain_counts.specs.Chain.{chain_end, chain_of, numbers_of}
use Rattle.ip_chain_counts.specs.KeyBytes.{HasBytes}
use Rattle.ip_chain_counts.specs.declared.key_bytes.KeyBytes.{KeyBytes}
use Rattle.ip_key_counts.specs.declared.counted_key.TheConstants.{MAX_KEY_LEN}

pub has_as : (b : KeyBytes) (xs ys : List ℕ) → xs ≡ ys → HasBytes b xs → HasBytes b ys
has_as b xs ys same has = let P : List ℕ → Type 0 = λ zs. HasBytes b zs in subst P same has

-- three bytes after others, one by one
pub joined : (xs : List ℕ) (v n e : ℕ) → ((xs ++ v ∷ []) ++ n ∷ []) ++ e ∷ [] ≡ xs ++ v ∷ n ∷ e ∷ []
joined xs v n e = simp append_assoc

-- a byte in the place of another one
replaced : (bs xs ys : List ℕ) (m a v : ℕ) → length xs < m → take m bs ≡ xs ++ a ∷ ys → take m (set bs (length xs) v) ≡ xs ++ v ∷ ys
replaced bs xs ys m a v l is = take-set-lt m bs (length xs) v l ∙ (ap (λ (zs : List ℕ). set zs (length xs) v) is ∙ set-append_seam xs a ys v)

-- and in that of the one after it
next_replaced : (bs xs ys : List ℕ) (m a b v : ℕ) → length xs + 1 < m → take m bs ≡ xs ++ b ∷ a ∷ ys → take m (set bs (length xs + 1) v) ≡ xs ++ b ∷ v ∷ ys
next_replaced bs xs ys m a b v l is =
    let push : length (xs ++ b ∷ []) ≡ length xs + 1 = length_push xs b in
    let l' : length (xs ++ b ∷ []) < m = omega (arith, push) in
    ap (λ i. take m (set bs i v)) (sym push) ∙ (replaced bs (xs ++ b ∷ []) ys m a v l' (is ∙ sym (append_assoc xs (b ∷ []) (a ∷ ys))) ∙ append_assoc xs (b ∷ []) (v ∷ ys))

-- and in that of the second one after it
last_replaced : (bs xs ys : List ℕ) (m a b c v : ℕ) → length xs + 2 < m → take m bs ≡ xs ++ b ∷ c ∷ a ∷ ys → take m (set bs (length xs + 2) v) ≡ xs ++ b ∷ c ∷ v ∷ ys
last_replaced bs xs ys m a b c v l is =
    let push : length (xs ++ b ∷ []) ≡ length xs + 1 = length_push xs b in
    let l' : length (xs ++ b ∷ []) + 1 < m = omega (arith, push) in
    let at : length xs + 2 ≡ length (xs ++ b ∷ []) + 1 = omega (arith, push) in
    ap (λ i. take m (set bs i v)) at ∙ (next_replaced bs (xs ++ b ∷ []) ys m a c v l' (is ∙ sym (append_assoc xs (b ∷ []) (c ∷ a ∷ ys))) ∙ append_assoc xs (b ∷ []) (c ∷ v ∷ ys))

three_set : (bs xs ys : List ℕ) (v n e m : ℕ) → length xs + 2 < m → take m bs ≡ xs ++ 0 ∷ 0 ∷ 0 ∷ ys
    → take m (set (set (set bs (length xs) v) (length xs + 1) n) (length xs + 2) e) ≡ xs ++ v ∷ n ∷ e ∷ ys
three_set bs xs ys v n e m l is =
    last_replaced _ xs ys m 0 v n e l (next_replaced _ xs (0 ∷ ys) m 0 v n (omega (arith, l)) (replaced bs xs (0 ∷ 0 ∷ ys) m 0 v (omega (arith, l)) is))

-- three bytes in the places of zeros
pub three_replaced : (b : KeyBytes) (xs ys : List ℕ) (v n e i : ℕ) → i ≡ length xs → HasBytes b (xs ++ 0 ∷ 0 ∷ 0 ∷ ys)
    → HasBytes (record b { bytes = slice_set (slice_set (slice_set b.bytes i v) (i + 1) n) (i + 2) e }) (xs ++ v ∷ n ∷ e ∷ ys)
three_replaced b xs ys v n e i at has =
    let old : List ℕ = xs ++ 0 ∷ 0 ∷ 0 ∷ ys in
    let new : List ℕ = xs ++ v ∷ n ∷ e ∷ ys in
    let len : length new ≡ length old = length-append xs (v ∷ n ∷ e ∷ ys) ∙ sym (length-append xs (0 ∷ 0 ∷ 0 ∷ ys)) in
    let l : length xs + 2 < length old = omega (arith, length-append xs (0 ∷ 0 ∷ 0 ∷ ys)) in
    record {
      len = has.len ∙ ap (λ m. min m (MAX_KEY_LEN + 1)) (sym len);
      bytes = λ few.
          ap (λ m. take m (set (set (set b.bytes i v) (i + 1) n) (i + 2) e)) len
          ∙ (ap (λ j. take (length old) (set (set (set b.bytes j v) (j + 1) n) (j + 2) e)) at
          ∙ three_set b.bytes xs ys v n e (length old) l (has.bytes (omega (arith, few, len))));
    }

-- the key of the packet with the parts p after a path: zeros were in the places of its version v, number n and end e
pub key_made : (old new : KeyBytes) (path : List ℕ) (p : DissectedParts) (v n e : ℕ) → v ≡ p.version → n ≡ p.number → e ≡ chain_end p.end
    → HasBytes old ((path ++ 0 ∷ 0 ∷ 0 ∷ []) ++ numbers_of p.headers)
    → (HasBytes old (path ++ 0 ∷ 0 ∷ 0 ∷ numbers_of p.headers) → HasBytes new (path ++ v ∷ n ∷ e ∷ numbers_of p.headers))
    → HasBytes new (path ++ chain_of p)
key_made old new path p v n e version number end has put =
    let ys : List ℕ = numbers_of p.headers in
    has_as _ _ _
    (ap (λ (x : ℕ). path ++ x ∷ n ∷ e ∷ ys) version
    ∙ (ap (λ (x : ℕ). path ++ p.version ∷ x ∷ e ∷ ys) number
    ∙ ap (λ (x : ℕ). path ++ p.version ∷ p.number ∷ x ∷ ys) end))
    (put (has_as _ _ _ (append_assoc path (0 ∷ 0 ∷ 0 ∷ []) ys) has))
