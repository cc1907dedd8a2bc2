-- Prefixes of lists of bytes.
use Rattle.ip_spec.proofs.Common.{◌≡◌, ℕ, ◌+◌, List, ◌++◌, length, take, drop, ap, arith, append_assoc, take-append-drop, length-append, front_rest, take-append_seam, common_steps, IsPrefix}

pub prefix-append : (b s : List ℕ) → IsPrefix b s → s ≡ b ++ drop (length b) s
prefix-append b s f = cc (take-append-drop (length b) s)

pub prefix_of-append : (b r s : List ℕ) → s ≡ b ++ r → IsPrefix b s
prefix_of-append b r s e = rw e (take-append_seam b r)

pub prefix_of-take : (k : ℕ) (s : List ℕ) → IsPrefix (take k s) s
prefix_of-take k s = grind (arith, common_steps)

-- a prefix is no longer, and what follows it is the rest
pub prefix-length : (b s : List ℕ) → IsPrefix b s → length b + length (drop (length b) s) ≡ length s
prefix-length b s f = omega (arith, ap length (prefix-append b s f), length-append b (drop (length b) s))

pub prefix_first : (b d s : List ℕ) → IsPrefix (b ++ d) s → IsPrefix b s
prefix_first b d s f = grind (arith, common_steps, prefix-append (b ++ d) s f, prefix_of-append b)

pub prefix_second : (b d s : List ℕ) → IsPrefix (b ++ d) s → IsPrefix d (drop (length b) s)
prefix_second b d s f = grind (arith, common_steps, prefix-append (b ++ d) s f, append_assoc b d (drop (length (b ++ d)) s))

pub prefix_join : (b d s : List ℕ) → IsPrefix b s → IsPrefix d (drop (length b) s) → IsPrefix (b ++ d) s
prefix_join b d s f g =
    prefix_of-append (b ++ d) (drop (length d) (drop (length b) s)) s (grind (arith, common_steps, prefix-append))

-- removing two prefixes in turn removes both joined
pub rest_join : (b d s : List ℕ) → IsPrefix b s → IsPrefix d (drop (length b) s) → drop (length d) (drop (length b) s) ≡ drop (length (b ++ d)) s
rest_join b d s f g = grind (arith, common_steps, front_rest, prefix-append, append_assoc)
