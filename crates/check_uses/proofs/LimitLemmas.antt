-- Where a limit is after the headers of a chain.
use Rattle.ip_spec.proofs.Common.{◌≡◌, ◌+◌, List, [], ◌∷◌, ◌++◌, length, refl, arith, length-append, ExtHeader, bytes_of}
use Rattle.ip_base.specs.Limits.{Limits, started, advanced}
use Rattle.ip_ext_chains.specs.ChainReading.{layer_of, limits_after}

pub limits_after-same : (c : List ExtHeader) (l : Limits)
    → ((limits_after c l).layer_offset + (limits_after c l).read_len ≡ l.layer_offset + l.read_len + length (bytes_of c)) × ((limits_after c l).len_source ≡ l.len_source)
limits_after-same [] l = grind arith
limits_after-same (h ∷ c) l = grind (arith, length-append h.bytes (bytes_of c), limits_after-same c (advanced (length h.bytes) (started (layer_of h.number) l)))

pub limits_after-last : (d : List ExtHeader) (h : ExtHeader) (l : Limits) → (limits_after (d ++ h ∷ []) l).layer ≡ layer_of h.number
limits_after-last [] h l = refl
limits_after-last (g ∷ d) h l = limits_after-last d h (advanced (length g.bytes) (started (layer_of g.number) l))
