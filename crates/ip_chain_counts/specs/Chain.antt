-- The chain of a packet as a key.
use Rattle.std.specs.Prelude.{ℕ, List, [], ◌∷◌, ◌++◌, map, ◌==◌, if◌then◌else◌}
use Rattle.ip_spec.specs.Chain.{ExtHeader}
use Rattle.ip_dissect.specs.Dissection.{DissectedParts, dissected}
use Rattle.ip_dissect.specs.declared.end.End.{End}
use Rattle.ip_dissect.specs.declared.end.End.TheVariants.{Payload, LaterFragment, Truncated, Fault}

-- how a chain ends: as a whole (0), at a fault (1), or truncated (2)
abbrev pub chain_end : End → ℕ
chain_end Payload = 0
chain_end LaterFragment = 0
chain_end (Fault e header) = 1
chain_end (Truncated e header) = 2

-- the protocol numbers of extension headers
abbrev pub numbers_of : List ExtHeader → List ℕ
numbers_of c = map (λ (h : ExtHeader). h.number) c

-- the chain of the packet with the parts p: its IP version, the number after the extension headers, how they end, and their
-- numbers
abbrev pub chain_of : DissectedParts → List ℕ
chain_of p = p.version ∷ p.number ∷ chain_end p.end ∷ numbers_of p.headers

-- The keys of a packet after the path of the packets that carry it: one, or none without a base header.
abbrev pub keys_of : List ℕ → DissectedParts → List (List ℕ)
keys_of path p = if p.version == 0 then [] else (path ++ chain_of p) ∷ []

-- those of the packets at the start of each of these bytes
unfoldable pub keys_of_all : List ℕ → List (List ℕ) → List (List ℕ)
keys_of_all path [] = []
keys_of_all path (s ∷ packets) = keys_of path (dissected s) ++ keys_of_all path packets
