-- The runs of the longest chain at the start of bytes, and the encodings of their values.
use Rattle.std.specs.Prelude.{ℕ, List, [], ◌∷◌, ⊤}
use Rattle.ip_spec.specs.Chain.{ExtHeader, leads_to}
use Rattle.ip_spec.specs.Walk.{IsSpelling}
use Rattle.ip_spec.proofs.RunsLemmas.{some_runs}
use Rattle.ip_ext_slices.specs.Longest.{longest_chain}
use Rattle.ip_ext_chains.specs.Ipv6Extensions.{placed_fields}
use Rattle.ip_ext_chains.specs.declared.ipv6_exts.Ipv6Extensions.{Ipv6Extensions}

-- Headers c that lead to m have exactly one list of runs: this is it. Only `AreRuns` is known about it.
abbrev pub runs_from : ℕ → List ExtHeader → List (List ExtHeader)
runs_from m c = (some_runs m c).0

-- those of the longest chain from n at the start of s
abbrev pub runs_of : ℕ → List ℕ → List (List ExtHeader)
runs_of n s = runs_from (leads_to n (longest_chain n s)) (longest_chain n s)

-- The chains encode the values one after the other: the first from n, each other from the number to which the one
-- before leads.
abbrev pub AreSpellings : ℕ → List Ipv6Extensions → List (List ExtHeader) → Type 0
AreSpellings n [] [] = ⊤
AreSpellings n [] (d ∷ ds) = ⊥
AreSpellings n (v ∷ vs) [] = ⊥
AreSpellings n (v ∷ vs) (d ∷ ds) = IsSpelling (placed_fields v) n d × AreSpellings (leads_to n d) vs ds
