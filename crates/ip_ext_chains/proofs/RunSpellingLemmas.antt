-- The encodings of the values of runs: the runs themselves, with their reserved bits set to zero.
use Rattle.ip_spec.proofs.Common.{rules, ◌≡◌, ℕ, List, ◌∷◌, map, refl, Bool, [], if◌then◌else◌, flat_map, AllByRecursion, flat_map-append, AreBytes, cleared_chain, ExtHeader, leads_to, bytes_of, FitsPlaces, AreChains, joined}
use Rattle.ip_spec.proofs.ClearedLemmas.{cleared_leads}
use Rattle.ip_spec.proofs.RunsLemmas.{runs_joined, runs_written, runs_fit, runs_chains}
use Rattle.ip_spec.proofs.SpellingLemmas.{one_spelling, cleared_spells}
use Rattle.ip_ext_slices.specs.Longest.{longest_chain}
use Rattle.ip_ext_chains.specs.Ipv6Extensions.{value_of, placed_fields}
use Rattle.ip_ext_chains.specs.RunsOf.{AreSpellings, runs_from, runs_of}
use Rattle.ip_ext_chains.specs.Ipv6ExtensionsRuns.{number_before}
use Rattle.ip_ext_chains.specs.declared.ipv6_exts.Ipv6Extensions.{Ipv6Extensions}
use Rattle.ip_ext_slices.proofs.LongestLemmas.{longest_chain-longest}
use Rattle.ip_ext_chains.proofs.PlacedFieldsLemmas.{placed_fields-value_of}
use Rattle.ip_ext_chains.proofs.RunLemmas.{none_left, some_left}
use Rattle.ip_ext_chains.proofs.RunsOfLemmas.{number_before-some, number_before-end, runs_from-runs, first_bytes, later_bytes, chain_bytes, chain_before}

pub pieces_spelled : (n : ℕ) (ps : List (List ExtHeader)) → AreChains n ps → AllByRecursion FitsPlaces ps → AreBytes (bytes_of (joined ps)) → AreSpellings n (map value_of ps) (map cleared_chain ps)
pieces_spelled n [] k f b = tt
pieces_spelled n (p ∷ ps) k f b = search (rules, cleared_spells, first_bytes, later_bytes, placed_fields-value_of, cleared_leads, pieces_spelled (leads_to n p) ps)

pub one_list_of_spellings : (n : ℕ) (vs : List Ipv6Extensions) (ds es : List (List ExtHeader)) → AreSpellings n vs ds → AreSpellings n vs es → ds ≡ es
one_list_of_spellings n [] ds es s t = search rules
one_list_of_spellings n (v ∷ vs) (d ∷ ds) (e ∷ es) s t = let same = one_spelling (placed_fields v) n d e s.0 t.0 in cc (one_list_of_spellings (leads_to n d) vs ds es s.1 (rw same t.1))
one_list_of_spellings n (v ∷ vs) ds es s t = search rules

bytes_joined : (ps : List (List ExtHeader)) → bytes_of (joined (map cleared_chain ps)) ≡ flat_map (λ p. bytes_of (cleared_chain p)) ps
bytes_joined [] = refl
bytes_joined (p ∷ ps) = search (rules, flat_map-append, bytes_joined ps)

-- the remaining runs of a chain, from the number before them
pub left_spelled : (n m : ℕ) (s : List ℕ) (done : Bool) (j : ℕ) → AreBytes (bytes_of (longest_chain n s)) → j ≡ number_before m (longest_chain n s)
    → AreSpellings j (map value_of (if done then [] else runs_from m (longest_chain n s))) (map cleared_chain (if done then [] else runs_from m (longest_chain n s)))
left_spelled n m s done j bytes e = search (rules, pieces_spelled, runs_chains, runs_fit, runs_joined, chain_before, longest_chain-longest, runs_from-runs)

-- the runs of the longest chain at the start of bytes
module _ (n : ℕ) (s : List ℕ) (bytes : AreBytes s) where
  pub runs_spelled : AreSpellings n (map value_of (runs_of n s)) (map cleared_chain (runs_of n s))
  runs_spelled = search (rules, pieces_spelled, runs_chains, runs_fit, runs_joined, longest_chain-longest, chain_bytes, runs_from-runs)

-- the bytes of the encodings of all runs of a chain
pub spellings_written : (n m : ℕ) (c : List ExtHeader) → AreSpellings n (map value_of (runs_from m c)) (map cleared_chain (runs_from m c))
    → (ds : List (List ExtHeader)) → AreSpellings n (map value_of (runs_from m c)) ds → bytes_of (joined ds) ≡ bytes_of (cleared_chain c)
spellings_written n m c spelled ds t = search (rules, one_list_of_spellings n (map value_of (runs_from m c)), bytes_joined, runs_written, runs_from-runs)

-- the lemmas on the number from which the remaining runs are encoded
pub ruleset numbers_left = (left_spelled, none_left, some_left, number_before-some, number_before-end, longest_chain-longest)
