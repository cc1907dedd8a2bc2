-- Runs written one after the other: the bytes written and the encodings of the others are the whole chain.
use Rattle.ip_spec.proofs.Common.{◌≡◌, ℕ, ◌+◌, List, ◌++◌, length, map, append_assoc, rules, Some, flat_map-append, ExtHeader, bytes_of, cleared_chain, joined, IsSpelling}
use Rattle.ip_ext_slices.specs.Longest.{longest_chain}
use Rattle.ip_ext_chains.specs.RunsOf.{runs_of, AreSpellings}
use Rattle.ip_ext_chains.specs.Ipv6Extensions.{placed_fields}
use Rattle.ip_ext_chains.specs.Ipv6ExtensionsRuns.{start, input, runs_left, values_left, GivesRun}
use Rattle.ip_ext_chains.specs.declared.ipv6_exts.Ipv6Extensions.{Ipv6Extensions}
use Rattle.ip_ext_chains.specs.declared.ipv6_exts_runs.Ipv6ExtensionsRuns.{Ipv6ExtensionsRuns}

-- this many runs of the longest chain from n at the start of s were written to `out`, and the others are encoded from
-- m
pub record IsRewriting (n : ℕ) (s : List ℕ) (r : Ipv6ExtensionsRuns) (m count : ℕ) (out : List ℕ) : Type 0 where
  pub first : start r ≡ n
  pub bytes : input r ≡ s
  pub counted : count + length (runs_left r) ≡ length (runs_of n s)
  pub spelled : AreSpellings m (values_left r) (map cleared_chain (runs_left r))
  pub whole : out ++ bytes_of (joined (map cleared_chain (runs_left r))) ≡ bytes_of (cleared_chain (longest_chain n s))

-- the next run is returned
module _ (n : ℕ) (s : List ℕ) (r q : Ipv6ExtensionsRuns) (m count : ℕ) (out : List ℕ) (x : Ipv6Extensions) (k : IsRewriting n s r m count out) (given : GivesRun r (Some x) q) where
  abbrev run : List ExtHeader
  run = given.3.0

  pub rewriting_spelled : IsSpelling (placed_fields x) m (cleared_chain run)
  rewriting_spelled = search rules

  pub rewriting_goes : (j : ℕ) (more : List ℕ) → AreSpellings j (values_left q) (map cleared_chain (runs_left q)) → more ≡ out ++ bytes_of (cleared_chain run) → IsRewriting n s q j (count + 1) more
  rewriting_goes j more spelled written = search (rules, append_assoc, flat_map-append)
