-- The runs of the longest chain and the remaining ones, the number before them, and their bytes.
use Rattle.ip_spec.proofs.Common.{common_steps, ◌≡◌, ◌≢◌, ℕ, List, ◌∷◌, length, map, refl, arith, Bool, true, false, rules, [], if◌then◌else◌, append-nil, ExtHeader, leads_to, KeepsBeginning, FitsPlaces, IsOccupied, AreRuns, ◌<◌, ◌++◌, take-append_seam, drop-append_seam, flat_map-append, All-take, All-drop, AreBytes, bytes_of, IsChain, joined, ◌≤◌, ◌/◌, ◌+◌}
use Rattle.ip_spec.proofs.RunsLemmas.{some_runs, one_runs, runs_joined, runs_bound, some_run, runs_more, chain_after, leads_to-append}
use Rattle.ip_ext_slices.specs.Longest.{longest_chain}
use Rattle.ip_ext_chains.specs.Ipv6Extensions.{value_of}
use Rattle.ip_ext_chains.specs.RunsOf.{runs_from}
use Rattle.ip_ext_slices.proofs.LongestLemmas.{longest_chain-longest}
use Rattle.ip_spec.proofs.PrefixLemmas.{prefix-append}
use Rattle.ip_ext_chains.specs.Run.{IsRun}
use Rattle.ip_ext_chains.specs.Ipv6ExtensionsRuns.{number_before}
use Rattle.ip_ext_chains.specs.declared.places.Places.{Places}
use Rattle.ip_ext_slices.specs.declared.ipv6_ext_slice.Ipv6ExtensionSlice.{Ipv6ExtensionSlice}

pub runs_from-runs : (m : ℕ) (c : List ExtHeader) → AreRuns m c (runs_from m c)
runs_from-runs m c = (some_runs m c).1

-- the remaining ones joined are the remaining headers
pub left_joined : (m : ℕ) (c : List ExtHeader) (done : Bool) → (done ≡ true → c ≡ []) → joined (if done then [] else runs_from m c) ≡ c
left_joined m c done last = search (rules, runs_joined, runs_from-runs)

-- there is at most one for each 8 bytes and one more
pub left_few : (m n : ℕ) (s : List ℕ) (done : Bool) → length (if done then [] else runs_from m (longest_chain n s)) ≤ length s / 8 + 1
left_few m n s done = search (rules, runs_bound, longest_chain-longest, runs_from-runs)

-- there is always a first run
pub some_value_left : (done : Bool) (m : ℕ) (c : List ExtHeader) → done ≡ false → map value_of (if done then [] else runs_from m c) ≢ []
some_value_left done m c w = λ e. grind (arith, common_steps, some_run m c (runs_from m c) (runs_from-runs m c))

-- The first of them is the prefix that is kept, and the others are those of the rest, unless it was the last.
pub runs_from-next : (m : ℕ) (c p : List ExtHeader) (k : KeepsBeginning FitsPlaces c p) (done : Bool) → (done ≡ true → (k.rest ≡ []) × (IsOccupied m p → ⊥)) → (done ≡ false → k.rest ≡ [] → IsOccupied m p) → runs_from m c ≡ p ∷ (if done then [] else runs_from m k.rest)
runs_from-next m c p k true ends on =
    let last = ends refl in
    let whole : c ≡ p = cc (append-nil p) in search (rules, one_runs m c (runs_from m c), runs_from-runs)
runs_from-next m c p k false ends on = let more = runs_more m c p k (on refl) in search (rules, one_runs m c (runs_from m c), runs_from-runs)

-- The headers of a chain at the start of bytes are bytes, and so are those of its parts.
module _ (c d : List ExtHeader) (b : AreBytes (bytes_of (c ++ d))) where
  both_bytes : AreBytes (bytes_of c ++ bytes_of d)
  both_bytes = rw (← flat_map-append) b

  pub first_bytes : AreBytes (bytes_of c)
  first_bytes = rw (← take-append_seam (bytes_of c) (bytes_of d)) (All-take (λ x. x < 256) (length (bytes_of c)) _ both_bytes)

  pub later_bytes : AreBytes (bytes_of d)
  later_bytes = rw (← drop-append_seam (bytes_of c) (bytes_of d)) (All-drop (λ x. x < 256) (length (bytes_of c)) _ both_bytes)

pub chain_bytes : (n : ℕ) (s : List ℕ) → AreBytes s → AreBytes (bytes_of (longest_chain n s))
chain_bytes n s bytes = grind (arith, common_steps, prefix-append, longest_chain-longest, take-append_seam)

-- the number before a chain starts it
pub chain_before : (n m : ℕ) (c : List ExtHeader) → IsChain n c → IsChain (number_before m c) c
chain_before n m c k = search rules

pub number_before-some : (n m : ℕ) (c : List ExtHeader) → IsChain n c → c ≢ [] → n ≡ number_before m c
number_before-some n m c k some = search rules

-- if no run is left, no header is, and the number is that to which the chain leads
pub number_before-end : (m : ℕ) (c : List ExtHeader) (done : Bool) → (done ≡ true → c ≡ []) → map value_of (if done then [] else runs_from m c) ≡ [] → number_before m c ≡ m
number_before-end m c done last e = search (rules, some_value_left)

-- The headers c, which lead to m, are a run and the remaining ones d.
module _ (n m : ℕ) (c d : List ExtHeader) (v : Places Ipv6ExtensionSlice) (chain : IsChain n c) (ends : m ≡ leads_to m c) (r : IsRun c v d) where
  pub run_leads : number_before m d ≡ leads_to (number_before m c) r.run
  run_leads = search (rules, chain_after (number_before m c) r.run d, chain_before n m c chain, leads_to-append)

  pub bytes_after : AreBytes (bytes_of c) → AreBytes (bytes_of d)
  bytes_after bytes = let joined : c ≡ r.run ++ d = cc in search (rules, later_bytes r.run d)

  pub ends_after : m ≡ leads_to m d
  ends_after = let joined : c ≡ r.run ++ d = cc in search (rules, leads_to-append)
