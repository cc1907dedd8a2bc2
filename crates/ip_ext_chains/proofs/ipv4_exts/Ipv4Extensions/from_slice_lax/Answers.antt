use Rattle.ip_spec.proofs.Common.{ℕ, ◌<◌, List, arith, All-from_get_or, AreBytes, slice_index_or}
use Rattle.ip_ext_chains.proofs.Ipv4WalkLemmas.{cleared_encodes}
use Rattle.ip_ext_chains.proofs.ipv4_exts.Ipv4Extensions.from_slice_lax.Goals as goal

are_bytes : (s : List ℕ) → ((i : ℕ) → slice_index_or s i 0 < 256) → AreBytes s
are_bytes s small = All-from_get_or (λ x. x < 256) s 0 (λ i l. small i)

pub returns-clause-cleared : goal.returns-clause-cleared
returns-clause-cleared c = rw (c.fill.ensures, c.scan-fault.ensures.value) (cleared_encodes _ _ (are_bytes _ (λ i. let f = c.type_inv.start_slice i in omega arith)))
