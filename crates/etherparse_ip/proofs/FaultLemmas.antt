-- The offset of a chain's error.
use Rattle.ip_spec.proofs.Common.{◌≡◌, ℕ, ◌+◌, ◌<◌, ◌^◌, List, length, arith, rules, common_steps, Some, None, option_map}
use Rattle.ip_ext_slices.specs.ChainFault.{chain_fault, ExtsOffsetFits}
use Rattle.ip_base.specs.Ipv6Header.{ipv6_header_fault}
use Rattle.etherparse_ip.specs.PacketFault.{ipv6_fault_after, ipv6_lax_fault}
use Rattle.ip_ext_slices.specs.declared.err.ipv6_exts.header_slice_error.HeaderSliceError.{HeaderSliceError}

pub chain_fault_fits : (n : ℕ) (s : List ℕ) (j : ℕ) (e : HeaderSliceError) → option_map (λ f. f.0) (chain_fault n s) ≡ Some e → length s + j < 2 ^ 64 → ExtsOffsetFits e j
chain_fault_fits n s j e told small = grind (arith, common_steps)

pub lax_accepts_strict : (s : List ℕ) → None ≡ ipv6_header_fault s → None ≡ ipv6_fault_after s → ipv6_lax_fault s ≡ None
lax_accepts_strict s base after_base = search rules
