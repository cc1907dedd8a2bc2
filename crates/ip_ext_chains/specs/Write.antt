-- The bytes written for a struct of six places.
use Rattle.std.specs.Prelude.{◌≡◌, ℕ, List, ◌++◌, Ok, Err}
use Rattle.ip_spec.specs.Encoding.{AreBytes}
use Rattle.ip_spec.specs.Chain.{ExtHeader, leads_to, bytes_of}
use Rattle.ip_spec.specs.Walk.{IsSpelling, IsWalkAnswer}
use Rattle.ip_ext_chains.specs.Fitting.{fitting_chain}
use Rattle.ip_ext_chains.specs.Ipv6Extensions.{value_of, placed_fields}
use Rattle.ip_ext_chains.specs.declared.ipv6_exts.Ipv6Extensions.{Ipv6Extensions}
use Rattle.ip_base.specs.declared.err.ipv6_exts.exts_walk_error.ExtsWalkError.{ExtsWalkError}

-- The walk from n over v leads on, and `new` is `old` followed by the bytes of the chain that encodes v. `answer`
-- follows from `spelling`, and saves callers that proof.
pub record IsWritten (v : Ipv6Extensions) (n : ℕ) (old new : List ℕ) : Type 0 where
  pub chain : List ExtHeader
  pub spelling : IsSpelling (placed_fields v) n chain
  pub answer : IsWalkAnswer (placed_fields v) n (Ok (record { 0 = leads_to n chain }))
  pub appended : new ≡ old ++ bytes_of chain

-- The walk from n over v has the error e: `new` is `old` followed by the bytes of the headers that v reaches, and v
-- is parsed from no bytes. `unread` follows from `answer`, and saves callers that proof.
pub record IsWalkFault (v : Ipv6Extensions) (n : ℕ) (old new : List ℕ) (e : ExtsWalkError) : Type 0 where
  pub answer : IsWalkAnswer (placed_fields v) n (Err e)
  pub appended : new ≡ old ++ bytes_of answer.reach
  pub unread : (s : List ℕ) → AreBytes s → value_of (fitting_chain n s) ≡ v → ⊥
