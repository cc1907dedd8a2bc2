-- A write of a value that some chain encodes, or that was parsed from bytes, fails only if memory runs out.
use Rattle.ip_spec.proofs.Common.{rules, ⊤, ◌≡◌, ℕ, List, refl, true, Option, Err, is_some, Bor, option_map, AllocError, ExtHeader, AreBytes, IsSpelling}
use Rattle.std.specs.declared.result.Result.{Result}
use Rattle.ip_spec.proofs.WalkLemmas.{is_some-map}
use Rattle.ip_spec.proofs.SpellingLemmas.{one_answer, spelled_leads}
use Rattle.ip_ext_chains.specs.Fitting.{fitting_chain}
use Rattle.ip_ext_chains.specs.Ipv6Extensions.{value_of, placed_fields}
use Rattle.ip_ext_chains.specs.Write.{IsWalkFault}
use Rattle.ip_ext_chains.specs.WriteError.{io_of}
use Rattle.ip_ext_chains.specs.declared.ipv6_exts.Ipv6Extensions.{Ipv6Extensions}
use Rattle.ip_base.specs.declared.err.ipv6_exts.exts_walk_error.ExtsWalkError.{ExtsWalkError}
use Rattle.ip_ext_chains.specs.declared.err.ipv6_exts.header_write_error.HeaderWriteError.{HeaderWriteError}
use Rattle.ip_ext_chains.specs.declared.err.ipv6_exts.header_write_error.HeaderWriteError.TheVariants.{Io, Content}
pub use Rattle.ip_ext_chains.proofs.WriteLemmas.{no_fault}

-- A write of v from n ended with e; `o` is its allocation error, if any.
module _ (v : Ipv6Extensions) (n : ℕ) (old new : List ℕ) (o : Option (Bor AllocError)) where
  -- the contract of `write` for an error of the walk
  abbrev IsContent : Result ⊤ HeaderWriteError → Type 0
  IsContent r = (fault : ExtsWalkError) → r ≡ Err (Content fault) → IsWalkFault v n old new fault

  ended : (e : HeaderWriteError) → ((fault : ExtsWalkError) → IsWalkFault v n old new fault → ⊥) → IsContent (Err e) → option_map (λ x. x.now) o ≡ io_of e → is_some o ≡ true
  ended (Io x) none k as_place = search (rules, is_some-map (λ (x : Bor AllocError). x.now) o)
  ended (Content x) none k as_place = absurd (none x (k x refl))

  pub spelled_refused : (e : HeaderWriteError) (d : List ExtHeader) → IsSpelling (placed_fields v) n d → IsContent (Err e) → option_map (λ x. x.now) o ≡ io_of e → is_some o ≡ true
  spelled_refused e d s = let leads = spelled_leads (placed_fields v) n d s in ended e (λ fault k. cc (one_answer (placed_fields v) n _ _ k.answer leads))

  pub read_refused : (e : HeaderWriteError) (s : List ℕ) → AreBytes s → value_of (fitting_chain n s) ≡ v → IsContent (Err e) → option_map (λ x. x.now) o ≡ io_of e → is_some o ≡ true
  read_refused e s bytes read = ended e (λ fault k. k.unread s bytes read)
