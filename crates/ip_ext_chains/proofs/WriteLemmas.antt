-- A struct of six places as it is parsed, and as it is written.
use Rattle.ip_spec.proofs.Common.{◌≡◌, ℕ, ◌+◌, ◌<◌, List, ◌++◌, length, ap, sym, arith, rules, Ok, Err, None, ◌↔◌, append_cancel_left, length-append, All-take, IsLongestOf, IsExtensionNumber, AreBytes, cleared_chain, ExtHeader, leads_to, bytes_of, FitsPlaces, IsEncodable, IsValueOf, IsSpelling, IsReachable, IsWalkAnswer, IsParsed}
use Rattle.ip_spec.proofs.FitsLemmas.{fits_places}
use Rattle.ip_spec.proofs.ParsedLemmas.{whole_parsed}
use Rattle.ip_spec.proofs.WalkLemmas.{WalkAnswer, one_reach}
use Rattle.ip_spec.proofs.SpellingLemmas.{one_spelling, spelling_is_reach, one_answer, leads_exactly, leads_spelled, spelled_leads, shown_bytes, cleared_spells, spelled_alike}
use Rattle.ip_spec.proofs.SumLemmas.{bytes_len}
use Rattle.ip_ext_chains.specs.Fitting.{fitting_chain, IsFittingAnswer}
use Rattle.ip_ext_chains.specs.Ipv6Extensions.{value_of, placed_fields, exts_len}
use Rattle.ip_ext_chains.specs.Write.{IsWritten, IsWalkFault}
use Rattle.ip_ext_chains.specs.declared.ipv6_exts.Ipv6Extensions.{Ipv6Extensions}
use Rattle.ip_base.specs.declared.ip_number_impl.IpNumber.{IpNumber}
use Rattle.ip_base.specs.declared.err.ipv6_exts.exts_walk_error.ExtsWalkError.{ExtsWalkError}
use Rattle.ip_ext_chains.proofs.FittingLemmas.{fitting_longest, other_answers}
use Rattle.ip_ext_chains.proofs.PlacedFieldsLemmas.{placed_fields-value_of, placed_fields_one, exts_sum}

-- an error doesn't lead on
pub no_fault : (e : ExtsWalkError) (m : IpNumber) → Err e ≡ Ok m → ⊥
no_fault e m k = search rules

module _ (v : Ipv6Extensions) (n : ℕ) where
  -- a chain has the value v if its headers have the fields of v
  value_is : (c : List ExtHeader) → IsValueOf c (placed_fields v) → v ≡ value_of c
  value_is c k = search (rules, placed_fields_one, placed_fields-value_of)

  -- bytes s parse as v with nothing left, and lead to m
  abbrev pub IsReadAsValue : ℕ → List ℕ → Type 0
  IsReadAsValue m s = IsParsed FitsPlaces (λ c. value_of c ≡ v) n m s

  pub answer_exactly : IsEncodable (placed_fields v) → (a : WalkAnswer) → IsWalkAnswer (placed_fields v) n a → (m : IpNumber) → (a ≡ Ok m) ↔ ((s : List ℕ) × IsReadAsValue m.0 s)
  answer_exactly e a k m =
      let both = leads_exactly (placed_fields v) n e a k m.0 in
      (λ w. search (rules, value_is, both.0 w), λ r. search (rules, placed_fields-value_of, both.1))

  -- the encoding of a value parsed from bytes, whatever was left after it
  read_spelled : (s : List ℕ) → AreBytes s → value_of (fitting_chain n s) ≡ v → IsSpelling (placed_fields v) n (cleared_chain (fitting_chain n s))
  read_spelled s bytes e =
      let l = fitting_longest n s in
      search (rules, cleared_spells (placed_fields v) n (fitting_chain n s), All-take (λ x. x < 256) (length (bytes_of (fitting_chain n s))) s bytes, placed_fields-value_of)

  module _ (old new : List ℕ) (w : IsWritten v n old new) where
    pub written_len : length new ≡ length old + exts_len v
    written_len =
        omega (arith, ap length w.appended, length-append old (bytes_of w.chain), bytes_len (placed_fields v) n w.chain w.spelling.reachable.chain w.spelling.reachable.fits w.spelling.value, exts_sum v)

    appended_is : (b : List ℕ) → new ≡ old ++ b → bytes_of w.chain ≡ b
    appended_is b e = search (rules, append_cancel_left old)

    -- the number to which it leads
    written_leads : (m : IpNumber) → IsWalkAnswer (placed_fields v) n (Ok m) → leads_to n w.chain ≡ m.0
    written_leads m a = cc (one_answer (placed_fields v) n _ _ w.answer a)

    -- the bytes written parse again
    pub written_again : (b r : List ℕ) (m : IpNumber) → new ≡ old ++ b → IsWalkAnswer (placed_fields v) n (Ok m) → (IsExtensionNumber m.0 → ⊥) → IsFittingAnswer n (b ++ r) v m.0 r None
    written_again b r m e a other =
        rw (← appended_is b e) (other_answers n w.chain m.0 w.spelling.reachable.chain w.spelling.reachable.fits (cc (written_leads m a)) r v (value_is w.chain w.spelling.value) other)

    -- with nothing left
    pub written_whole : IsEncodable (placed_fields v) → (b : List ℕ) (m : IpNumber) → new ≡ old ++ b → IsWalkAnswer (placed_fields v) n (Ok m) → IsReadAsValue m.0 b
    written_whole encodable b m e a = whole_parsed FitsPlaces fits_places n m.0 (λ c. value_of c ≡ v) b w.chain w.spelling.reachable.chain w.spelling.reachable.fits (sym (value_is w.chain w.spelling.value)) (written_leads m a) (appended_is b e)
        (rw (← appended_is b e) (shown_bytes (placed_fields v) n encodable w.chain w.spelling.reachable))

    -- they are the bytes parsed, with their reserved bits set to zero
    pub written_cleared : (s : List ℕ) → AreBytes s → value_of (fitting_chain n s) ≡ v → new ≡ old ++ bytes_of (cleared_chain (fitting_chain n s))
    written_cleared s bytes e = cc (one_spelling (placed_fields v) n w.chain _ w.spelling (read_spelled s bytes e))

    -- and they encode no other value
    pub written_alike : (x : Ipv6Extensions) (c : List ExtHeader) → IsSpelling (placed_fields x) n c → (new ≡ old ++ bytes_of c) ↔ (v ≡ x)
    written_alike x c k =
        let both = spelled_alike (placed_fields v) (placed_fields x) n w.chain c w.spelling k in search (rules, placed_fields_one v x, both.0, appended_is (bytes_of c), both.1)

  -- The walk leads on, and the headers reached were appended: these are all.
  pub all_written : (old new : List ℕ) (m : IpNumber) (c : List ExtHeader) → IsLongestOf (IsReachable (placed_fields v) n) c → IsWalkAnswer (placed_fields v) n (Ok m) → new ≡ old ++ bytes_of c → IsWritten v n old new
  all_written old new m c reach a appended =
      let it = leads_spelled (placed_fields v) n m.0 a in
      let s : IsSpelling (placed_fields v) n c = rw (← one_reach (placed_fields v) n it.0 c (spelling_is_reach (placed_fields v) n it.0 it.1) reach) it.1 in
      let answer = spelled_leads (placed_fields v) n c s in search rules

  pub fault_written : (old new : List ℕ) (e : ExtsWalkError) (c : List ExtHeader) → IsLongestOf (IsReachable (placed_fields v) n) c → IsWalkAnswer (placed_fields v) n (Err e) → new ≡ old ++ bytes_of c → IsWalkFault v n old new e
  fault_written old new e c reach a appended =
      let same = one_reach (placed_fields v) n c a.reach reach a.is_reach in
      record { answer = a; appended = cc; unread = λ s bytes k. cc (one_answer (placed_fields v) n _ _ a (spelled_leads (placed_fields v) n _ (read_spelled s bytes k))) }
