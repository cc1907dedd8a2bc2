use Rattle.ip_spec.proofs.Common.{rules, arith, refl, [], Consumes-nil, Consumes-trans, AuthAsks, auth_start, auth_icv}
use Rattle.ip_spec.proofs.RequestLemmas.{auth_joined, auth_joined_fields}
use Rattle.ip_base.proofs.ReadingLemmas.{refused_after, refused_short}
use Rattle.ip_ext_headers.specs.AuthReading.{auth_slice_fault, IsTooShort}
use Rattle.ip_ext_headers.proofs.AuthLemmas.{auth_short}
use Rattle.ip_ext_headers.proofs.auth_parts.AuthParts.take.Goals as goal

pub returns-in-Err-clause-refused : goal.returns-in-Err-clause-refused
returns-in-Err-clause-refused g c = refused_after AuthAsks _ _ _ _ _ [] _ refl (Consumes-nil _) (auth_start refl refl) c.in-Err.ensures.refuses

pub returns-in-Err-clause-fault : goal.returns-in-Err-clause-fault
returns-in-Err-clause-fault g c = refused_short AuthAsks (IsTooShort auth_slice_fault) auth_short _ _ _ (returns-in-Err-clause-refused g c)

pub returns-in-Err-read_exact-clause-refused : goal.returns-in-Err-read_exact-clause-refused
returns-in-Err-read_exact-clause-refused g c =
    refused_after AuthAsks _ _ _ _ _ c.read_exact.new.buf _ c.in-Ok.ensures.steady c.in-Ok.ensures.takes (auth_icv (omega arith) (omega arith) (search rules)) c.in-Err-read_exact.ensures.refuses

pub returns-in-Err-read_exact-clause-fault : goal.returns-in-Err-read_exact-clause-fault
returns-in-Err-read_exact-clause-fault g c = refused_short AuthAsks (IsTooShort auth_slice_fault) auth_short _ _ _ (returns-in-Err-read_exact-clause-refused g c)

pub returns-in-Ok-read_exact-clause-header : goal.returns-in-Ok-read_exact-clause-header
returns-in-Ok-read_exact-clause-header g c =
    let h = c.read_exact.new.buf in
    let p = c.read_exact-2.new.buf in
    search (rules, auth_joined h p, auth_joined_fields h p, Consumes-trans _ _ _ h p c.in-Ok.ensures.takes c.in-Ok-read_exact.ensures.takes)
