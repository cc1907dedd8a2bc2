use Rattle.ip_spec.proofs.Common.{rules, arith, refl, [], Consumes-nil, Consumes-trans, RawAsks, raw_start, raw_rest}
use Rattle.ip_spec.proofs.RequestLemmas.{raw_joined, raw_joined_fields}
use Rattle.ip_base.proofs.ReadingLemmas.{refused_after}
use Rattle.ip_ext_headers.proofs.ipv6_raw_ext_header.Ipv6RawExtHeader.read.Goals as goal

pub returns-in-Err-clause-refused : goal.returns-in-Err-clause-refused
returns-in-Err-clause-refused g c = refused_after RawAsks _ _ _ _ _ [] _ refl (Consumes-nil _) (raw_start refl refl) c.in-Err.ensures.refuses

pub returns-in-Err-read_exact-clause-refused : goal.returns-in-Err-read_exact-clause-refused
returns-in-Err-read_exact-clause-refused g c =
    refused_after RawAsks _ _ _ _ _ c.read_exact.new.buf _ c.in-Ok.ensures.steady c.in-Ok.ensures.takes (raw_rest (omega arith) (search rules)) c.in-Err-read_exact.ensures.refuses

pub returns-in-Ok-read_exact-clause-header : goal.returns-in-Ok-read_exact-clause-header
returns-in-Ok-read_exact-clause-header g c =
    let h = c.read_exact.new.buf in
    let p = c.read_exact-2.new.buf in
    search (rules, raw_joined h p, raw_joined_fields h p, Consumes-trans _ _ _ h p c.in-Ok.ensures.takes c.in-Ok-read_exact.ensures.takes)
