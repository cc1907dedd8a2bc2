use Rattle.ip_spec.proofs.Common.{rules, arith, List, ℕ, ap, ◌∙◌, refl, [], AuthAsks, auth_start, auth_icv}
use Rattle.ip_base.specs.declared.err.layer.Layer.TheVariants.{IpAuthHeader as AuthLayer}
use Rattle.ip_spec.proofs.RequestLemmas.{auth_joined, auth_joined_fields}
use Rattle.ip_base.proofs.ReadingLemmas.{consumed_none, consumed_more, refused_in_layer}
use Rattle.ip_ext_headers.proofs.AuthLemmas.{limited_refused, limited_fault}
use Rattle.ip_ext_headers.proofs.auth_parts.AuthParts.take_limited.Goals as goal

pub returns-in-Err-clause-refused : goal.returns-in-Err-clause-refused
returns-in-Err-clause-refused g c =
    let t = consumed_none g.T.ExactRead.bytes_left AuthLayer c.args.reader.now c.start_layer.new.self c.start_layer.ensures.reader c.start_layer.ensures.limits in
    rw c.of_limited.ensures (limited_refused _ _ _ _ _ _ (refused_in_layer _ _ _ _ AuthAsks _ _ _ [] _ _ t (ap g.T.ExactRead.is_steady c.start_layer.ensures.reader)
    (ap g.T.ExactRead.has_failed c.start_layer.ensures.reader) (auth_start refl refl) c.in-Err.ensures.refuses c.in-Err.ensures.stays))

pub returns-in-Err-clause-fault : goal.returns-in-Err-clause-fault
returns-in-Err-clause-fault g c = limited_fault g.T.ExactRead.bytes_left g.T.ExactRead.is_steady g.T.ExactRead.has_failed _ c.read_exact.new.self c.of_limited.result (returns-in-Err-clause-refused g c)

pub returns-then-payload_len-eq0-clause-refused : goal.returns-then-payload_len-eq0-clause-refused
returns-then-payload_len-eq0-clause-refused g c =
    let t = consumed_none g.T.ExactRead.bytes_left AuthLayer c.args.reader.now c.start_layer.new.self c.start_layer.ensures.reader c.start_layer.ensures.limits in
    let u = consumed_more _ _ _ _ c.read_exact.new.self [] c.read_exact.new.buf _ t (omega arith) c.in-Ok.ensures.takes c.in-Ok.ensures.within c.in-Ok.ensures.limits in
    search (rules, u)

pub returns-in-Err-read_exact-clause-refused : goal.returns-in-Err-read_exact-clause-refused
returns-in-Err-read_exact-clause-refused g c =
    let h : List ℕ = c.read_exact.new.buf in
    let t = consumed_none g.T.ExactRead.bytes_left AuthLayer c.args.reader.now c.start_layer.new.self c.start_layer.ensures.reader c.start_layer.ensures.limits in
    let u = consumed_more _ _ _ _ c.read_exact.new.self [] h _ t (omega arith) c.in-Ok.ensures.takes c.in-Ok.ensures.within c.in-Ok.ensures.limits in
    rw c.of_limited-in-Err-read_exact.ensures (limited_refused _ _ _ _ _ _ (refused_in_layer _ _ _ _ AuthAsks _ _ _ h _ _ u (c.in-Ok.ensures.steady ∙ ap g.T.ExactRead.is_steady c.start_layer.ensures.reader)
    (c.in-Ok.ensures.kept ∙ ap g.T.ExactRead.has_failed c.start_layer.ensures.reader) (auth_icv (omega arith) (omega arith) (search rules)) c.in-Err-read_exact.ensures.refuses c.in-Err-read_exact.ensures.stays))

pub returns-in-Err-read_exact-clause-fault : goal.returns-in-Err-read_exact-clause-fault
returns-in-Err-read_exact-clause-fault g c =
    limited_fault g.T.ExactRead.bytes_left g.T.ExactRead.is_steady g.T.ExactRead.has_failed _ c.read_exact-2.new.self c.of_limited-in-Err-read_exact.result (returns-in-Err-read_exact-clause-refused g c)

pub returns-in-Ok-read_exact-clause-header : goal.returns-in-Ok-read_exact-clause-header
returns-in-Ok-read_exact-clause-header g c =
    let h : List ℕ = c.read_exact.new.buf in
    let p : List ℕ = c.read_exact-2.new.buf in
    let t = consumed_none g.T.ExactRead.bytes_left AuthLayer c.args.reader.now c.start_layer.new.self c.start_layer.ensures.reader c.start_layer.ensures.limits in
    let u = consumed_more _ _ _ _ c.read_exact.new.self [] h _ t (omega arith) c.in-Ok.ensures.takes c.in-Ok.ensures.within c.in-Ok.ensures.limits in
    let v = consumed_more _ _ _ _ c.read_exact-2.new.self h p _ u (search rules) c.in-Ok-read_exact.ensures.takes c.in-Ok-read_exact.ensures.within c.in-Ok-read_exact.ensures.limits in
    search (rules, auth_joined h p, auth_joined_fields h p, v)
