use Rattle.ip_spec.proofs.Common.{rules, arith, List, ℕ, ap, ◌∙◌, refl, [], RawAsks, raw_start, raw_rest}
use Rattle.ip_base.specs.declared.err.layer.Layer.TheVariants.{Ipv6ExtHeader}
use Rattle.ip_spec.proofs.RequestLemmas.{raw_joined, raw_joined_fields}
use Rattle.ip_base.proofs.ReadingLemmas.{consumed_none, consumed_more, refused_in_layer}
use Rattle.ip_ext_headers.proofs.ipv6_raw_ext_header.Ipv6RawExtHeader.read_limited.Goals as goal

pub returns-in-Err-clause-refused : goal.returns-in-Err-clause-refused
returns-in-Err-clause-refused g c =
    let t = consumed_none g.T.ExactRead.bytes_left Ipv6ExtHeader c.args.reader.now c.start_layer.new.self c.start_layer.ensures.reader c.start_layer.ensures.limits in
    refused_in_layer _ _ _ _ RawAsks _ _ _ [] _ _ t (ap g.T.ExactRead.is_steady c.start_layer.ensures.reader)
    (ap g.T.ExactRead.has_failed c.start_layer.ensures.reader) (raw_start refl refl) c.in-Err.ensures.refuses c.in-Err.ensures.stays

pub returns-in-Err-read_exact-clause-refused : goal.returns-in-Err-read_exact-clause-refused
returns-in-Err-read_exact-clause-refused g c =
    let h : List ℕ = c.read_exact.new.buf in
    let t = consumed_none g.T.ExactRead.bytes_left Ipv6ExtHeader c.args.reader.now c.start_layer.new.self c.start_layer.ensures.reader c.start_layer.ensures.limits in
    let u = consumed_more _ _ _ _ c.read_exact.new.self [] h _ t (omega arith) c.in-Ok.ensures.takes c.in-Ok.ensures.within c.in-Ok.ensures.limits in
    refused_in_layer _ _ _ _ RawAsks _ _ _ h _ _ u (c.in-Ok.ensures.steady ∙ ap g.T.ExactRead.is_steady c.start_layer.ensures.reader)
    (c.in-Ok.ensures.kept ∙ ap g.T.ExactRead.has_failed c.start_layer.ensures.reader) (raw_rest (omega arith) (search rules)) c.in-Err-read_exact.ensures.refuses c.in-Err-read_exact.ensures.stays

pub returns-in-Ok-read_exact-clause-header : goal.returns-in-Ok-read_exact-clause-header
returns-in-Ok-read_exact-clause-header g c =
    let h : List ℕ = c.read_exact.new.buf in
    let p : List ℕ = c.read_exact-2.new.buf in
    let t = consumed_none g.T.ExactRead.bytes_left Ipv6ExtHeader c.args.reader.now c.start_layer.new.self c.start_layer.ensures.reader c.start_layer.ensures.limits in
    let u = consumed_more _ _ _ _ c.read_exact.new.self [] h _ t (omega arith) c.in-Ok.ensures.takes c.in-Ok.ensures.within c.in-Ok.ensures.limits in
    let v = consumed_more _ _ _ _ c.read_exact-2.new.self h p _ u (search rules) c.in-Ok-read_exact.ensures.takes c.in-Ok-read_exact.ensures.within c.in-Ok-read_exact.ensures.limits in
    search (rules, raw_joined h p, raw_joined_fields h p, v)
