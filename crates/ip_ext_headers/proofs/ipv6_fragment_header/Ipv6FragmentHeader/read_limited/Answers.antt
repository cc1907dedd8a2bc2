use Rattle.ip_spec.proofs.Common.{rules, arith, ap, refl, [], err_from_is_err_and, FragmentAsks, fragment_whole}
use Rattle.ip_base.specs.declared.err.layer.Layer.TheVariants.{Ipv6FragHeader}
use Rattle.ip_base.proofs.ReadingLemmas.{consumed_none, consumed_more, refused_in_layer}
use Rattle.ip_ext_headers.proofs.ipv6_fragment_header.Ipv6FragmentHeader.read_limited.Goals as goal

pub returns-in_err-read_exact-clause-refused : goal.returns-in_err-read_exact-clause-refused
returns-in_err-read_exact-clause-refused g c =
    let p = err_from_is_err_and c.from_residual.result c.from_residual.ensures.1 in
    let t = consumed_none g.T.ExactRead.bytes_left Ipv6FragHeader c.args.reader.now c.start_layer.new.self c.start_layer.ensures.reader c.start_layer.ensures.limits in
    rw (p.1, p.2) (refused_in_layer _ _ _ _ FragmentAsks _ _ _ [] _ _ t (ap g.T.ExactRead.is_steady c.start_layer.ensures.reader)
    (ap g.T.ExactRead.has_failed c.start_layer.ensures.reader) (fragment_whole refl refl) c.in_err-read_exact.ensures.refuses c.in_err-read_exact.ensures.stays)

pub returns-clause-header : goal.returns-clause-header
returns-clause-header g c =
    let t = consumed_none g.T.ExactRead.bytes_left Ipv6FragHeader c.args.reader.now c.start_layer.new.self c.start_layer.ensures.reader c.start_layer.ensures.limits in
    let u = consumed_more _ _ _ _ c.read_exact.new.self [] c.read_exact.new.buf _ t (omega arith) c.in_ok-read_exact.ensures.takes c.in_ok-read_exact.ensures.within c.in_ok-read_exact.ensures.limits in
    search (rules, u)
