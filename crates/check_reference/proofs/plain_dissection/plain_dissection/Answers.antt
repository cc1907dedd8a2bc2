use Rattle.ip_spec.proofs.Common.{◌∙◌, sym}
use Rattle.ip_dissect.proofs.DissectedLemmas.{dissected-none}
use Rattle.check_reference.proofs.FieldLemmas.{dissected4}
use Rattle.check_reference.proofs.plain_dissection.plain_dissection.Goals as goal

pub returns-in-Some-clause-fields : goal.returns-in-Some-clause-fields
returns-in-Some-clause-fields c = rw (dissected-none c.args.bytes.now c.in-Some.end (sym c.plain_base_end.ensures ∙ c.in-Some.is)) c.without_base.ensures.fields

pub returns-then-bytes-eq4-clause-fields : goal.returns-then-bytes-eq4-clause-fields
returns-then-bytes-eq4-clause-fields c =
    let h = rw (c.split_at.ensures.front, c.from.ensures) at c.plain_ipv4.ensures.fields in
    rw (dissected4 c.args.bytes.now (sym c.plain_base_end.ensures ∙ c.in_default.is) c.if-bytes-eq4.true) h
