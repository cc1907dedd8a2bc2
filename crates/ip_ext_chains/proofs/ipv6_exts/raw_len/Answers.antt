use Rattle.ip_spec.proofs.Common.{ap, sym, ◌∙◌, subst, option_map, same_Some, ExtHeader, HeaderFields, raw_header, IsEncoded}
use Rattle.ip_ext_chains.proofs.ipv6_exts.raw_len.Goals as goal

pub returns-in-Some-clause-encodable : goal.returns-in-Some-clause-encodable
returns-in-Some-clause-encodable c = λ n k x e.
    let E : HeaderFields → Type 0 = λ y. (h : ExtHeader) × IsEncoded n y h in
    subst E (same_Some _ x (sym (ap (option_map raw_header) c.in-Some.is) ∙ e)) (c.header_len.ensures.encodable n k)
