use Rattle.ip_spec.proofs.Common.{◌∙◌, length, arith, rules}
use Rattle.ip_base.specs.Ipv4HeaderSlice.{bytes}
use Rattle.etherparse_ip.proofs.PartsLemmas.{AtIpv4, ipv4_packet}
use Rattle.etherparse_ip.proofs.ipv4_slice.Ipv4Slice.after_base.Goals as goal

pub returns-in-Ok-clause-packet : goal.returns-in-Ok-clause-packet
returns-in-Ok-clause-packet c =
    let at : AtIpv4 c.args.slice.now (bytes c.args.header) c.protocol.result.0 (length c.slice-header_len.result.now) c.from-total_len.result c.split_at.result.1.now =
    search (rules, arith, c.from-total_len.ensures ∙ c.total_len.ensures) in
    ipv4_packet _ _ _ _ _ _ _ _ _ _ at c.is_fragmenting_payload-fragmented.ensures c.in-Ok.ensures.answer
