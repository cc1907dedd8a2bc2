use Rattle.ip_spec.proofs.Common.{◌∙◌, ap, sym, length, rules, option_map}
use Rattle.ip_base.specs.Ipv6HeaderSlice.{bytes}
use Rattle.ip_ext_slices.specs.ChainFault.{exts_in_packet}
use Rattle.etherparse_ip.proofs.PartsLemmas.{AtIpv6, ipv6_packet, ipv6_after_fault}
use Rattle.etherparse_ip.proofs.ipv6_slice.Ipv6Slice.parse.Goals as goal

pub returns-in-Ok-clause-packet : goal.returns-in-Ok-clause-packet
returns-in-Ok-clause-packet c =
    let at : AtIpv6 c.args.slice.now (bytes c.args.header) c.next_header.result.0 (length c.slice-header_len.result.now) c.payload_length-payload_length.result c.ipv6_front-len_source.result.1 c.ipv6_front-len_source.result.0.now c.split_at.result.1.now =
    search rules in
    ipv6_packet _ _ _ _ _ _ _ _ _ _ _ _ at (c.is_fragmenting_payload-fragmented.ensures) c.in-Ok.ensures.answer

pub returns-in-Ok-clause-fault : goal.returns-in-Ok-clause-fault
returns-in-Ok-clause-fault c =
    let at : AtIpv6 c.args.slice.now (bytes c.args.header) c.next_header.result.0 (length c.slice-header_len.result.now) c.payload_length-payload_length.result c.ipv6_front-len_source.result.1 c.ipv6_front-len_source.result.0.now c.split_at.result.1.now =
    search rules in
    ap (λ o. option_map (exts_in_packet c.ipv6_front-len_source.result.1 (length c.slice-header_len.result.now)) (option_map (λ f. f.0) o)) c.in-Ok.ensures.answer.fault
    ∙ sym (ipv6_after_fault _ _ _ _ _ _ _ _ at)
