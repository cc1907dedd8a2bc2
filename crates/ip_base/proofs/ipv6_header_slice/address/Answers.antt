use Rattle.std.proofs.Common.{◌≡◌, ◌∙◌, ap, length, ◌%◌, arith}
use Rattle.std.specs.Net.Addr.{octets_of, segments_of}
use Rattle.ip_base.proofs.AddressLemmas.{octets_of-segments_of}
use Rattle.ip_base.proofs.ipv6_header_slice.address.Goals as goal

pub returns : goal.returns
returns c =
    let even : length c.args.octets.now % 2 ≡ 0 = omega arith in
    ap octets_of c.from_octets.ensures
    ∙ ap (λ b. octets_of (segments_of b)) c.array.ensures
    ∙ octets_of-segments_of c.args.octets.now even (λ k. omega (arith, c.type_inv.octets k))
