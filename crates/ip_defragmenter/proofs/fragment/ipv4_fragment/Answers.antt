use Rattle.ip_spec.proofs.Common.{◌≡◌, ℕ, List, Some, None, refl, sym, ap, subst, ◌∙◌, arith, ◌++◌, bytes_of, cond-true}
use Rattle.ip_base.specs.Ipv4Header.{is_ipv4_fragmenting, protocol, ipv4_source_octets, ipv4_destination_octets, ipv4_fragment_offset, ipv4_more_fragments}
use Rattle.ip_base.specs.BaseHeaderFields.{ipv4_ecn, ipv4_identification}
use Rattle.ip_base.specs.declared.ip_number_impl.IpNumber.{IpNumber}
use Rattle.ip_defragmenter.specs.declared.key.FragmentKey.TheVariants as key
use Rattle.ip_base.specs.Ipv4HeaderSlice as ipv4_header
use Rattle.ip_dissect.specs.Dissection.{dissected}
use Rattle.ip_dissect.specs.Summary.{IsBaseOf}
use Rattle.ip_dissect.specs.declared.summary.Summary.{Summary}
use Rattle.ip_defragmenter.proofs.FragmentLemmas.{ipv4_bytes, same_parts}
use Rattle.ip_defragmenter.proofs.fragment.ipv4_fragment.Goals as goal

pub part-requires-clause-ordered : goal.part-requires-clause-ordered
part-requires-clause-ordered c = omega (arith, c.end_of.ensures.is, ap (λ (o : Summary). o.base_len) c.args.packet.now.summary_is)

pub part-requires-clause-within : goal.part-requires-clause-within
part-requires-clause-within c = c.end_of.ensures.within

same_number : (n : IpNumber) (m : ℕ) → n.0 ≡ m → n ≡ record { 0 = m }
same_number n m e = rw (← e) refl

same_key : (a b c d : List ℕ) (p q : IpNumber) (i j : ℕ) → a ≡ b → c ≡ d → p ≡ q → i ≡ j → key.Ipv4 a c p i ≡ key.Ipv4 b d q j
same_key a b c d p q i j e f g h = cc

pub returns : goal.returns
returns c =
    let s = c.args.packet.now.bytes.now in
    let base : ipv4_header.bytes c.args.base ≡ (dissected c.args.packet.now.bytes.now).base = (subst (IsBaseOf c.args.packet.now.bytes.now) c.requires.base c.args.packet.now.base_is).base in
    let bytes = c.part.ensures ∙ ipv4_bytes s c.args.packet.now.base c.args.packet.now.base_is c.args.packet.now.summary.base_len c.end_of.result (ap (λ (o : Summary). o.base_len) c.args.packet.now.summary_is) c.end_of.ensures.is in
    let of = λ (b : List ℕ). key.Ipv4 (ipv4_source_octets b) (ipv4_destination_octets b) (record { 0 = protocol b }) (ipv4_identification b) in
    ap Some (same_parts _ (record {
      key = of (dissected s).base;
      headers = (dissected s).base;
      link = 9;
      number = protocol (dissected s).base;
      ecn = ipv4_ecn (dissected s).base;
      offset = ipv4_fragment_offset (dissected s).base;
      more = ipv4_more_fragments (dissected s).base;
      bytes = bytes_of (dissected s).headers ++ (dissected s).payload;
    })
    (same_key _ _ _ _ _ _ _ _ c.source.ensures c.destination.ensures (same_number _ _ c.protocol.ensures) c.identification.ensures ∙ ap of base)
    (c.slice.ensures.bytes ∙ base)
    refl
    (c.protocol-2.ensures ∙ ap protocol base)
    (c.ecn.ensures ∙ ap ipv4_ecn base)
    (c.fragments_offset.ensures ∙ ap ipv4_fragment_offset base)
    (c.more_fragments.ensures ∙ ap ipv4_more_fragments base)
    bytes)
    ∙ sym (cond-true (is_ipv4_fragmenting (dissected s).base) _ None (ap is_ipv4_fragmenting (sym base) ∙ c.requires.fragments))
