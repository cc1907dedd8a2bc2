use Rattle.ip_spec.proofs.Common.{◌≡◌, ℕ, ◌+◌, ◌%◌, List, Some, sym, ap, subst, ◌∙◌, arith, rules, option_map}
use Rattle.ip_base.specs.BaseHeaderFields.{ipv6_traffic_class}
use Rattle.ip_base.specs.Ipv6Header.{ipv6_source_octets, ipv6_destination_octets}
use Rattle.ip_base.specs.Ipv6HeaderSlice as ipv6_header
use Rattle.ip_dissect.specs.Dissection.{dissected}
use Rattle.ip_dissect.specs.Summary.{IsBaseOf}
use Rattle.ip_defragmenter.specs.FragmentOf.{ipv6_fragment_parts_by}
use Rattle.ip_defragmenter.specs.declared.key.FragmentKey.TheVariants as key
use Rattle.ip_defragmenter.specs.declared.finder.FoundHeader.{FoundHeader}
use Rattle.ip_defragmenter.specs.declared.finder.Finder.{Finder}
use Rattle.ip_defragmenter.proofs.FragmentLemmas.{fragment_lies, ipv6_headers, ipv6_bytes, same_parts}
use Rattle.ip_defragmenter.proofs.fragment.ipv6_fragment.Goals as goal

same_key : (a b c d : List ℕ) (i j : ℕ) → a ≡ b → c ≡ d → i ≡ j → key.Ipv6 a c i ≡ key.Ipv6 b d j
same_key a b c d i j e f h = cc

pub front-requires : goal.front-requires
front-requires c = (fragment_lies c.args.packet.now c.args.header.now c.args.finder.now c.requires.found c.requires.header).start

pub overflow_add-header : goal.overflow_add-header
overflow_add-header c = let w = (fragment_lies c.args.packet.now c.args.header.now c.args.finder.now c.requires.found c.requires.header).end in search (rules, w)

pub part-requires-clause-ordered : goal.part-requires-clause-ordered
part-requires-clause-ordered c = omega (arith, (fragment_lies c.args.packet.now c.args.header.now c.args.finder.now c.requires.found c.requires.header).before, c.end_of.ensures.is)

pub part-requires-clause-within : goal.part-requires-clause-within
part-requires-clause-within c = c.end_of.ensures.within

pub returns : goal.returns
returns c =
    let s = c.args.packet.now.bytes.now in
    let w = fragment_lies c.args.packet.now c.args.header.now c.args.finder.now c.requires.found c.requires.header in
    let base : ipv6_header.bytes c.args.base ≡ (dissected c.args.packet.now.bytes.now).base = (subst (IsBaseOf c.args.packet.now.bytes.now) c.requires.base c.args.packet.now.base_is).base in
    ap Some (same_parts _ (ipv6_fragment_parts_by (dissected s) w.header)
    (same_key _ _ _ _ _ _ (c.source.ensures ∙ ap ipv6_source_octets base) (c.destination.ensures ∙ ap ipv6_destination_octets base) (ap (λ (x : FoundHeader). x.identification) w.is))
    (c.front.ensures ∙ ipv6_headers s c.args.packet.now.base c.args.packet.now.base_is w.header w.found c.args.header.now.start (ap (λ (x : FoundHeader). x.start) w.is))
    (ap (λ (f : Finder). f.link) c.requires.found)
    (ap (λ (x : FoundHeader). x.next_header.0) w.is)
    (ap (λ (n : ℕ). n % 4) (c.traffic_class.ensures ∙ ap ipv6_traffic_class base))
    (ap (λ (x : FoundHeader). x.offset) w.is)
    (ap (λ (x : FoundHeader). x.more) w.is)
    (c.part.ensures ∙ ipv6_bytes s c.args.packet.now.base c.args.packet.now.base_is w.header w.found _ _ (ap (λ (x : FoundHeader). x.start + x.len) w.is) c.end_of.ensures.is))
    ∙ sym (ap (option_map (ipv6_fragment_parts_by (dissected s))) w.found)
