-- What an Ethernet frame with IPv4 leads to, by the definition of its headers and the law that there is one list of them.
use Rattle.std.proofs.Common.{◌≡◌, ℕ, ◌≤◌, List, [], ◌∷◌, length, Option, Some, None, IfSome, IsSomeAnd, refl, ◌∙◌, ap}
use Rattle.std.proofs.lemmas.Bool.{le-leb}
use Rattle.ip_frames.specs.Reading.{word_at}
use Rattle.ip_frames.specs.Headers.{AreHeaders, Ending, LeadsTo, header_in, contents}
use Rattle.ip_frames.specs.declared.protocol_number.ProtocolNumber.TheVariants.{EtherType}
use Rattle.ip_frames.specs.declared.frame_contents.FrameContents.{FrameContents}
use Rattle.ip_frames.specs.declared.frame_contents.FrameEnd.TheVariants as end
use Rattle.ip_frames.specs.declared.header.FrameHeader.{FrameHeader}
use Rattle.ip_frames.specs.declared.header.HeaderKind.TheVariants.{Ethernet}
use Rattle.ip_frames.specs.declared.header.Announced.{Announced}
use Rattle.ip_frames.specs.declared.header.Announced.TheVariants.{Header, Ip}
use Rattle.ip_frames.specs.declared.header.HeaderReading.TheVariants.{Whole}

abbrev ethernet_with_ipv4 : FrameHeader
ethernet_with_ipv4 = record { kind = Ethernet; len = 14; number = Some (EtherType 0x0800); vlan = None; announced = Ip }

abbrev at_ip : Ending
at_ip = record { end = end.Ip; number = None }

reads : (b : List ℕ) → 14 ≤ length b → word_at b 12 ≡ 0x0800 → header_in Ethernet b ≡ Whole ethernet_with_ipv4
unfolding header_in
reads b long is = rw (le-leb 14 (length b) long, is) refl

abbrev pub OneList : Type 0
OneList = (first : Announced) (b : List ℕ) (hs gs : List FrameHeader) (e f : Ending) → AreHeaders first b hs e → AreHeaders first b gs f → (hs ≡ gs) × (e ≡ f)

ipv4_found : OneList → (b : List ℕ) (x : FrameContents) → 14 ≤ length b → word_at b 12 ≡ 0x0800 → LeadsTo (Header Ethernet) None b x → x ≡ contents None (ethernet_with_ipv4 ∷ []) at_ip
ipv4_found law b x long is found =
    let same = law (Header Ethernet) b found.headers (ethernet_with_ipv4 ∷ []) found.ending at_ip found.follow (reads b long is, refl) in
    found.reached ∙ ap (λ hs. contents None hs found.ending) same.0 ∙ ap (λ e. contents None (ethernet_with_ipv4 ∷ []) e) same.1

pub ipv4_at_14 : OneList → (b : List ℕ) (r : Option FrameContents) → 14 ≤ length b → word_at b 12 ≡ 0x0800 → IsSomeAnd r (λ x. LeadsTo (Header Ethernet) None b x) → IfSome r (λ x. (x.offset ≡ 14) × (x.end ≡ end.Ip) × (x.vlans.count ≡ 0))
ipv4_at_14 law b None long is found = tt
ipv4_at_14 law b (Some x) long is found =
    let same = ipv4_found law b x long is found in
    (ap (λ y. y.offset) same, ap (λ y. y.end) same, ap (λ y. y.vlans.count) same)
