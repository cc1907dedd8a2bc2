-- IP directly after an Ethernet header.
use Rattle.std.proofs.Common.{◌≡◌, ℕ, ◌≤◌, List, [], ◌∷◌, length, Some, None, refl, inl, inr}
use Rattle.std.specs.Prelude.{◌⊎◌}
use Rattle.std.proofs.lemmas.Bool.{le-leb}
use Rattle.ip_frames.specs.Reading.{word_at}
use Rattle.ip_frames.specs.Headers.{LeadsTo, header_in, vlan_tags}
use Rattle.ip_frames.specs.declared.protocol_number.ProtocolNumber.TheVariants.{EtherType}
use Rattle.ip_frames.specs.declared.frame_contents.FrameEnd.TheVariants as end
use Rattle.ip_frames.specs.declared.header.FrameHeader.{FrameHeader}
use Rattle.ip_frames.specs.declared.header.HeaderKind.TheVariants.{Ethernet}
use Rattle.ip_frames.specs.declared.header.Announced.TheVariants.{Header, Ip}
use Rattle.ip_frames.specs.declared.header.HeaderReading.TheVariants.{Whole}

abbrev ip_header : ℕ → FrameHeader
ip_header n = record { kind = Ethernet; len = 14; number = Some (EtherType n); vlan = None; announced = Ip }

reads_4 : (b : List ℕ) → 14 ≤ length b → word_at b 12 ≡ 0x0800 → header_in Ethernet b ≡ Whole (ip_header 0x0800)
unfolding header_in
reads_4 b long is = rw (le-leb 14 (length b) long, is) refl

reads_6 : (b : List ℕ) → 14 ≤ length b → word_at b 12 ≡ 0x86dd → header_in Ethernet b ≡ Whole (ip_header 0x86dd)
unfolding header_in
reads_6 b long is = rw (le-leb 14 (length b) long, is) refl

leads : (b : List ℕ) (n : ℕ) → header_in Ethernet b ≡ Whole (ip_header n)
    → LeadsTo (Header Ethernet) None b (record { offset = 14; end = end.Ip; number = Some (EtherType n); vlans = vlan_tags [] })
leads b n reads = record {
  headers = ip_header n ∷ [];
  ending = record { end = end.Ip; number = None };
  follow = (reads, refl);
  reached = refl;
}

pub plain : (b : List ℕ) (n : ℕ) → 14 ≤ length b → n ≡ word_at b 12 → (n ≡ 0x0800) ⊎ (n ≡ 0x86dd)
    → LeadsTo (Header Ethernet) None b (record { offset = 14; end = end.Ip; number = Some (EtherType n); vlans = vlan_tags [] })
plain b n long is (inl e) = rw e (leads b 0x0800 (reads_4 b long cc))
plain b n long is (inr e) = rw e (leads b 0x86dd (reads_6 b long cc))
