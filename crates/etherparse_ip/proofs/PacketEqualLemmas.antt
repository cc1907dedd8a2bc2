-- Packets are equal if their parts are.
use Rattle.ip_spec.proofs.Common.{◌≡◌, ℕ, List, ap, ◌∙◌, rules, arith, ◌==◌, ◌↔◌, Option, IsTrue, Decides, pointwise, option_eq, and-true, Decides-and, common_steps, Bool, nat_eq}
use Rattle.ip_base.specs.declared.ip_number_impl.IpNumber.{IpNumber}
use Rattle.ip_base.specs.declared.ip_payload_slice.IpPayloadSlice.{IpPayloadSlice}
use Rattle.etherparse_ip.specs.Ipv4Slice.{ipv4_parts}
use Rattle.ip_ext_slices.proofs.SameLemmas.{same_headers-first, same_headers-bytes}
use Rattle.etherparse_ip.specs.Ipv6Slice.{ipv6_parts}
use Rattle.etherparse_ip.specs.IpSlice.{AreSame}
use Rattle.etherparse_ip.specs.PacketEqual.{payload_equal, ipv4_packet_equal, ipv6_packet_equal, packet_equal}
use Rattle.etherparse_ip.specs.declared.ipv4_slice.Ipv4Slice.{Ipv4Slice}
use Rattle.etherparse_ip.specs.declared.ipv6_slice.Ipv6Slice.{Ipv6Slice}
use Rattle.etherparse_ip.specs.declared.ip_slice.IpSlice.{IpSlice}
use Rattle.etherparse_ip.specs.declared.ip_slice.IpSlice.TheVariants.{Ipv4, Ipv6}

bytes_tell : (s t : List ℕ) → Decides (pointwise nat_eq s t) (s ≡ t)
bytes_tell s t = search rules

abbrev ArePayloadsSame : IpPayloadSlice → IpPayloadSlice → Type 0
ArePayloadsSame a b = (a.ip_number.0 ≡ b.ip_number.0) × ((a.fragmented ≡ b.fragmented) × ((a.len_source ≡ b.len_source) × (a.payload.now ≡ b.payload.now)))

payloads_tell : (a b : IpPayloadSlice) → Decides (payload_equal a b) (ArePayloadsSame a b)
payloads_tell a b = search rules

numbers_tell : (x y : Option IpNumber) → Decides (option_eq (λ m n. m.0 == n.0) x y) (x ≡ y)
numbers_tell x y = search rules

ipv6_tells : (a b : Ipv6Slice) → Decides (ipv6_packet_equal a b) (ipv6_parts a ≡ ipv6_parts b)
ipv6_tells a b =
    let same = Decides-and _ _ (bytes_tell _ _) (Decides-and _ _ (Decides-and _ _ (numbers_tell _ _) (bytes_tell _ _)) (payloads_tell a.payload b.payload)) in (
      λ k. let told = same.0 k in search (rules, told.0, told.1.0.0, told.1.0.1, told.1.1.0, told.1.1.1.0, told.1.1.1.1.0, told.1.1.1.1.1),
      λ e. let headers = ap (λ p. p.headers) e in same.1 (
        ap (λ p. p.base) e,
        (
          (same_headers-first a.exts b.exts headers, same_headers-bytes a.exts b.exts headers),
          (ap (λ p. p.number) e, (ap (λ p. p.fragmented) e, (ap (λ p. p.source) e, ap (λ p. p.payload) e))),
        ),
      ),
    )

-- the result of a comparison of packets
pub ipv4_same : (a b : Ipv4Slice) (r : Bool) → r ≡ ipv4_packet_equal a b → IsTrue r ↔ (ipv4_parts a ≡ ipv4_parts b)
ipv4_same a b r k = grind (arith, common_steps, bytes_tell, payloads_tell)

pub ipv6_same : (a b : Ipv6Slice) (r : Bool) → r ≡ ipv6_packet_equal a b → IsTrue r ↔ (ipv6_parts a ≡ ipv6_parts b)
ipv6_same a b r k = rw k (ipv6_tells a b)

pub same_packets : (x y : IpSlice) (r : Bool) → r ≡ packet_equal x y → IsTrue r ↔ AreSame x y
same_packets (Ipv4 a) (Ipv4 b) r k = ipv4_same a b r (k ∙ and-true _)
same_packets (Ipv6 a) (Ipv6 b) r k = ipv6_same a b r k
same_packets _ _ r k = search rules
