-- Equality of packets: equality of their parts.
use Rattle.std.specs.Prelude.{Bool, ◌&&◌, nat_eq}
use Rattle.std.specs.Ordering.{on}
use Rattle.std.specs.Option.{option_eq}
use Rattle.std.specs.Cmp.{IsEquivalence, nat_eq_equiv, bool_eq_equiv}
use Rattle.std.specs.Cmp.Lexicographic.{pointwise, lists_equiv, options_equiv}
use Rattle.std.proofs.lemmas.Cmp.{and_equiv, on_equiv}
use Rattle.ip_base.specs.Ipv4HeaderSlice as ipv4_header
use Rattle.ip_base.specs.Ipv6HeaderSlice as ipv6_header
use Rattle.ip_base.specs.contracts.len_source.LenSource.{the_type}
use Rattle.ip_base.specs.declared.ip_payload_slice.IpPayloadSlice.{IpPayloadSlice}
use Rattle.ip_ext_headers.specs.IpAuthHeaderSlice as auth
use Rattle.ip_ext_slices.specs.Ipv6ExtensionsSlice.{first_header_number, bytes, same_slice}
use Rattle.ip_ext_chains.specs.Ipv4ExtensionsSlice.{same_slices}
use Rattle.etherparse_ip.specs.IpSlice.{ipv4_of, ipv6_of}
use Rattle.etherparse_ip.specs.declared.ipv4_slice.Ipv4Slice.{Ipv4Slice}
use Rattle.etherparse_ip.specs.declared.ipv6_slice.Ipv6Slice.{Ipv6Slice}
use Rattle.etherparse_ip.specs.declared.ip_slice.IpSlice.{IpSlice}
use denote.Enum.Bare.{sameb}
use denote.Enum.Declared.{tag_of}
use mathlib.Core.Bool.{beq}

abbrev pub payload_equal : IpPayloadSlice → IpPayloadSlice → Bool
payload_equal a b =
    nat_eq a.ip_number.0 b.ip_number.0
    && (beq a.fragmented b.fragmented
    && (sameb the_type a.len_source b.len_source && pointwise nat_eq a.payload.now b.payload.now))

abbrev pub ipv4_packet_equal : Ipv4Slice → Ipv4Slice → Bool
ipv4_packet_equal a b =
    on ipv4_header.bytes (pointwise nat_eq) a.header b.header
    && (same_slices a.exts b.exts && payload_equal a.payload b.payload)

abbrev pub ipv6_packet_equal : Ipv6Slice → Ipv6Slice → Bool
ipv6_packet_equal a b =
    on ipv6_header.bytes (pointwise nat_eq) a.header b.header
    && (same_slice a.exts b.exts && payload_equal a.payload b.payload)

abbrev pub packet_equal : IpSlice → IpSlice → Bool
packet_equal a b =
    option_eq ipv4_packet_equal (ipv4_of a) (ipv4_of b) && option_eq ipv6_packet_equal (ipv6_of a) (ipv6_of b)

-- all are equivalence relations
pub payload_equivalence : IsEquivalence payload_equal
payload_equivalence =
    and_equiv (on_equiv (λ p. p.ip_number.0) nat_eq_equiv)
    (and_equiv (on_equiv (λ p. p.fragmented) bool_eq_equiv)
    (and_equiv (on_equiv (λ p. tag_of the_type p.len_source) nat_eq_equiv)
    (on_equiv (λ p. p.payload.now) (lists_equiv nat_eq_equiv))))

pub ipv4_packet_equivalence : IsEquivalence ipv4_packet_equal
ipv4_packet_equivalence =
    and_equiv (on_equiv (λ p. ipv4_header.bytes p.header) (lists_equiv nat_eq_equiv))
    (and_equiv (on_equiv (λ p. p.exts.auth) (options_equiv (on_equiv auth.bytes (lists_equiv nat_eq_equiv))))
    (on_equiv (λ p. p.payload) payload_equivalence))

pub ipv6_packet_equivalence : IsEquivalence ipv6_packet_equal
ipv6_packet_equivalence =
    and_equiv (on_equiv (λ p. ipv6_header.bytes p.header) (lists_equiv nat_eq_equiv))
    (and_equiv
    (and_equiv (on_equiv (λ p. first_header_number p.exts) (options_equiv (on_equiv (λ n. n.0) nat_eq_equiv)))
    (on_equiv (λ p. bytes p.exts) (lists_equiv nat_eq_equiv)))
    (on_equiv (λ p. p.payload) payload_equivalence))

pub packet_equivalence : IsEquivalence packet_equal
packet_equivalence =
    and_equiv (on_equiv ipv4_of (options_equiv ipv4_packet_equivalence))
    (on_equiv ipv6_of (options_equiv ipv6_packet_equivalence))
