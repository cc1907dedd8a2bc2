-- Tests whose kind determines what they ask.
use Rattle.ip_spec.proofs.Common.{◌≡◌, ℕ, refl, ◌∙◌, false, ◌==◌, ◌&&◌, ◌||◌, Some, option_map_or, list_any}
use Rattle.ip_dissect.specs.Dissection.{DissectedParts}
use Rattle.std.specs.Prelude.{bit_and}
use Rattle.ip_filter.specs.Access.{accessed}
use Rattle.ip_filter.specs.declared.term.AccessedHeader.TheVariants as from
use Rattle.ip_filter.specs.declared.term.AccessedBytes.{AccessedBytes}
use Rattle.ip_filter.specs.declared.term.ComparedBits.{ComparedBits}
use Rattle.ip_filter.specs.declared.term.Comparison.{Comparison}
use Rattle.ip_filter.specs.declared.term.Quantity.{Quantity}
use Rattle.ip_filter.specs.declared.term.Ports.{Ports}
use Rattle.ip_filter.specs.declared.filter.Test.{Test}
use Rattle.ip_filter.specs.HeaderFields.{has_segments_left, has_spi}
use Rattle.ip_filter.specs.Transport.{source_port, destination_port, is_port_in, icmp_byte, icmp6_byte, esp_spi}
use Rattle.ip_filter.specs.Truth.{compares, is_in_layer, some_fragment, quantity_of}
use Rattle.ip_filter.specs.Flags.{any_flag}
use Rattle.ip_filter.specs.Tests.{meets, compared, comparison_in}

-- a test of an identification
pub by_identification : (x : Test) (n : ℕ) (p : DissectedParts) → x.kind ≡ 7 → x.number ≡ n → meets x p ≡ some_fragment (λ y. y.identification == n) p
by_identification x n p kind number = rw (kind, number) refl

-- a test of flags by an error in a layer
pub by_layer : (x : Test) (m l : ℕ) (p : DissectedParts) → x.kind ≡ 26 → x.number ≡ l → x.address_low ≡ m → meets x p ≡ (any_flag 64 m p && is_in_layer l p.version p.end)
by_layer x m l p kind number low = rw (kind, number, low) refl

-- a test of one port
pub by_source_port : (x : Test) (r : Ports) (p : DissectedParts) → x.kind ≡ 16 → x.number ≡ r.first → x.address_low ≡ r.last → meets x p ≡ option_map_or (is_port_in r) (source_port p) false
by_source_port x r p kind first last = rw (kind, first, last) refl

pub by_destination_port : (x : Test) (r : Ports) (p : DissectedParts) → x.kind ≡ 17 → x.number ≡ r.first → x.address_low ≡ r.last → meets x p ≡ option_map_or (is_port_in r) (destination_port p) false
by_destination_port x r p kind first last = rw (kind, first, last) refl

-- a test of either port
pub by_port : (x : Test) (r : Ports) (p : DissectedParts) → x.kind ≡ 18 → x.number ≡ r.first → x.address_low ≡ r.last → meets x p ≡ (option_map_or (is_port_in r) (source_port p) false || option_map_or (is_port_in r) (destination_port p) false)
by_port x r p kind first last = rw (kind, first, last) refl

-- a test of the type of ICMP, and of its code
pub by_icmp_type : (x : Test) (n : ℕ) (p : DissectedParts) → x.kind ≡ 20 → x.number ≡ n → meets x p ≡ option_map_or (λ y. y == n) (icmp_byte 0 p) false
by_icmp_type x n p kind number = rw (kind, number) refl

pub by_icmp_code : (x : Test) (n : ℕ) (p : DissectedParts) → x.kind ≡ 21 → x.number ≡ n → meets x p ≡ option_map_or (λ y. y == n) (icmp_byte 1 p) false
by_icmp_code x n p kind number = rw (kind, number) refl

pub by_icmp6_type : (x : Test) (n : ℕ) (p : DissectedParts) → x.kind ≡ 28 → x.number ≡ n → meets x p ≡ option_map_or (λ y. y == n) (icmp6_byte 0 p) false
by_icmp6_type x n p kind number = rw (kind, number) refl

pub by_icmp6_code : (x : Test) (n : ℕ) (p : DissectedParts) → x.kind ≡ 29 → x.number ≡ n → meets x p ≡ option_map_or (λ y. y == n) (icmp6_byte 1 p) false
by_icmp6_code x n p kind number = rw (kind, number) refl

-- a test of a security parameters index
pub by_spi : (x : Test) (n : ℕ) (p : DissectedParts) → x.kind ≡ 6 → x.number ≡ n → meets x p ≡ (list_any (has_spi n) p.headers || option_map_or (λ y. y == n) (esp_spi p) false)
by_spi x n p kind number = rw (kind, number) refl

-- a test of what follows the headers of a packet of one version
pub by_version : (x : Test) (v n : ℕ) (p : DissectedParts) → x.kind ≡ 27 → x.version ≡ v → x.number ≡ n → meets x p ≡ ((p.version == v) && (p.number == n))
by_version x v n p kind version number = rw (kind, version, number) refl

-- a test that compares the segments left of routing headers
pub by_segments_left : (x : Test) (c : Comparison) (n : ℕ) (p : DissectedParts) → x.kind ≡ 24 → comparison_in x.comparison ≡ Some c → x.number ≡ n
    → meets x p ≡ list_any (has_segments_left (λ y. compares c y n)) p.headers
by_segments_left x c n p kind comparison number = rw (kind, comparison, number) refl

-- a test of the kind k that compares a quantity
pub by_quantity : (k : ℕ) (q : Quantity) → ((x : Test) (p : DissectedParts) → x.kind ≡ k → meets x p ≡ compared x q p) → (x : Test) (c : Comparison) (n : ℕ) (p : DissectedParts)
    → x.kind ≡ k → comparison_in x.comparison ≡ Some c → x.number ≡ n → meets x p ≡ option_map_or (λ y. compares c y n) (quantity_of q p) false
by_quantity k q of_kind x c n p kind comparison number = of_kind x p kind ∙ rw (comparison, number) refl

-- a test of bytes from a base header on, and one of those from the header of a protocol on
pub by_bytes_of_version : (x : Test) (v : ℕ) (a : AccessedBytes) (c : ComparedBits) (p : DissectedParts) → x.kind ≡ 31 → x.version ≡ v → x.address_high ≡ a.offset → x.prefix_len ≡ a.size
    → x.address_low ≡ c.mask → comparison_in x.comparison ≡ Some c.comparison → x.number ≡ c.number → a.header ≡ from.Base v
    → meets x p ≡ option_map_or (λ n. compares c.comparison (bit_and n c.mask) c.number) (accessed a p) false
by_bytes_of_version x v a c p kind version offset size mask comparison number header = rw (kind, version, offset, size, mask, comparison, number, header) refl

pub by_bytes_of_protocol : (x : Test) (v : ℕ) (a : AccessedBytes) (c : ComparedBits) (p : DissectedParts) → x.kind ≡ 32 → x.version ≡ v → x.address_high ≡ a.offset → x.prefix_len ≡ a.size
    → x.address_low ≡ c.mask → comparison_in x.comparison ≡ Some c.comparison → x.number ≡ c.number → a.header ≡ from.Transport v
    → meets x p ≡ option_map_or (λ n. compares c.comparison (bit_and n c.mask) c.number) (accessed a p) false
by_bytes_of_protocol x v a c p kind version offset size mask comparison number header = rw (kind, version, offset, size, mask, comparison, number, header) refl
