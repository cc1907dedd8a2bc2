-- What terms ask of the frame of a packet.
use Rattle.std.specs.Prelude.{ℕ, List, [], ◌∷◌, Bool, false, ◌==◌, ◌&&◌, ◌||◌, ◌/◌, nat_lt, if◌then◌else◌, Option, Some, None, is_some, unwrap_or}
use Rattle.std.specs.Option.{option_map_or}
use Rattle.ip_filter.specs.Tests.{comparison_in, frame_meets}
use Rattle.ip_filter.specs.Truth.{compares}
use Rattle.ip_filter.specs.Program.{frame_holds}
use Rattle.ip_filter.specs.declared.frame.Frame.{Frame}
use Rattle.ip_filter.specs.declared.filter.Test.{Test}
use Rattle.ip_filter.specs.declared.term.Term.{Term}
use Rattle.ip_filter.specs.declared.term.Term.TheVariants as term

-- n is there, and is this number
abbrev pub is_number : ℕ → Option ℕ → Bool
is_number m n = option_map_or (λ k. k == m) n false

-- the frame has a VLAN tag (IEEE 802.1Q, section 9.3)
abbrev pub has_vlan : Frame → Bool
has_vlan f = is_some f.outer_vlan || is_some f.inner_vlan

-- one of its VLAN tags has the identifier n (IEEE 802.1Q, section 9.6)
abbrev pub has_vlan_of : ℕ → Frame → Bool
has_vlan_of n f = is_number n f.outer_vlan || is_number n f.inner_vlan

-- the EtherType of ARP (RFC 826)
abbrev pub ARP : ℕ
ARP = 2054

-- The version in the first four bits of a packet (RFC 791, section 3.1; RFC 8200, section 3), and 0 without one.
abbrev pub first_version : Option (List ℕ) → ℕ
first_version None = 0
first_version (Some []) = 0
first_version (Some (b ∷ s)) = b / 16

-- the frame announced one IP version, and its packet begins with v, which is the other one
abbrev pub is_mismatched : ℕ → Frame → Bool
is_mismatched v f = ((v == 4) && is_number 6 f.version) || ((v == 6) && is_number 4 f.version)

-- Whether a term that asks the frame holds of one whose packet begins with the version v. The other terms ask the packet.
abbrev pub holds_of_frame : Frame → ℕ → Term → Option Bool
holds_of_frame f v (term.WireLength c n) = Some (compares c f.wire_len n)
holds_of_frame f v term.Vlan = Some (has_vlan f)
holds_of_frame f v (term.VlanOf n) = Some (has_vlan_of n f)
holds_of_frame f v term.Arp = Some (is_number ARP f.ether_type)
holds_of_frame f v term.Mismatched = Some (is_mismatched v f)
holds_of_frame f v t = None

-- a term holds of a frame and the packet in it, if there is one
abbrev pub holds_in : Frame → Option (List ℕ) → Term → Bool
holds_in f packet t = unwrap_or (holds_of_frame f (first_version packet) t) (frame_holds packet t)

-- the test asks the frame
abbrev pub asks_frame : Test → Bool
asks_frame x = nat_lt 32 x.kind && nat_lt x.kind 38

-- a frame whose packet begins with the version v meets a test that asks the frame
abbrev pub meets_by_frame : Frame → ℕ → Test → Bool
meets_by_frame f v x =
    if x.kind == 33 then option_map_or (λ c. compares c f.wire_len x.number) (comparison_in x.comparison) false
    else if x.kind == 34 then has_vlan f
    else if x.kind == 35 then has_vlan_of x.number f
    else if x.kind == 36 then is_number x.number f.ether_type
    else if x.kind == 37 then is_mismatched v f
    else false

-- a frame and the packet in it, if there is one, meet a test
abbrev pub meets_in : Frame → Option (List ℕ) → Test → Bool
meets_in f packet x = if asks_frame x then meets_by_frame f (first_version packet) x else frame_meets packet x
