-- What kind of fragment a packet is (RFC 791, section 3.2; RFC 8200, section 4.5; RFC 6946 for atomic fragments).
use Rattle.std.specs.Prelude.{ℕ, ◌*◌, List, Bool, true, false, Option, Some, None, not, ◌==◌, ◌&&◌, ◌||◌, if◌then◌else◌}
use Rattle.std.specs.List.{find}
use Rattle.std.specs.Option.{option_map, option_or}
use Rattle.ip_spec.specs.Numbers.{FRAGMENT}
use Rattle.ip_spec.specs.Fields.{fragment_fields, is_fragmenting}
use Rattle.ip_spec.specs.Chain.{ExtHeader}
use Rattle.ip_base.specs.BaseHeaderFields.{ipv4_identification}
use Rattle.ip_base.specs.Ipv4Header.{ipv4_more_fragments, ipv4_fragment_offset, is_ipv4_fragmenting}
use Rattle.ip_dissect.specs.declared.fragment.FragmentKind.{FragmentKind}
use Rattle.ip_dissect.specs.declared.fragment.FragmentKind.TheVariants.{Atomic, First, Middle, Last}
use Rattle.ip_dissect.specs.declared.fragment.Fragment.{Fragment}

-- by whether more fragments follow and the fragment offset: neither is an atomic fragment, which is a whole packet
abbrev pub kind_of : Bool → ℕ → FragmentKind
kind_of more offset =
    if offset == 0 then (if more then First else Atomic)
    else if more then Middle
    else Last

-- the fragment with this identification, this flag and this offset in units of 8 bytes
abbrev pub fragment_with : ℕ → Bool → ℕ → Fragment
fragment_with identification more offset = record {
  identification = identification;
  offset = 8 * offset;
  kind = kind_of more offset;
}

-- of a fragment header
abbrev pub fragment_of : ExtHeader → Fragment
fragment_of h =
    fragment_with (fragment_fields h.bytes).identification (fragment_fields h.bytes).more_fragments (fragment_fields h.bytes).fragment_offset

abbrev pub is_fragment_header : ExtHeader → Bool
is_fragment_header h = h.number == FRAGMENT

-- a fragment header that fragments the payload
abbrev pub fragments : ExtHeader → Bool
fragments h = (h.number == FRAGMENT) && is_fragmenting h.bytes

-- of an IPv6 chain: of its first fragment header that fragments the payload; if none does, of the first one
abbrev pub ipv6_fragment : List ExtHeader → Option Fragment
ipv6_fragment c = option_map fragment_of (option_or (find fragments c) (find is_fragment_header c))

-- of an IPv4 base header: none if the offset and the flag are 0
abbrev pub ipv4_fragment : List ℕ → Option Fragment
ipv4_fragment b =
    if is_ipv4_fragmenting b then Some (fragment_with (ipv4_identification b) (ipv4_more_fragments b) (ipv4_fragment_offset b))
    else None

-- of a header: none if it isn't a fragment header
abbrev pub fragment_in : ExtHeader → Option Fragment
fragment_in h = if is_fragment_header h then Some (fragment_of h) else None

abbrev pub is_atomic_kind : FragmentKind → Bool
is_atomic_kind Atomic = true
is_atomic_kind First = false
is_atomic_kind Middle = false
is_atomic_kind Last = false

-- it is a whole packet
abbrev pub is_atomic : Fragment → Bool
is_atomic x = is_atomic_kind x.kind

-- One more fragment header doesn't replace the fragment found before, if there is one: that one fragments the payload, or
-- the header doesn't.
abbrev pub is_kept : Option Fragment → Fragment → Bool
is_kept None x = false
is_kept (Some y) x = not (is_atomic y) || is_atomic x
