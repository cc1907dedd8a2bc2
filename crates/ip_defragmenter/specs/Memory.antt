-- What the memory of a packet holds.
use Rattle.std.specs.List.{All}
use Rattle.std.specs.Prelude.{◌≡◌, ℕ, ◌≤◌, Bool, true, false, map, ◌&&◌, ◌==◌, nat_lt, nat_le, max, List, [], ◌∷◌, length, take, drop, Option, Some, None, is_some, not, Result, Ok, Err, if◌then◌else◌}
use Rattle.std.specs.Option.{option_map, option_map_or, option_or}
use Rattle.ip_reassembly.specs.Fragment.{Fragment, fragment_at, end_of, is_unaligned}
use Rattle.ip_reassembly.specs.Refusal.{refusal, is_conflict}
use Rattle.ip_reassembly.specs.Payload.{payload_of}
use Rattle.ip_reassembly.specs.Received.{Received, received_none, with_fragment, payload_in}
use Rattle.ip_reassembly.specs.Reassembly.{AreZeros, HasArrived, IsZero, is_set, reach_of}
use Rattle.ip_reassembly.specs.declared.err.AddError.TheVariants.{Unaligned, TooLong, Abandoned}
use Rattle.ip_reassembly.specs.declared.progress.Progress.{Progress}
use Rattle.ip_reassembly.specs.declared.progress.Progress.TheVariants.{MoreWanted, Whole}
use Rattle.ip_defragmenter.specs.Ecn.{are_mixed}
use Rattle.ip_defragmenter.specs.Points.{HoldsPoints, no_points}
use Rattle.ip_defragmenter.specs.FragmentOf.{FragmentParts}
use Rattle.ip_defragmenter.specs.Whole.{are_headers, stated_by}
use Rattle.ip_defragmenter.specs.declared.err.StoreError.{StoreError}
use Rattle.ip_defragmenter.specs.declared.err.StoreError.TheVariants.{Payload, Headers, HeadersTooLong, MixedEcn}
use Rattle.ip_defragmenter.specs.declared.memory.PacketMemory.{PacketMemory}

-- what the whole packet takes from its first fragment: its headers, the offset in them of the field with the number of
-- what follows them, and the number of what the payload starts with
pub record FirstParts : Type 0 where
  pub headers : List ℕ
  pub link : ℕ
  pub number : ℕ

-- that of a fragment
abbrev pub first_of : FragmentParts → FirstParts
first_of f = record { headers = f.headers; link = f.link; number = f.number }

-- the fragment of the payload that a packet is
abbrev pub piece_of : FragmentParts → Fragment
piece_of f = fragment_at f.offset f.more f.bytes

-- what has been stored of a packet: what its payload has received, what it takes from its first fragment, and the ECN code
-- points of its fragments
pub record Stored : Type 0 where
  pub payload : Received
  pub first : Option FirstParts
  pub points : List ℕ

-- nothing, with room for so many bytes of payload
abbrev pub stored_none : ℕ → Stored
stored_none limit = record { payload = received_none limit true; first = None; points = [] }

-- why a fragment is refused, whatever else has arrived: it isn't aligned, the packet would be too long for its length field
-- (RFC 791, section 3.1; RFC 8200, section 4.5), or it is the first one and its headers can't be kept
unfoldable pub own_refusal : FragmentParts → Option StoreError
own_refusal f =
    if is_unaligned (piece_of f) then Some (Payload Unaligned)
    else if nat_lt 65535 (stated_by f.headers (end_of (piece_of f))) then Some (Payload TooLong)
    else if (f.offset == 0) && not (are_headers f.headers f.link) then Some Headers
    else if (f.offset == 0) && nat_lt 4096 (length f.headers) then Some HeadersTooLong
    else None

-- what is kept of the first fragment, after this one was stored
abbrev pub first_after : Option FirstParts → FragmentParts → Option FirstParts
first_after o f = if (f.offset == 0) && not (is_some o) then Some (first_of f) else o

-- The packet with this first fragment and n bytes of payload would be too long for its length field.
abbrev pub exceeds : Option FirstParts → ℕ → Bool
exceeds o n = option_map_or (λ (p : FirstParts). nat_lt 65535 (stated_by p.headers n)) o false

-- why a fragment is refused, by what has been stored: the packet was abandoned, the ECN code points contradict each other
-- (RFC 3168, section 5.3), the packet would be too long, or the payload refuses it
unfoldable pub refusal_after : Stored → FragmentParts → Option StoreError
refusal_after s f =
    if s.payload.abandoned then Some (Payload Abandoned)
    else if are_mixed (f.ecn ∷ s.points) then Some MixedEcn
    else if exceeds (first_after s.first f) (max (reach_of s.payload.fragments) (end_of (piece_of f))) then Some (Payload TooLong)
    else option_map Payload (refusal s.payload.limit s.payload.fragments (piece_of f))

abbrev pub stored_refusal : Stored → FragmentParts → Option StoreError
stored_refusal s f = option_or (own_refusal f) (refusal_after s f)

-- what has been stored when a fragment is accepted
abbrev pub stored_with : Stored → FragmentParts → Stored
stored_with s f = record {
  payload = record s.payload { fragments = with_fragment s.payload.fragments (piece_of f) };
  first = first_after s.first f;
  points = f.ecn ∷ s.points;
}

-- The error abandons the packet.
abbrev pub is_store_conflict : StoreError → Bool
is_store_conflict (Payload e) = is_conflict e
is_store_conflict Headers = false
is_store_conflict HeadersTooLong = false
is_store_conflict MixedEcn = true

-- what has been stored when it is refused
abbrev pub refused : Stored → StoreError → Stored
refused s e = if is_store_conflict e then record s { payload = record s.payload { abandoned = true } } else s

-- The packet is whole: its payload is, and its first fragment is there.
abbrev pub is_complete : Stored → Bool
is_complete s = is_some (payload_of s.payload.fragments) && is_some s.first

abbrev pub stored_progress : Stored → Progress
stored_progress s = if is_complete s then Whole else MoreWanted

-- what `add` returns for a fragment that is refused for this reason, if any
abbrev pub outcome_by : Stored → FragmentParts → Option StoreError → Result Progress StoreError
outcome_by s f None = Ok (stored_progress (stored_with s f))
outcome_by s f (Some e) = Err e

abbrev pub stored_outcome : Stored → FragmentParts → Result Progress StoreError
stored_outcome s f = outcome_by s f (stored_refusal s f)

-- what has been stored then
abbrev pub stored_by : Stored → FragmentParts → Option StoreError → Stored
stored_by s f None = stored_with s f
stored_by s f (Some e) = refused s e

abbrev pub stored_after : Stored → FragmentParts → Stored
stored_after s f = stored_by s f (stored_refusal s f)

-- what has been stored after these fragments, the newest first
abbrev pub stored_all : Stored → List FragmentParts → Stored
stored_all s [] = s
stored_all s (f ∷ fs) = stored_after (stored_all s fs) f

-- n bytes of headers, of which at most 64 have an array of their own
unfoldable pub kept_headers : ℕ → List ℕ → List ℕ → List ℕ
kept_headers n short long = if nat_le n 64 then take n short else take n long

-- what the memory has of the first fragment
abbrev pub first_in : PacketMemory → Option FirstParts
first_in m = if is_set m.first_here && nat_le m.head_len (length m.head) then Some (record { headers = kept_headers m.head_len m.short_head m.head; link = m.link; number = m.next_header }) else None

-- The headers of the first fragment are those of a packet.
abbrev pub AreHeaders : Option FirstParts → Type 0
AreHeaders None = Unit {0}
AreHeaders (Some p) = are_headers p.headers p.link ≡ true

-- The memory says that this has been stored.
pub record HoldsStored (m : PacketMemory) (s : Stored) : Type 0 where
  pub payload : HasArrived m.state m.payload s.payload
  pub abandons : s.payload.abandons ≡ true
  pub first : first_in m ≡ s.first
  pub headers : AreHeaders s.first
  pub points : HoldsPoints m.points s.points

-- All numbers of the memory are 0, as in memory whose bytes are 0.
pub record IsZeroMemory (m : PacketMemory) : Type 0 where
  pub state : IsZero m.state
  pub head_len : m.head_len ≡ 0
  pub link : m.link ≡ 0
  pub first_here : m.first_here ≡ 0
  pub next_header : m.next_header ≡ 0
  pub points : m.points ≡ no_points
  pub short_head : AreZeros 64 m.short_head
  pub payload : AreZeros 65536 m.payload
  pub head : AreZeros 4096 m.head
  pub unused : AreZeros 912 m.unused

-- the bytes that the memory has for the payload
abbrev pub payload_buffer : PacketMemory → List ℕ
payload_buffer m = m.payload

-- The memory's arrays of bytes are as they were.
pub record HasSameBytes (old new : PacketMemory) : Type 0 where
  pub payload : new.payload ≡ old.payload
  pub short_head : new.short_head ≡ old.short_head
  pub head : new.head ≡ old.head
  pub unused : new.unused ≡ old.unused

-- Its arrays for headers are as they were, but for n bytes at the start of the one that has room for them.
pub record HasSameHeads (n : ℕ) (old new : PacketMemory) : Type 0 where
  pub short_head : drop (if nat_le n 64 then n else 0) new.short_head ≡ drop (if nat_le n 64 then n else 0) old.short_head
  pub head : drop (if nat_le n 64 then 0 else n) new.head ≡ drop (if nat_le n 64 then 0 else n) old.head

-- how many bytes of headers are stored for a fragment
abbrev pub kept_len : FragmentParts → ℕ
kept_len f = if f.offset == 0 then length f.headers else 0

-- The memory was new, with room for so many bytes of payload, and then these fragments were added, the newest first.
abbrev pub WasStored : PacketMemory → ℕ → List FragmentParts → Type 0
WasStored m limit fs = HoldsStored m (stored_all (stored_none limit) fs)

-- The whole packet is there, and its length field can state its length.
pub record IsWritable (s : Stored) (f : FirstParts) (payload : List ℕ) : Type 0 where
  pub whole : payload_in s.payload ≡ Some payload
  pub first : s.first ≡ Some f
  pub headers : are_headers f.headers f.link ≡ true
  pub fits : nat_le (stated_by f.headers (length payload)) 65535 ≡ true

-- the pieces of the payload that fragments are
abbrev pub pieces_of : List FragmentParts → List Fragment
pieces_of fs = map piece_of fs

-- their ECN code points
abbrev pub points_of : List FragmentParts → List ℕ
points_of fs = map (λ (f : FragmentParts). f.ecn) fs

-- These fragments can be joined to a packet with n bytes of payload: none is refused by itself, their ECN code points don't
-- contradict each other, and with the headers of the first one the packet isn't too long for its length field.
pub record AreJoinable (n : ℕ) (fs : List FragmentParts) : Type 0 where
  pub sound : All (λ f. own_refusal f ≡ None) fs
  pub alike : are_mixed (points_of fs) ≡ false
  pub fit : All (λ f. f.offset ≡ 0 → stated_by f.headers n ≤ 65535) fs
