-- Flags: what is known of a packet, each at its own place in a number of 64 bits.
use Rattle.std.specs.Prelude.{◌≡◌, ℕ, List, zero, suc, ◌<◌, ◌+◌, Bool, false, not, ◌==◌, ◌&&◌, ◌||◌, if◌then◌else◌, Option, None}
use Rattle.std.specs.Int.{bit_at}
use Rattle.std.specs.List.{list_any}
use Rattle.std.specs.Option.{option_map_or}
use Rattle.ip_spec.specs.Chain.{ExtHeader}
use Rattle.ip_dissect.specs.Dissection.{DissectedParts}
use Rattle.ip_filter.specs.Truth.{is_version, is_first_kind, is_later_kind, says_fragment, some_fragment, is_truncated, fault_in, kind_index}
use Rattle.ip_dissect.specs.declared.summary.Summary.{Summary}
use Rattle.ip_dissect.specs.declared.fragment.Fragment.{Fragment}
use Rattle.ip_filter.specs.declared.flags.Flags.{Flags}

-- What the flag n says, but for errors. That of a header's number says whether there is one; no header has another number
-- below 17.
abbrev pub known_flag : ℕ → DissectedParts → Bool
known_flag n p =
    list_any (λ h. h.number == n) p.headers
    || ((n == 4) && is_version 4 p)
    || ((n == 6) && is_version 6 p)
    || ((n == 8) && some_fragment (λ x. is_first_kind x.kind) p)
    || ((n == 9) && some_fragment (λ x. is_later_kind x.kind) p)
    || ((n == 10) && not (p.missing == 0))

-- what the flag n says
abbrev pub flag_says : ℕ → DissectedParts → Bool
flag_says n p = known_flag n p || ((n == 11) && is_truncated p.end) || option_map_or (λ k. n == 12 + kind_index k) (fault_in p.end) false

-- one of the k lowest flags that the mask selects is set
unfoldable pub any_flag : ℕ → ℕ → DissectedParts → Bool
any_flag zero mask p = false
any_flag (suc k) mask p = any_flag k mask p || ((bit_at mask k == 1) && flag_says k p)

-- which fragment an IPv4 packet with this summary is by its base header
abbrev pub base_fragment : Summary → Option Fragment
base_fragment o = if o.version == 4 then o.fragment else None

-- What the flag n says of headers: whether one has the number n, or is the fragment header of a first or later fragment.
abbrev pub header_flag : ℕ → List ExtHeader → Bool
header_flag n c =
    list_any (λ h. h.number == n) c
    || ((n == 8) && list_any (says_fragment (λ x. is_first_kind x.kind)) c)
    || ((n == 9) && list_any (says_fragment (λ x. is_later_kind x.kind)) c)

-- The set x has the flags of these headers.
abbrev pub AreOfHeaders : List ExtHeader → Flags → Type 0
AreOfHeaders c x = (n : ℕ) → n < 64 → (bit_at x.bits n == 1) ≡ header_flag n c

-- The set x has the flags of a packet with the parts p that are known without looking at an error.
abbrev pub AreKnown : DissectedParts → Flags → Type 0
AreKnown p x = (n : ℕ) → n < 64 → (bit_at x.bits n == 1) ≡ known_flag n p

-- Of the flags that the mask m selects, the set x has those of a packet with the parts p.
abbrev pub AreFlags : ℕ → DissectedParts → Flags → Type 0
AreFlags m p x = (n : ℕ) → n < 64 → bit_at m n ≡ 1 → (bit_at x.bits n == 1) ≡ flag_says n p
