-- What a reassembly has received.
use Rattle.std.specs.Prelude.{ℕ, ◌&&◌, Bool, true, false, List, [], ◌∷◌, Option, None, Some, is_some, Result, Ok, Err, if◌then◌else◌}
use Rattle.std.specs.List.{list_any}
use Rattle.ip_reassembly.specs.Fragment.{Fragment, is_same}
use Rattle.ip_reassembly.specs.Payload.{payload_of}
use Rattle.ip_reassembly.specs.Refusal.{refusal, is_conflict}
use Rattle.ip_reassembly.specs.declared.err.AddError.{AddError}
use Rattle.ip_reassembly.specs.declared.err.AddError.TheVariants.{Abandoned}
use Rattle.ip_reassembly.specs.declared.progress.Progress.{Progress}
use Rattle.ip_reassembly.specs.declared.progress.Progress.TheVariants.{MoreWanted, Whole}

-- the largest length of the payload; whether a conflict abandons the packet; whether it was abandoned; the fragments
-- that were accepted, each once, the newest first
pub record Received : Type 0 where
  pub limit : ℕ
  pub abandons : Bool
  pub abandoned : Bool
  pub fragments : List Fragment

-- no fragments, of a packet that wasn't abandoned
abbrev pub received_none : ℕ → Bool → Received
received_none limit abandons = record { limit = limit; abandons = abandons; abandoned = false; fragments = [] }

-- the fragments with one more, unless it is among them
abbrev pub with_fragment : List Fragment → Fragment → List Fragment
with_fragment fs f = if list_any (is_same f) fs then fs else f ∷ fs

-- the packet was abandoned
abbrev pub given_up : Received → Received
given_up s = record s { abandoned = true }

-- the payload, if it is whole and the packet wasn't abandoned
abbrev pub payload_in : Received → Option (List ℕ)
payload_in s = if s.abandoned then None else payload_of s.fragments

-- whether the payload of these fragments is whole
abbrev pub progress_of : List Fragment → Progress
progress_of fs = if is_some (payload_of fs) then Whole else MoreWanted

-- what `add` returns for a fragment with this error, if any
abbrev pub outcome_by : List Fragment → Fragment → Option AddError → Result Progress AddError
outcome_by fs f None = Ok (progress_of (with_fragment fs f))
outcome_by fs f (Some e) = Err e

-- what `add` returns for a fragment
unfoldable pub outcome_of : Received → Fragment → Result Progress AddError
outcome_of s f = if s.abandoned then Err Abandoned else outcome_by s.fragments f (refusal s.limit s.fragments f)

-- what has been received after a fragment with this error, if any
abbrev pub received_by : Received → Fragment → Option AddError → Received
received_by s f None = record s { fragments = with_fragment s.fragments f }
received_by s f (Some e) = record s { abandoned = s.abandons && is_conflict e }

-- what has been received after a fragment
unfoldable pub received_after : Received → Fragment → Received
received_after s f = if s.abandoned then s else received_by s f (refusal s.limit s.fragments f)

-- what has been received after these fragments, the newest first
abbrev pub received_all : Received → List Fragment → Received
received_all s [] = s
received_all s (f ∷ fs) = received_after (received_all s fs) f
