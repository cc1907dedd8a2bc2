-- What fragments say of a payload: a map from offsets to bytes, and an end.
use Rattle.std.specs.Prelude.{ℕ, zero, suc, ◌-◌, List, [], ◌∷◌, ◌++◌, Option, None, Some, slice_get, if◌then◌else◌}
use Rattle.std.specs.Option.{option_map, option_and_then}
use Rattle.ip_reassembly.specs.Fragment.{Fragment, end_of, is_in}

-- the byte of the payload at an offset, if a fragment has it
abbrev pub byte_at : List Fragment → ℕ → Option ℕ
byte_at [] i = None
byte_at (f ∷ fs) i = if is_in f i then slice_get f.bytes (i - f.offset) else byte_at fs i

-- where the payload ends, if a last fragment is there
abbrev pub end_in : List Fragment → Option ℕ
end_in [] = None
end_in (f ∷ fs) = if f.more then end_in fs else Some (end_of f)

-- the first n bytes of the payload, if each of them is there
abbrev pub first_bytes : List Fragment → ℕ → Option (List ℕ)
first_bytes fs zero = Some []
first_bytes fs (suc n) = option_and_then (λ bytes. option_map (λ byte. bytes ++ byte ∷ []) (byte_at fs n)) (first_bytes fs n)

-- the payload, if a last fragment and each byte before its end are there
unfoldable pub payload_of : List Fragment → Option (List ℕ)
payload_of fs = option_and_then (first_bytes fs) (end_in fs)
