-- Two fields, the second being the rest of the text; and one field, which is the whole text.
use Rattle.ip_spec.proofs.Common.{◌≡◌, ℕ, ◌<◌, List, ◌∷◌, ◌++◌, length, get_or, refl, arith, rules, common_steps, codes, join_with_byte, option_zip, result_ok, length-append, get_or_at, join_with_byte-slice_split, bytes_eq-Decides, Option, None, Result, Ok, Err}
use Rattle.hex.specs.Hex.{decode_of}
use Rattle.hex.proofs.HexLemmas.{decode_of-ok}
use Rattle.ipexts_tool.specs.LineFields.{spaced_fields, decimal_of, bytes_of_hex, number_and_bytes, bytes_alone}

-- digits with a space between them denote no bytes
space_refused : (text : List ℕ) (r : Result (List ℕ) _) → decode_of text ≡ r → (k : ℕ) → k < length text → get_or text k 0 ≡ 32 → result_ok r ≡ None
space_refused text (Err e) decoded k inside here = refl
space_refused text (Ok bytes) decoded k inside here = let digit = (decode_of-ok text bytes decoded).1 k 0 inside in cc

bytes_of_hex-space : (front back : List ℕ) → bytes_of_hex (front ++ 32 ∷ back) ≡ None
bytes_of_hex-space front back =
    let text : List ℕ = front ++ 32 ∷ back in
    let refused = space_refused text (decode_of text) refl (length front) (omega (arith, length-append front (32 ∷ back))) (get_or_at front 32 back 0 (length front) refl) in
    grind (arith, common_steps, refused, bytes_eq-Decides text (codes "-"))

pub option_zip-none : (o : Option ℕ) → option_zip {U = List ℕ} o None ≡ None
option_zip-none o = search rules

-- the second field is the whole rest, or there are too many fields
two_fields : (number : List ℕ) (parts : List (List ℕ)) → number_and_bytes (number ∷ parts) ≡ option_zip (decimal_of number) (bytes_of_hex (join_with_byte 32 parts))
two_fields number parts = search (rules, bytes_of_hex-space)

pub number_and_bytes-two : (number hex : List ℕ) → number_and_bytes (number ∷ spaced_fields hex) ≡ option_zip (decimal_of number) (bytes_of_hex hex)
number_and_bytes-two number hex = search (rules, two_fields, join_with_byte-slice_split)

-- one field is the whole text, or there are too many
one_field : (parts : List (List ℕ)) → bytes_alone parts ≡ bytes_of_hex (join_with_byte 32 parts)
one_field parts = search (rules, bytes_of_hex-space)

pub whole_field : (hex : List ℕ) → bytes_alone (spaced_fields hex) ≡ bytes_of_hex hex
whole_field hex = search (rules, one_field, join_with_byte-slice_split)
