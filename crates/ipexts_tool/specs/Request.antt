-- The request in a line, and its answer. A form has a constructor with its equations in `request_in` and `answer_to`,
-- and an arm in `request_of_form`.
use Rattle.std.specs.Prelude.{ℕ, List, [], ◌∷◌, length, nat_le, Option, None, if◌then◌else◌, codes}
use Rattle.std.specs.Option.{option_map}
use Rattle.std.specs.Str.{bytes_eq}
use Rattle.ipexts_tool.specs.Lines.{max_line_len}
use Rattle.ipexts_tool.specs.Exts6.{exts6_answer}
use Rattle.ipexts_tool.specs.Exts4.{exts4_answer}
use Rattle.ipexts_tool.specs.Rewrite6.{rewrite6_answer}
use Rattle.ipexts_tool.specs.RewriteAll6.{rewriteall6_answer}
use Rattle.ipexts_tool.specs.PacketAnswer.{packet_answer}
use Rattle.ipexts_tool.specs.DissectAnswer.{dissect_answer}
use Rattle.ipexts_tool.specs.LineFields.{spaced_fields, number_and_bytes, bytes_alone}
use Rattle.ipexts_tool.specs.declared.request.Request.{Request as ParsedRequest}
use Rattle.ipexts_tool.specs.declared.request.Request.TheVariants as parsed

-- a form with its arguments
pub data Request : Type 0 where
  Exts6 : (arguments : ℕ × List ℕ) → Request
  Exts4 : (arguments : ℕ × List ℕ) → Request
  Rewrite6 : (arguments : ℕ × List ℕ) → Request
  RewriteAll6 : (arguments : ℕ × List ℕ) → Request
  Packet : (bytes : List ℕ) → Request
  Dissect : (bytes : List ℕ) → Request

-- the request that the program parsed
abbrev pub request_in : ParsedRequest → Request
request_in (parsed.Exts6 number bytes) = Exts6 (number.0, bytes.now)
request_in (parsed.Exts4 number bytes) = Exts4 (number.0, bytes.now)
request_in (parsed.Rewrite6 number bytes) = Rewrite6 (number.0, bytes.now)
request_in (parsed.RewriteAll6 number bytes) = RewriteAll6 (number.0, bytes.now)
request_in (parsed.Packet bytes) = Packet bytes.now
request_in (parsed.Dissect bytes) = Dissect bytes.now

-- the answer to a request
abbrev pub answer_to : Request → List ℕ
answer_to (Exts6 a) = exts6_answer a.0 a.1
answer_to (Exts4 a) = exts4_answer a.0 a.1
answer_to (Rewrite6 a) = rewrite6_answer a.0 a.1
answer_to (RewriteAll6 a) = rewriteall6_answer a.0 a.1
answer_to (Packet bytes) = packet_answer bytes
answer_to (Dissect bytes) = dissect_answer bytes

-- the request of a form with these arguments
abbrev pub request_of_form : List ℕ → List (List ℕ) → Option Request
request_of_form form arguments =
    if bytes_eq form (codes "exts6") then option_map Exts6 (number_and_bytes arguments)
    else if bytes_eq form (codes "exts4") then option_map Exts4 (number_and_bytes arguments)
    else if bytes_eq form (codes "rewrite6") then option_map Rewrite6 (number_and_bytes arguments)
    else if bytes_eq form (codes "rewriteall6") then option_map RewriteAll6 (number_and_bytes arguments)
    else if bytes_eq form (codes "packet") then option_map Packet (bytes_alone arguments)
    else if bytes_eq form (codes "dissect") then option_map Dissect (bytes_alone arguments)
    else None

-- the request of these fields, the first of which is the form
abbrev pub request_of_fields : List (List ℕ) → Option Request
request_of_fields [] = None
request_of_fields (form ∷ arguments) = request_of_form form arguments

-- a line's request: none if the line is too long or has no form
abbrev pub request_of : List ℕ → Option Request
request_of line =
    if nat_le (length line) max_line_len then request_of_fields (spaced_fields line) else None
