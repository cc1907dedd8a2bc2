use Rattle.ip_spec.proofs.Common.{◌≡◌, ◌<◌, take, AllDigits, digits_value}
use Rattle.ipexts_tool.proofs.line_fields.parse_number.Given as goal

-- the bytes so far are digits, and the number is their value, which fits a byte
abbrev pub invariant-loop-byte : goal.invariant-loop-byte
invariant-loop-byte l = record {
  digits : AllDigits 10 (take l.byte-index l.text);
  value : l.number ≡ digits_value 10 (take l.byte-index l.text);
  fits : l.number < 256;
}
