use Rattle.ip_spec.proofs.Common.{rules}
use Rattle.ipexts_tool.proofs.LineFieldLemmas.{number_and_bytes-two, option_zip-none}
use Rattle.ipexts_tool.proofs.line_fields.parse_number_and_hex.Goals as goal

pub returns-in_err-bytes : goal.returns-in_err-bytes
returns-in_err-bytes c = search (rules, number_and_bytes-two c.in_ok-number.number.now c.in_ok-number.hex.now, option_zip-none)

pub returns : goal.returns
returns c = search (rules, number_and_bytes-two c.in_ok-number.number.now c.in_ok-number.hex.now)
