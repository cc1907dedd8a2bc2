use Rattle.ipexts_tool.proofs.HexDigitLemmas.{values-are}
use Rattle.ipexts_tool.proofs.hex_digits.are_values.Goals as goal

pub returns : goal.returns
returns c = values-are c.args.front c.args.back c.fits-front.0 c.fits-back.0
