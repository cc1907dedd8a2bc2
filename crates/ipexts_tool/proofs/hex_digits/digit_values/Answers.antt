use Rattle.ipexts_tool.proofs.HexDigitLemmas.{lanes-are}
use Rattle.ipexts_tool.proofs.hex_digits.digit_values.Goals as goal

pub returns : goal.returns
returns c = lanes-are 16 c.args.digits c.fits-digits.0 c.fits-digits.1
