use Rattle.std.proofs.Common.{arith, sym, ◌∙◌}
use Rattle.std.proofs.lemmas.Bool.{OnTrue_from, OnFalse_from}
use Rattle.ipexts_tool.proofs.HexDigitLemmas.{block_more, block_refused}
use Rattle.ipexts_tool.proofs.hex_digits.decode_block.Goals as goal

pub returns-clause-digits : goal.returns-clause-digits
returns-clause-digits c =
    OnTrue_from _ _ (λ is. block_more c.args.text.now _ _ c.args.at (omega arith) c.digit_values-front.ensures c.digit_values-back.ensures c.args.bytes.now c.joined.result (omega arith) c.joined.ensures (sym c.are_values.ensures ∙ is))

pub returns-clause-other : goal.returns-clause-other
returns-clause-other c = OnFalse_from _ _ (λ is. block_refused c.args.text.now _ _ c.args.at (omega arith) c.digit_values-front.ensures c.digit_values-back.ensures (sym c.are_values.ensures ∙ is))
