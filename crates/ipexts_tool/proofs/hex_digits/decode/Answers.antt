use Rattle.std.proofs.Common.{arith, refl, length, ◌-◌}
use Rattle.hex.specs.Hex.{decode_pairs}
use Rattle.ipexts_tool.proofs.HexDigitLemmas.{last_decoded}
use Rattle.ipexts_tool.proofs.hex_digits.decode.Goals as goal

pub blocks-2-init : goal.blocks-2-init
unfolding decode_pairs
blocks-2-init c = record { inside = omega arith; decoded = refl }

pub returns-clause-digits : goal.returns-clause-digits
returns-clause-digits c =
    last_decoded c.args.text.now c.blocks-2.bytes c.decode_block-2.new.bytes c.blocks-2.at (length c.args.bytes.now - 16) c.decode_block-2.result (omega arith) (omega arith) (omega arith) (omega arith)
    c.blocks-2.invariant.inside c.blocks-2.invariant.decoded c.decode_block-2.ensures.digits
