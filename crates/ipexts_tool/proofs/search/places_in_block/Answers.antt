use Rattle.std.proofs.Common.{arith, eqb, w8}
use Rattle.std.specs.Simd.Lanes.{chunk}
use Rattle.std.proofs.lemmas.Simd.{bitmask_splat, length-chunk}
use Rattle.ipexts_tool.proofs.search.places_in_block.Goals as goal

pub returns : goal.returns
returns c = bitmask_splat w8 eqb (chunk c.args.at 16 c.args.text.now) 16 c.args.byte (length-chunk c.args.at 16 c.args.text.now c.requires) (omega arith)
