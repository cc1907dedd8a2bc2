use Rattle.ip_spec.proofs.Common.{arith, sym, get_or_default}
use Rattle.ip_ext_chains.specs.Encoding.{AreBytes}
use Rattle.ip_ext_chains.proofs.RefusedLemmas.{read_refused}
use Rattle.check_reference.proofs.answers.rewritten.Goals as goal

pub unwrap-requires : goal.unwrap-requires
unwrap-requires c =
    let bytes : AreBytes c.args.bytes.now = grind (arith, get_or_default, c.type_inv.bytes) in
    read_refused _ _ _ _ _ c.in-Err.refused c.args.bytes.now bytes (sym c.requires) c.in-Err.ensures.content c.io.ensures

pub returns : goal.returns
returns c =
    let bytes : AreBytes c.args.bytes.now = grind (arith, get_or_default, c.type_inv.bytes) in
    rw c.new-written.ensures.items at (c.in_default.ensures.cleared c.args.bytes.now bytes (sym c.requires))
