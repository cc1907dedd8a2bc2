use Rattle.ip_rewrite.proofs.PayloadLemmas.{extension_tells}
use Rattle.ip_rewrite.proofs.payload.is_extension_number.Goals as goal

pub returns : goal.returns
returns c = extension_tells c.is_extension.result c.args.number.0 c.is_extension.ensures
