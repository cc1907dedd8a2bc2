use Rattle.std.proofs.Common.{◌*◌, ◌+◌, ◌^◌, ◌%◌, ap, ◌∙◌}
use Rattle.ip_dissect.specs.Dissection.{dissected}
use Rattle.ip_filter.specs.Flags.{any_flag}
use Rattle.ip_filter.proofs.MaskLemmas.{fault_mask}
use Rattle.ip_filter.proofs.test_of.fault_mask.Goals as goal

pub returns : goal.returns
returns c = λ s. ap (λ i. any_flag 64 (1 * 2 ^ (12 + i) % 2 ^ 64) (dissected s)) c.kind_index.ensures ∙ fault_mask s c.args.kind
