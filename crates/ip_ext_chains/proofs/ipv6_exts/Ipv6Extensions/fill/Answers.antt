use Rattle.ip_spec.proofs.Common.{authentication}
use Rattle.ip_spec.specs.Places.{fragment}
use Rattle.ip_ext_chains.proofs.ipv6_exts.Ipv6Extensions.fill.Goals as goal

pub fragment-requires : goal.fragment-requires
fragment-requires c = record { number = c.requires.numbers fragment }

pub auth-requires : goal.auth-requires
auth-requires c = record { number = c.requires.numbers authentication }
