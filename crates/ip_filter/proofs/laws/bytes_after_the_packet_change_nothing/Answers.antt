use Rattle.ip_filter.proofs.AfterLemmas.{after}
use Rattle.ip_filter.proofs.laws.bytes_after_the_packet_change_nothing.Goals as goal

pub returns : goal.returns
returns c = λ s t k n f stated within base ks kt same. after s t k n ks kt within same f stated base
