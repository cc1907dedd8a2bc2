use Rattle.ip_spec.proofs.Common.{◌≡◌, refl, cond}
use Rattle.ip_spec.proofs.FragmentBitLemmas.{packed_reserved}
use Rattle.ip_ext_headers.proofs.fragment_bits.pack.Goals.{then-more_fragments, else-more_fragments}
use Rattle.ip_ext_headers.proofs.fragment_bits.pack.Goals as goal

pub returns-clause-reserved : goal.returns-clause-reserved
returns-clause-reserved c =
    let flag : c.if-more_fragments.flag ≡ cond c.args.more_fragments 1 0 =
    elim c.if-more_fragments.branch [ then-more_fragments w ↦ rw (w.if-more_fragments.true, w.flag-is) refl | else-more_fragments w ↦ rw (w.if-more_fragments.false, w.flag-is) refl ] in
    rw flag (packed_reserved c.value-units.result c.args.more_fragments)
