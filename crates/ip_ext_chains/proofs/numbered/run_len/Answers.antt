use Rattle.ip_spec.proofs.Common.{ap, rules, sym, ◌∙◌, take_more}
use Rattle.ip_spec.proofs.DemandLemmas.{kept_first}
use Rattle.ip_ext_chains.specs.InPlaces.{AreInPlaces}
use Rattle.ip_ext_chains.proofs.NumberedLemmas.{marked_none, marked_more, marked_all, kept_whole}
use Rattle.ip_ext_chains.proofs.numbered.run_len.Goals as goal

pub lens-init : goal.lens-init
lens-init g c = marked_none g.H.HasNumber.number_of _ c.new-places.ensures

pub returns-in_default-clause-run : goal.returns-in_default-clause-run
returns-in_default-clause-run g c =
    kept_first (AreInPlaces g.H.HasNumber.number_of) c.args.headers.now c.lens.len c.index-headers-len.result c.lens-test.true c.lens.invariant.fit
    (marked_all g.H.HasNumber.number_of _ _ c.lens.invariant _ _ (c.number.ensures ∙ ap g.H.HasNumber.number_of c.index-headers-len.is) (sym c.in_default.ensures))

pub lens-preserved : goal.lens-preserved
lens-preserved g c =
    rw (take_more c.args.headers.now c.lens.len c.index-headers-len.result c.lens-test.true)
    (marked_more g.H.HasNumber.number_of _ _ c.lens.invariant _ _ (c.number.ensures ∙ ap g.H.HasNumber.number_of c.index-headers-len.is) _ _ _ (sym c.in-Some.ensures) c.put.ensures)

pub returns-clause-run : goal.returns-clause-run
returns-clause-run g c = kept_whole (AreInPlaces g.H.HasNumber.number_of) _ c.lens.len (search rules) c.lens.invariant.fit
