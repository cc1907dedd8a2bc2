use Rattle.ip_spec.proofs.Common.{◌≡◌, sym, ◌∙◌, ap, subst, is_some}
use Rattle.ip_base.specs.Ipv4Header.{is_ipv4_fragmenting}
use Rattle.ip_base.specs.Ipv4HeaderSlice as ipv4_header
use Rattle.ip_dissect.specs.Dissection.{dissected}
use Rattle.ip_dissect.specs.Summary.{IsBaseOf}
use Rattle.ip_defragmenter.specs.FragmentOf.{parts_of}
use Rattle.ip_defragmenter.proofs.ReadLemmas.{of_ipv4, is_no_fragment, is_fragment, is_unusable, some_ipv4, none_ipv4}
use Rattle.ip_defragmenter.proofs.fragment.Reading.read_ipv4.Goals as goal

pub returns-then-not-is_fragmenting_payload : goal.returns-then-not-is_fragmenting_payload
returns-then-not-is_fragmenting_payload c =
    let s = c.args.packet.now.bytes.now in
    let base : ipv4_header.bytes c.args.base ≡ (dissected c.args.packet.now.bytes.now).base = (subst (IsBaseOf c.args.packet.now.bytes.now) c.requires c.args.packet.now.base_is).base in
    is_no_fragment (dissected s) (sym (of_ipv4 s c.args.packet.now.base c.args.base c.args.packet.now.base_is c.requires)
    ∙ none_ipv4 (dissected s) (ap is_ipv4_fragmenting (sym base) ∙ (sym c.is_fragmenting_payload.ensures ∙ c.if-not-is_fragmenting_payload.true)))

pub returns-in-Ok : goal.returns-in-Ok
returns-in-Ok c =
    let s = c.args.packet.now.bytes.now in
    is_fragment (dissected s) (parts_of c.ipv4_fragment.result) (c.ipv4_fragment.ensures ∙ of_ipv4 s c.args.packet.now.base c.args.base c.args.packet.now.base_is c.requires)
    (c.in-Ok.ensures (dissected s) c.args.packet.now.summary_is)

pub returns-in-Err : goal.returns-in-Err
returns-in-Err c =
    let s = c.args.packet.now.bytes.now in
    let base : ipv4_header.bytes c.args.base ≡ (dissected c.args.packet.now.bytes.now).base = (subst (IsBaseOf c.args.packet.now.bytes.now) c.requires c.args.packet.now.base_is).base in
    is_unusable (dissected s) c.in-Err.error
    (ap is_some (sym (of_ipv4 s c.args.packet.now.base c.args.base c.args.packet.now.base_is c.requires))
    ∙ some_ipv4 (dissected s) (ap is_ipv4_fragmenting (sym base) ∙ (sym c.is_fragmenting_payload.ensures ∙ c.if-not-is_fragmenting_payload.false)))
    (c.in-Err.ensures (dissected s) c.args.packet.now.summary_is)
