use Rattle.ip_spec.proofs.Common.{◌+◌, sym, ◌∙◌, ap, length, is_some, bytes_of, find}
use Rattle.ip_dissect.specs.Fragment.{fragments}
use Rattle.ip_dissect.specs.Dissection.{dissected}
use Rattle.ip_defragmenter.specs.Split.{before_fragment}
use Rattle.ip_defragmenter.specs.FragmentOf.{parts_of}
use Rattle.ip_defragmenter.specs.declared.finder.Finder.{Finder}
use Rattle.ip_defragmenter.proofs.FragmentLemmas.{fragment_lies, none_is}
use Rattle.ip_defragmenter.proofs.ReadLemmas.{of_ipv6, is_no_fragment, is_fragment, is_unusable, some_ipv6, none_ipv6}
use Rattle.ip_defragmenter.proofs.fragment.Reading.read_ipv6.Goals as goal

pub returns-in-Ok : goal.returns-in-Ok
returns-in-Ok c =
    let s = c.args.packet.now.bytes.now in
    is_fragment (dissected s) (parts_of c.ipv6_fragment.result) (c.ipv6_fragment.ensures ∙ of_ipv6 s c.args.packet.now.base c.args.base c.args.packet.now.base_is c.requires.base)
    (c.in-Ok.ensures (dissected s) c.args.packet.now.summary_is)

pub returns-in-Err : goal.returns-in-Err
returns-in-Err c =
    let s = c.args.packet.now.bytes.now in
    let lies = fragment_lies c.args.packet.now c.in-Some.header c.args.finder.now c.requires.found c.in-Some.is in
    is_unusable (dissected s) c.in-Err.error
    (ap is_some (sym (of_ipv6 s c.args.packet.now.base c.args.base c.args.packet.now.base_is c.requires.base)) ∙ some_ipv6 (dissected s) lies.header lies.found)
    (c.in-Err.ensures (dissected s) c.args.packet.now.summary_is)

pub returns-in-None : goal.returns-in-None
returns-in-None c =
    let s = c.args.packet.now.bytes.now in
    let none = none_is (length (dissected s).base + length (bytes_of (before_fragment (dissected s).headers))) (find fragments (dissected s).headers) (sym c.in-None.is ∙ ap (λ (f : Finder). f.header) c.requires.found) in
    is_no_fragment (dissected s) (sym (of_ipv6 s c.args.packet.now.base c.args.base c.args.packet.now.base_is c.requires.base) ∙ none_ipv6 (dissected s) none)
