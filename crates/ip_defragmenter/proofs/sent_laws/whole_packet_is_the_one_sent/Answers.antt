use Rattle.std.proofs.Common.{ap, ◌∙◌, ◌++◌, drop}
use Rattle.std.specs.Prelude.{slice_index}
use Rattle.std.proofs.lemmas.List.{take-append-drop, length-drop}
use Rattle.ip_base.specs.Ipv4Header.{ipv4_header_len}
use Rattle.ip_defragmenter.specs.Whole.{whole_headers}
use Rattle.ip_defragmenter.specs.Sent.{ipv6_first}
use Rattle.ip_defragmenter.proofs.SentLemmas.{whole4, whole6}
use Rattle.ip_defragmenter.proofs.sent_laws.whole_packet_is_the_one_sent.Goals as goal

pub returns-clause-ipv6 : goal.returns-clause-ipv6
returns-clause-ipv6 c = λ s n link t sent.
    ap (λ k. whole_headers (ipv6_first s n link t) link (slice_index s link) k ++ drop n s) (length-drop n s)
    ∙ (ap (λ h. h ++ drop n s) (whole6 s n link t sent) ∙ take-append-drop n s)

pub returns-clause-ipv4 : goal.returns-clause-ipv4
returns-clause-ipv4 c = λ s t x link number sent.
    let n = ipv4_header_len s in
    ap (λ h. h ++ drop n s) (whole4 s t x _ sent (length-drop n s) link number) ∙ take-append-drop n s
