use Rattle.ip_spec.proofs.Common.{rules, refl, [], Consumes-nil, FragmentAsks, fragment_whole}
use Rattle.ip_base.specs.Reading.{IsRefused}
use Rattle.ip_base.proofs.ReadingLemmas.{refused_after}
use Rattle.ip_ext_headers.proofs.ipv6_fragment_header.Ipv6FragmentHeader.read.Goals as goal

pub returns-in_err-read_exact-clause-refused : goal.returns-in_err-read_exact-clause-refused
returns-in_err-read_exact-clause-refused g c =
    let t : IsRefused FragmentAsks (g.T.ExactRead.is_steady c.args.reader.now) (g.T.ExactRead.bytes_left c.args.reader.now) (g.T.ExactRead.has_failed c.read_exact.new.self) =
    refused_after FragmentAsks _ _ _ _ _ [] _ refl (Consumes-nil _) (fragment_whole refl refl) c.in_err-read_exact.ensures.refuses in
    search rules
