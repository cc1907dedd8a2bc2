use Rattle.ip_spec.proofs.Common.{arith, IsFragmentHeader, FragmentFields, fragment_fields}
use Rattle.ip_spec.proofs.EncodingLemmas.{fragment_encodes, encoding_is_decoded}
use Rattle.ip_ext_headers.proofs.ipv6_fragment_header.Ipv6FragmentHeader.to_bytes.Goals as goal

pub returns-clause-encoding : goal.returns-clause-encoding
returns-clause-encoding c =
    let v : FragmentFields = record { next_header = c.self.inside.next_header.0; fragment_offset = c.self.inside.fragment_offset; more_fragments = c.self.inside.more_fragments; identification = c.self.inside.identification } in
    let packed = c.pack-high.ensures in
    rw (← c.self.view_is, c.to_be_bytes.ensures)
    (fragment_encodes v c.pack-high.result.0 c.pack-high.result.1 packed.offset packed.flag packed.reserved (omega arith) (omega arith) (omega arith))

pub returns-clause-read_back : goal.returns-clause-read_back
returns-clause-read_back c = λ r. encoding_is_decoded IsFragmentHeader fragment_fields 44 _ _ r (returns-clause-encoding c)
