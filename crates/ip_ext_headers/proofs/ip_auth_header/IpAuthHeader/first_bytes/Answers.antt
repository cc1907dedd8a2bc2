use Rattle.ip_spec.proofs.Common.{arith, AuthFields, IsAuthEncoding}
use Rattle.ip_spec.proofs.EncodingLemmas.{auth_written, auth_written_encodes}
use Rattle.ip_ext_headers.proofs.ip_auth_header.IpAuthHeader.first_bytes.Goals as goal

pub returns : goal.returns
returns c =
    let v : AuthFields = record { next_header = c.self.inside.next_header.0; spi = c.self.inside.spi; sequence_number = c.self.inside.sequence_number; raw_icv = c.self.inside.raw_icv.items } in
    let encoded : IsAuthEncoding v (auth_written v) = auth_written_encodes v c.self.invariant.most c.self.invariant.whole (omega arith) (omega arith) in
    rw (← c.self.view_is, c.len.ensures.value, c.to_be_bytes.ensures, c.to_be_bytes-2.ensures) encoded
