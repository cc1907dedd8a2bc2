use Rattle.std.specs.Option.{option_copied}
use Rattle.ip_reassembly.specs.Received.{received_none, received_all}
use Rattle.ip_reassembly.proofs.GivenLemmas.{shown_pieces, shown_bytes}
use Rattle.ip_reassembly.proofs.reassembly.Reassembly.payload.Goals as goal

pub returns-clause-pieces : goal.returns-clause-pieces
returns-clause-pieces c = λ payload pieces given limit abandons h split fits all.
    shown_pieces (option_copied c.payload.result) payload pieces limit abandons given split fits all (c.payload.ensures (received_all (received_none limit abandons) given) h)

pub returns-clause-bytes : goal.returns-clause-bytes
returns-clause-bytes c = λ given limit abandons h. shown_bytes c.payload.result limit abandons given (c.payload.ensures (received_all (received_none limit abandons) given) h)
