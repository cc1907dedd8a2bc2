-- A header of the plain program.
use Rattle.ip_spec.specs.Chain.{ExtHeader}
use Rattle.check_reference.specs.declared.chain.PlainHeader.{PlainHeader}

-- its number and bytes
abbrev pub plain_header_of : PlainHeader → ExtHeader
plain_header_of h = record { number = h.number; bytes = h.bytes.now }
