-- The parts of an authentication header that a read consumes.
use Rattle.ip_spec.specs.Fields.{AuthFields}
use Rattle.ip_ext_headers.specs.declared.auth_parts.AuthParts.{AuthParts}

-- the fields of the header with these parts
abbrev pub fields_in : AuthParts → AuthFields
fields_in p = record {
  next_header = p.next_header.0;
  spi = p.spi;
  sequence_number = p.sequence_number;
  raw_icv = p.raw_icv.now;
}
