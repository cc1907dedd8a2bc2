-- The fields of a header in its place.
use Rattle.ip_spec.specs.Places.{HeaderFields, raw_header, fragment_header, auth_header}
use Rattle.ip_ext_chains.specs.declared.header_ref.HeaderRef.{HeaderRef}
use Rattle.ip_ext_chains.specs.declared.header_ref.HeaderRef.TheVariants.{Raw, Fragment, Authentication}

abbrev pub fields_of_ref : HeaderRef → HeaderFields
fields_of_ref (Raw h) = raw_header h.now
fields_of_ref (Fragment h) = fragment_header h.now
fields_of_ref (Authentication h) = auth_header h.now
