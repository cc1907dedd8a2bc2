-- The cause of an authentication header's error.
use Rattle.ip_base.specs.Cause.{Cause, IpAuth}
use Rattle.ip_base.specs.Cause as cause
use Rattle.ip_ext_headers.specs.declared.err.ip_auth.header_slice_error.HeaderSliceError.{HeaderSliceError}
use Rattle.ip_ext_headers.specs.declared.err.ip_auth.header_slice_error.HeaderSliceError.TheVariants.{Len, Content}

abbrev pub cause_of : HeaderSliceError → Cause
cause_of (Len e) = cause.Len e
cause_of (Content e) = IpAuth e
