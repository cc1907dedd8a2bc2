-- The error for a payload or check value of a length that is not allowed: the first check that fails.
use Rattle.std.specs.Prelude.{ℕ, ◌+◌, ◌%◌, Option, Some, None, nat_lt, not, ◌==◌, if◌then◌else◌}
use Rattle.ip_ext_headers.specs.declared.err.ip_auth.icv_len_error.IcvLenError.{IcvLenError}
use Rattle.ip_ext_headers.specs.declared.err.ip_auth.icv_len_error.IcvLenError.TheVariants as icv
use Rattle.ip_ext_headers.specs.declared.err.ipv6_exts.ext_payload_len_error.ExtPayloadLenError.{ExtPayloadLenError}
use Rattle.ip_ext_headers.specs.declared.err.ipv6_exts.ext_payload_len_error.ExtPayloadLenError.TheVariants as payload

abbrev pub payload_len_fault : ℕ → Option ExtPayloadLenError
payload_len_fault n =
    if nat_lt n 6 then Some (payload.TooSmall n)
    else if nat_lt 2046 n then Some (payload.TooBig n)
    else if not ((n + 2) % 8 == 0) then Some (payload.Unaligned n)
    else None

abbrev pub icv_len_fault : ℕ → Option IcvLenError
icv_len_fault n =
    if nat_lt 1016 n then Some (icv.TooBig n)
    else if not (n % 4 == 0) then Some (icv.Unaligned n)
    else None
