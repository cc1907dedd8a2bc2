-- Why bytes don't start with an authentication header.
use Rattle.ip_spec.proofs.Common.{Bool, ℕ, ◌<◌, List, ◌++◌, length, rules, AuthAsks, Option}
use Rattle.ip_base.specs.declared.err.layer.Layer.TheVariants.{IpAuthHeader}
use Rattle.ip_base.specs.declared.len_source.LenSource.TheVariants.{Slice}
use Rattle.ip_base.specs.declared.err.ip_auth.header_error.HeaderError.TheVariants.{ZeroPayloadLen}
use Rattle.ip_ext_headers.proofs.FaultLemmas.{auth_asks_fault, auth_zero_fault}
use Rattle.ip_base.specs.Reading.{IsRefusedInLayer}
use Rattle.ip_base.specs.LimitedReader.{inner_of, window}
use Rattle.ip_base.specs.declared.err.io.limited_read_error.LimitedReadError.{LimitedReadError}
use Rattle.ip_base.specs.declared.io.limited_reader.LimitedReader.{LimitedReader}
use Rattle.ip_base.proofs.ReadingLemmas.{of_begun, refused_within_short, past_limit_short}
use Rattle.ip_ext_headers.specs.declared.err.ip_auth.header_limited_read_error.HeaderLimitedReadError.{HeaderLimitedReadError}
use Rattle.ip_ext_headers.specs.declared.err.ip_auth.header_limited_read_error.HeaderLimitedReadError.TheVariants as limited
use Rattle.ip_ext_headers.specs.AuthReading.{auth_slice_fault, IsTooShort, IsAuthRefusedInLayer, IsSliceErrorInLayer, of_limited_error}

-- too few bytes follow those consumed
pub auth_short : (done : List ℕ) (count : ℕ) (xs : List ℕ) → AuthAsks done count → length xs < count → IsTooShort auth_slice_fault (done ++ xs)
auth_short done count xs a few = auth_asks_fault Slice (length (done ++ xs)) 0 done count xs few a

module _ {T : Type 0} (bytes_left : T → Option (List ℕ)) (is_steady has_failed : T → Bool) (old new : LimitedReader T) where
  -- a refused request within an authentication header is a refusal of the header
  pub limited_refused : (e : LimitedReadError) → IsRefusedInLayer bytes_left is_steady has_failed AuthAsks IpAuthHeader old new e
      → IsAuthRefusedInLayer bytes_left is_steady has_failed old new (of_limited_error e)
  limited_refused e r = search rules

  -- the refusal reports the error of the parse of the window
  pub limited_fault : (e : HeaderLimitedReadError) → IsAuthRefusedInLayer bytes_left is_steady has_failed old new e → IsSliceErrorInLayer auth_slice_fault (is_steady (inner_of old)) (window bytes_left old) e
  limited_fault (limited.Io e) r = refused_within_short AuthAsks (IsTooShort auth_slice_fault) auth_short bytes_left is_steady has_failed IpAuthHeader old new r
  limited_fault (limited.Len e) r = past_limit_short AuthAsks (IsTooShort auth_slice_fault) auth_short bytes_left is_steady has_failed IpAuthHeader old new e r
  limited_fault (limited.Content ZeroPayloadLen) r =
      of_begun (window bytes_left old) (window bytes_left new) r.done _ r.consumed.window (λ xs. auth_zero_fault Slice (length (r.done ++ xs)) 0 r.done xs r.zero_length)
