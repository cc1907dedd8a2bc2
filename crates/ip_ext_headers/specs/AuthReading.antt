-- Why a read of an authentication header fails.
use Rattle.std.specs.Prelude.{ℕ, ◌≡◌, Bool, List, length, Option, Some, IfSome}
use Rattle.std.specs.Io.KnownBytes.{Consumes}
use Rattle.ip_base.specs.declared.err.len_error.LenError.{LenError}
use Rattle.ip_base.specs.declared.err.layer.Layer.TheVariants.{IpAuthHeader}
use Rattle.ip_base.specs.declared.len_source.LenSource.TheVariants.{Slice}
use Rattle.ip_spec.specs.Requests.{AuthAsks, IsZeroLength}
use Rattle.ip_base.specs.ExactRead.{IfSteady}
use Rattle.ip_base.specs.LimitedReader.{inner_of}
use Rattle.ip_base.specs.Reading.{IsRefused, IsConsumedInLayer, IsPastLimit, IsRefusedWithin}
use Rattle.ip_base.specs.declared.io.limited_reader.LimitedReader.{LimitedReader}
use Rattle.ip_base.specs.declared.err.io.limited_read_error.LimitedReadError.{LimitedReadError}
use Rattle.ip_base.specs.declared.err.io.limited_read_error.LimitedReadError.TheVariants as limit
use Rattle.ip_ext_headers.specs.HeaderFault.{auth_fault}
use Rattle.ip_ext_headers.specs.declared.err.ip_auth.header_slice_error.HeaderSliceError.{HeaderSliceError}
use Rattle.ip_ext_headers.specs.declared.err.ip_auth.header_slice_error.HeaderSliceError.TheVariants as slice
use Rattle.ip_ext_headers.specs.declared.err.ip_auth.header_read_error.HeaderReadError.{HeaderReadError}
use Rattle.ip_ext_headers.specs.declared.err.ip_auth.header_read_error.HeaderReadError.TheVariants as read
use Rattle.ip_ext_headers.specs.declared.err.ip_auth.header_limited_read_error.HeaderLimitedReadError.{HeaderLimitedReadError}
use Rattle.ip_ext_headers.specs.declared.err.ip_auth.header_limited_read_error.HeaderLimitedReadError.TheVariants as limited

-- the error of `from_slice` for bytes s
abbrev pub auth_slice_fault : List ℕ → Option HeaderSliceError
auth_slice_fault s = auth_fault Slice (length s) 0 s

-- The error of a parse where a read is refused. `fault` is the parse's error for given bytes.
module _ (fault : List ℕ → Option HeaderSliceError) where
  -- for bytes s the error is a length error
  abbrev pub IsTooShort : List ℕ → Type 0
  IsTooShort s = (e : LenError) × (fault s ≡ Some (slice.Len e))

  -- the parse of the remaining bytes has the read's error; if the reader fails, only for a steady reader
  abbrev pub IsSliceError : Bool → Option (List ℕ) → HeaderReadError → Type 0
  IsSliceError steady left (read.Io e) = IfSteady steady left IsTooShort
  IsSliceError steady left (read.Content e) = IfSome left (λ s. fault s ≡ Some (slice.Content e))

  abbrev pub IsSliceErrorInLayer : Bool → Option (List ℕ) → HeaderLimitedReadError → Type 0
  IsSliceErrorInLayer steady left (limited.Io e) = IfSteady steady left IsTooShort
  IsSliceErrorInLayer steady left (limited.Len e) = IfSome left IsTooShort
  IsSliceErrorInLayer steady left (limited.Content e) = IfSome left (λ s. fault s ≡ Some (slice.Content e))

-- the limited read's error as an error of an authentication header
abbrev pub of_limited_error : LimitedReadError → HeaderLimitedReadError
of_limited_error (limit.Io e) = limited.Io e
of_limited_error (limit.Len e) = limited.Len e

-- The bytes before the check value were consumed, and the length in them is 0; reading them didn't fail.
pub record IsZeroConsumed (Consumed : List ℕ → Type 0) (had_failed has_failed : Bool) : Type 0 where
  pub done : List ℕ
  pub zero_length : IsZeroLength done
  pub consumed : Consumed done
  pub kept : has_failed ≡ had_failed

module _ {T : Type 0} (bytes_left : T → Option (List ℕ)) (is_steady has_failed : T → Bool) where
  -- a request was refused, or the length is 0
  abbrev pub IsAuthRefused : T → T → HeaderReadError → Type 0
  IsAuthRefused old new (read.Io e) = IsRefused AuthAsks (is_steady old) (bytes_left old) (has_failed new)
  IsAuthRefused old new (read.Content e) = IsZeroConsumed (Consumes (bytes_left old) (bytes_left new)) (has_failed old) (has_failed new)

  abbrev pub IsAuthRefusedInLayer : LimitedReader T → LimitedReader T → HeaderLimitedReadError → Type 0
  IsAuthRefusedInLayer old new (limited.Io e) = IsRefusedWithin bytes_left is_steady has_failed AuthAsks IpAuthHeader old new
  IsAuthRefusedInLayer old new (limited.Len e) = IsPastLimit bytes_left is_steady has_failed AuthAsks IpAuthHeader old new e
  IsAuthRefusedInLayer old new (limited.Content e) =
      IsZeroConsumed (IsConsumedInLayer bytes_left IpAuthHeader old new) (has_failed (inner_of old)) (has_failed (inner_of new))
