-- The error of `from_slice` where a read fails.
use Rattle.std.specs.Prelude.{ℕ, ◌≡◌, Bool, List, Option, Some, IfSome}
use Rattle.std.specs.Option.{option_map}
use Rattle.ip_base.specs.declared.err.len_error.LenError.{LenError}
use Rattle.ip_base.specs.ExactRead.{IfSteady}
use Rattle.ip_base.specs.declared.err.io.limited_read_error.LimitedReadError.{LimitedReadError}
use Rattle.ip_base.specs.declared.err.io.limited_read_error.LimitedReadError.TheVariants as limit
use Rattle.ip_ext_slices.specs.declared.err.ipv6_exts.header_slice_error.HeaderSliceError.{HeaderSliceError}
use Rattle.ip_ext_slices.specs.declared.err.ipv6_exts.header_slice_error.HeaderSliceError.TheVariants as slice
use Rattle.ip_ext_chains.specs.Fitting.{fitting_fault}
use Rattle.ip_ext_chains.specs.declared.err.ipv6_exts.header_read_error.HeaderReadError.{HeaderReadError}
use Rattle.ip_ext_chains.specs.declared.err.ipv6_exts.header_read_error.HeaderReadError.TheVariants as read
use Rattle.ip_ext_chains.specs.declared.err.ipv6_exts.header_limited_read_error.HeaderLimitedReadError.{HeaderLimitedReadError}
use Rattle.ip_ext_chains.specs.declared.err.ipv6_exts.header_limited_read_error.HeaderLimitedReadError.TheVariants as limited

-- from number n, the chain in bytes s that fits ends with this error
abbrev pub HasError : ℕ → HeaderSliceError → List ℕ → Type 0
HasError n e s = option_map (λ f. f.0) (fitting_fault n s) ≡ Some e

-- from number n, bytes s are too short
abbrev pub IsTooShort : ℕ → List ℕ → Type 0
IsTooShort n s = (e : LenError) × HasError n (slice.Len e) s

-- `from_slice` has the read's error for the remaining bytes; if the reader fails, only for a steady reader
abbrev pub IsSliceError : ℕ → Bool → Option (List ℕ) → HeaderReadError → Type 0
IsSliceError n steady left (read.Io e) = IfSteady steady left (IsTooShort n)
IsSliceError n steady left (read.Content e) = IfSome left (HasError n (slice.Content e))

abbrev pub IsSliceErrorInLayers : ℕ → Bool → Option (List ℕ) → HeaderLimitedReadError → Type 0
IsSliceErrorInLayers n steady left (limited.Io e) = IfSteady steady left (IsTooShort n)
IsSliceErrorInLayers n steady left (limited.Len e) = IfSome left (IsTooShort n)
IsSliceErrorInLayers n steady left (limited.Content e) = IfSome left (HasError n (slice.Content e))

-- the limited read's error as a chain's error
abbrev pub of_limited_error : LimitedReadError → HeaderLimitedReadError
of_limited_error (limit.Io e) = limited.Io e
of_limited_error (limit.Len e) = limited.Len e
