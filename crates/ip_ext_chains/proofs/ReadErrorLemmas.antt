-- The error of a chain that is read is the error of the parse.
use Rattle.ip_spec.proofs.Common.{◌≡◌, ℕ, ◌<◌, List, ◌++◌, length, refl, Bool, true, false, rules, Option, Some, IsTrue, Consumes, Asks, IsZeroLength, ExtHeader, leads_to, bytes_of, is_empty}
use Rattle.ip_base.specs.declared.len_source.LenSource.TheVariants.{Slice}
use Rattle.ip_base.specs.declared.err.io.limited_read_error.LimitedReadError.{LimitedReadError}
use Rattle.ip_base.specs.ExactRead.{IfSteady}
use Rattle.ip_base.specs.LimitedReader.{inner_of, window}
use Rattle.ip_base.specs.Reading.{IsRefusedInLayer}
use Rattle.ip_base.specs.declared.io.limited_reader.LimitedReader.{LimitedReader}
use Rattle.ip_base.proofs.ReadingLemmas.{lift_some, of_all, of_begun, refused_short, refused_within_short, past_limit_short}
use Rattle.ip_base.specs.declared.err.ip_auth.header_error.HeaderError.TheVariants.{ZeroPayloadLen}
use Rattle.ip_ext_slices.specs.ChainFault.{Fault, fault_at}
use Rattle.ip_base.specs.declared.err.ipv6_exts.header_error.HeaderError.TheVariants.{HopByHopNotAtStart, IpAuth}
use Rattle.ip_ext_slices.specs.declared.err.ipv6_exts.header_slice_error.HeaderSliceError.TheVariants as slice
use Rattle.ip_ext_slices.proofs.RequestFaultLemmas.{asks_fault, zero_fault}
use Rattle.ip_ext_chains.specs.ReadError.{HasError, IsTooShort, IsSliceError, IsSliceErrorInLayers, of_limited_error}
use Rattle.ip_ext_chains.specs.ChainReading.{AreConsumed, AreConsumedInLayers, IsChainRefused, IsHeaderRefused, IsHeaderRefusedInLayer, layer_of}
use Rattle.ip_ext_chains.specs.declared.err.ipv6_exts.header_read_error.HeaderReadError.{HeaderReadError}
use Rattle.ip_ext_chains.specs.declared.err.ipv6_exts.header_read_error.HeaderReadError.TheVariants as read
use Rattle.ip_ext_chains.specs.declared.err.ipv6_exts.header_limited_read_error.HeaderLimitedReadError.{HeaderLimitedReadError}
use Rattle.ip_ext_chains.specs.declared.err.ipv6_exts.header_limited_read_error.HeaderLimitedReadError.TheVariants as limited
use Rattle.ip_ext_chains.proofs.FittingLemmas.{fitting_fault_is}

-- a property of the bytes after consumed ones, also for a steady reader only
pub lift_steady : (steady then_steady : Bool) (a b : Option (List ℕ)) (done : List ℕ) (Q : List ℕ → Type 0) → then_steady ≡ steady → Consumes a b done → IfSteady then_steady b (λ y. Q (done ++ y)) → IfSteady steady a Q
lift_steady steady then_steady a b done Q e c f = search rules

-- After the headers of a chain whose read failed.
module _ {R : Type 0} (Consumed : R → R → List ExtHeader → Type 0) (Refused : Bool → ℕ → R → R → Type 0) (old new : R) (n : ℕ) (k : IsChainRefused Consumed Refused old new n) where
  pub error_is : (x : List ℕ) (f : Fault) → fault_at Slice (length x) (length (bytes_of k.headers)) (is_empty k.headers) (leads_to n k.headers) x ≡ Some f → HasError n f.0 (bytes_of k.headers ++ x)
  error_is x f e = cc (fitting_fault_is n k.headers (leads_to n k.headers) k.chain k.fits refl x f k.free e)

  pub short_is : (leads_to n k.headers ≡ 0 → IsTrue (is_empty k.headers)) → (done : List ℕ) (count : ℕ) (xs : List ℕ) → Asks (leads_to n k.headers) done count → length xs < count → IsTooShort n (bytes_of k.headers ++ (done ++ xs))
  short_is zero_first done count xs asks few =
      let f = asks_fault Slice (length (done ++ xs)) (length (bytes_of k.headers)) (is_empty k.headers) (leads_to n k.headers) done count xs few zero_first asks in search (rules, error_is)

  pub zero_is : (done xs : List ℕ) → leads_to n k.headers ≡ 51 → IsZeroLength done → HasError n (slice.Content (IpAuth ZeroPayloadLen)) (bytes_of k.headers ++ (done ++ xs))
  zero_is done xs is z = search (rules, error_is (done ++ xs), zero_fault)

  pub later_is : (x : List ℕ) → leads_to n k.headers ≡ 0 → is_empty k.headers ≡ false → HasError n (slice.Content HopByHopNotAtStart) (bytes_of k.headers ++ x)
  later_is x is later = search (rules, error_is x)

module _ {T : Type 0} (bytes_left : T → Option (List ℕ)) (is_steady has_failed : T → Bool) where
  -- a chain whose read failed has the error of the parse
  pub refused_error : (e : HeaderReadError) (old new : T) (n : ℕ)
      → IsChainRefused (AreConsumed bytes_left is_steady has_failed) (IsHeaderRefused bytes_left is_steady has_failed e) old new n → IsSliceError n (is_steady old) (bytes_left old) e
  refused_error (read.Io e) old new n k = search (rules, lift_steady, refused_short, short_is)
  refused_error (read.Content HopByHopNotAtStart) old new n k = search (rules, lift_some, of_all, later_is)
  refused_error (read.Content (IpAuth ZeroPayloadLen)) old new n k = search (rules, lift_some, of_begun, zero_is)

  -- within a limit a refused request of a header is a refusal of the header
  pub request_refused : (e : LimitedReadError) (m : ℕ) (old new : LimitedReader T) → IsRefusedInLayer bytes_left is_steady has_failed (Asks m) (layer_of m) old new e
      → IsHeaderRefusedInLayer bytes_left is_steady has_failed (of_limited_error e) true m old new
  request_refused e m old new r = search rules

  -- a chain whose read failed has the error of the parse of the window
  pub layer_refused_error : (e : HeaderLimitedReadError) (old new : LimitedReader T) (n : ℕ)
      → IsChainRefused (AreConsumedInLayers bytes_left is_steady has_failed) (IsHeaderRefusedInLayer bytes_left is_steady has_failed e) old new n
      → IsSliceErrorInLayers n (is_steady (inner_of old)) (window bytes_left old) e
  layer_refused_error (limited.Io e) old new n k =
      let short = refused_within_short (Asks (leads_to n k.headers)) (λ y. IsTooShort n (bytes_of k.headers ++ y)) (short_is _ _ old new n k k.refused.0) bytes_left is_steady has_failed _ k.between new k.refused.1 in search (rules, lift_steady)
  layer_refused_error (limited.Len e) old new n k = search (rules, lift_some, past_limit_short, short_is)
  layer_refused_error (limited.Content HopByHopNotAtStart) old new n k = search (rules, lift_some, of_all, later_is)
  layer_refused_error (limited.Content (IpAuth ZeroPayloadLen)) old new n k = search (rules, lift_some, of_begun, zero_is)
