-- Reading a header by requests. Each request asks for the bytes that follow those already consumed, and is consumed
-- whole or refused. `Asks done count` says that after the bytes `done` the next request is for count bytes. A limited
-- read is a read of the window: it has the same result, and it changes the limit.
use Rattle.std.specs.Prelude.{ℕ, ◌≡◌, ◌+◌, ◌<◌, ◌≤◌, Bool, List, ◌++◌, length, Option}
use Rattle.std.specs.Io.KnownBytes.{Consumes}
use Rattle.ip_base.specs.declared.err.layer.Layer.{Layer}
use Rattle.ip_base.specs.declared.err.len_error.LenError.{LenError}
use Rattle.ip_base.specs.ExactRead.{IsRefusal}
use Rattle.ip_base.specs.Limits.{left, started, advanced, limit_error}
use Rattle.ip_base.specs.LimitedReader.{inner_of, limits_of, window}
use Rattle.ip_base.specs.declared.err.io.limited_read_error.LimitedReadError.{LimitedReadError}
use Rattle.ip_base.specs.declared.err.io.limited_read_error.LimitedReadError.TheVariants.{Io, Len}
use Rattle.ip_base.specs.declared.io.limited_reader.LimitedReader.{LimitedReader}

-- The bytes consumed are a header whose fields are v. `Consumed` says which bytes were consumed.
pub record IsHeaderConsumed {V : Type 0} (IsOne : List ℕ → Type 0) (fields_of : List ℕ → V) (Consumed : List ℕ → Type 0) (v : V) : Type 0 where
  pub bytes : List ℕ
  pub header : IsOne bytes
  pub fields : fields_of bytes ≡ v
  pub consumed : Consumed bytes

-- The reader refused the request for count bytes after `done`. `first` is what the reader had left at the start, and
-- `done` was consumed from it; `failed` says whether the reader has failed at the end.
pub record IsRefusedAfter (Asks : List ℕ → ℕ → Type 0) (steady : Bool) (first : Option (List ℕ)) (failed : Bool) (done : List ℕ) (count : ℕ) : Type 0 where
  pub asked : Asks done count
  pub left : Option (List ℕ)
  pub consumed : Consumes first left done
  pub refusal : IsRefusal steady left count failed

-- some request was refused
abbrev pub IsRefused : (List ℕ → ℕ → Type 0) → Bool → Option (List ℕ) → Bool → Type 0
IsRefused Asks steady first failed = (done : List ℕ) × (count : ℕ) × IsRefusedAfter Asks steady first failed done count

module _ {T : Type 0} (bytes_left : T → Option (List ℕ)) where
  -- These bytes were consumed in a layer that starts where `old` had got to: within the limit, from the reader's
  -- remaining bytes, and so from the window.
  pub record IsConsumedInLayer (layer : Layer) (old new : LimitedReader T) (bytes : List ℕ) : Type 0 where
    pub within : length bytes ≤ left (limits_of old)
    pub limits : limits_of new ≡ advanced (length bytes) (started layer (limits_of old))
    pub reader : Consumes (bytes_left (inner_of old)) (bytes_left (inner_of new)) bytes
    pub window : Consumes (window bytes_left old) (window bytes_left new) bytes

  module _ (is_steady has_failed : T → Bool) (Asks : List ℕ → ℕ → Type 0) (layer : Layer) (old new : LimitedReader T) where
    -- The request for count bytes after `done` is the first that exceeds the limit: `done` was consumed, and the
    -- error reports how many bytes the layer needs in all.
    pub record IsPastLimit (e : LenError) : Type 0 where
      pub done : List ℕ
      pub count : ℕ
      pub asked : Asks done count
      pub consumed : IsConsumedInLayer layer old new done
      pub beyond : left (limits_of old) < length done + count
      pub error : e ≡ limit_error count (limits_of new)
      pub kept : has_failed (inner_of new) ≡ has_failed (inner_of old)

    -- The request for count bytes after `done` is within the limit, and the reader refused it.
    pub record IsRefusedWithin : Type 0 where
      pub done : List ℕ
      pub count : ℕ
      pub within : length done + count ≤ left (limits_of old)
      pub limits : limits_of new ≡ advanced (length done) (started layer (limits_of old))
      pub refused : IsRefusedAfter Asks (is_steady (inner_of old)) (bytes_left (inner_of old)) (has_failed (inner_of new)) done count

    -- a request exceeded the limit, or the reader refused it
    abbrev pub IsRefusedInLayer : LimitedReadError → Type 0
    IsRefusedInLayer (Len e) = IsPastLimit e
    IsRefusedInLayer (Io e) = IsRefusedWithin

-- The bytes consumed have one result, whatever follows them: `Answers s rest` is the result for bytes s, of which
-- `rest` is left.
pub record IsAnswerConsumed (Answers : List ℕ → List ℕ → Type 0) (Consumed : List ℕ → Type 0) : Type 0 where
  pub bytes : List ℕ
  pub consumed : Consumed bytes
  pub answer : (rest : List ℕ) → Answers (bytes ++ rest) rest
