-- The state of a limited reader, and its refusals.
use Rattle.std.specs.Prelude.{ℕ, ◌≡◌, ◌<◌, ◌≤◌, Bool, List, take, Option}
use Rattle.std.specs.Option.{option_map}
use Rattle.ip_base.specs.ExactRead.{IsRefusal}
use Rattle.ip_base.specs.Limits.{Limits, left, limit_error}
use Rattle.ip_base.specs.declared.err.io.limited_read_error.LimitedReadError.{LimitedReadError}
use Rattle.ip_base.specs.declared.err.io.limited_read_error.LimitedReadError.TheVariants.{Io, Len}
use Rattle.ip_base.specs.declared.io.limited_reader.LimitedReader.{LimitedReader}

module _ {T : Type 0} where
  -- the inner reader
  abbrev pub inner_of : LimitedReader T → T
  inner_of r = r.reader

  -- its limit
  abbrev pub limits_of : LimitedReader T → Limits
  limits_of r = record {
    max_len = r.max_len;
    len_source = r.len_source;
    layer = r.layer;
    layer_offset = r.layer_offset;
    read_len = r.read_len;
  }

  module _ (bytes_left : T → Option (List ℕ)) where
    -- the bytes that may still be read: the inner reader's, up to the limit
    abbrev pub window : LimitedReader T → Option (List ℕ)
    window r = option_map (take (left (limits_of r))) (bytes_left (inner_of r))

    module _ (is_steady has_failed : T → Bool) where
      -- a read of count bytes was refused: by the limit, and nothing changed, or within it by the inner reader
      abbrev pub IsLimitedRefusal : LimitedReader T → LimitedReader T → ℕ → LimitedReadError → Type 0
      IsLimitedRefusal old new count (Len e) = (left (limits_of old) < count) × (e ≡ limit_error count (limits_of old)) × (new ≡ old)
      IsLimitedRefusal old new count (Io e) =
          (count ≤ left (limits_of old)) × IsRefusal (is_steady (inner_of old)) (bytes_left (inner_of old)) count (has_failed (inner_of new))
