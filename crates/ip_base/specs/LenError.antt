-- The values of a length error.
use Rattle.std.specs.Prelude.{ℕ, ◌+◌}
use Rattle.ip_base.specs.declared.err.len_error.LenError.{LenError}
use Rattle.ip_base.specs.declared.err.layer.Layer.{Layer}
use Rattle.ip_base.specs.declared.len_source.LenSource.{LenSource}

-- the source says that n bytes are present; the layer at offset k needs more
abbrev pub too_short : LenSource → ℕ → ℕ → Layer → ℕ → LenError
too_short source n k layer required = record { required_len = required; len = n; len_source = source; layer = layer; layer_start_offset = k }

-- the length error with its offset increased by k and with this source
abbrev pub moved : LenSource → ℕ → LenError → LenError
moved source k e = record e { len_source = source; layer_start_offset = e.layer_start_offset + k }
