-- The limit of a reader, counted from the start of a layer.
use Rattle.std.specs.Prelude.{ℕ, ◌+◌, ◌-◌}
use Rattle.ip_base.specs.LenError.{too_short}
use Rattle.ip_base.specs.declared.err.layer.Layer.{Layer}
use Rattle.ip_base.specs.declared.err.len_error.LenError.{LenError}
use Rattle.ip_base.specs.declared.len_source.LenSource.{LenSource}

-- The layer starts at layer_offset. At most max_len bytes may be read from there, a length given by len_source;
-- read_len of them have been read.
pub record Limits : Type 0 where
  pub max_len : ℕ
  pub len_source : LenSource
  pub layer : Layer
  pub layer_offset : ℕ
  pub read_len : ℕ

-- how many bytes may still be read
abbrev pub left : Limits → ℕ
left l = l.max_len - l.read_len

-- the limit after a layer is started at the current position
abbrev pub started : Layer → Limits → Limits
started layer l = record {
  max_len = left l;
  len_source = l.len_source;
  layer = layer;
  layer_offset = l.layer_offset + l.read_len;
  read_len = 0;
}

-- the limit after n more bytes were read
abbrev pub advanced : ℕ → Limits → Limits
advanced n l = record l { read_len = l.read_len + n }

-- the error of a request for count bytes that exceeds the limit
abbrev pub limit_error : ℕ → Limits → LenError
limit_error count l = too_short l.len_source l.max_len l.layer_offset l.layer (l.read_len + count)
