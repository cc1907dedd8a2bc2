-- The state of a reader over a standard one.
use Rattle.std.specs.Prelude.{Bool}
use Rattle.ip_base.specs.declared.io.over_read.OverRead.{OverRead}

module _ {R : Type 0} where
  -- the inner reader
  abbrev pub reader_of : OverRead R → R
  reader_of o = o.reader

  -- whether a read was refused
  abbrev pub is_failed : OverRead R → Bool
  is_failed o = o.failed
