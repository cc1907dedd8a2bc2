-- The words that join operands.
use Rattle.std.specs.Prelude.{Bool, ◌||◌, codes}
use Rattle.std.specs.Str.{bytes_eq}
use Rattle.ip_filter.specs.Words.{Word}

abbrev pub is_not : Word → Bool
is_not w = bytes_eq w (codes "not") || bytes_eq w (codes "!")

abbrev pub is_and : Word → Bool
is_and w = bytes_eq w (codes "and") || bytes_eq w (codes "&&")

abbrev pub is_or : Word → Bool
is_or w = bytes_eq w (codes "or") || bytes_eq w (codes "||")
