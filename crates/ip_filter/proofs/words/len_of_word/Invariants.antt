use Rattle.std.proofs.Common.{◌≡◌, ◌+◌, ◌-◌, drop}
use Rattle.ip_filter.specs.Words.{word_len}
use Rattle.ip_filter.proofs.words.len_of_word.Given as goal

-- the word goes on at the byte before this one
abbrev pub invariant-bytes : goal.invariant-bytes
invariant-bytes l = word_len l.bytes + 1 ≡ l.i + word_len (drop (l.i - 1) l.bytes)
