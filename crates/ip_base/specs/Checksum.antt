-- Words of 16 bits, and the internet checksum (RFC 1071, section 1).
use Rattle.std.specs.Prelude.{ℕ, zero, suc, ◌+◌, ◌-◌, ◌*◌, ◌/◌, ◌%◌, nat_lt, List, length, slice_index, slice_set, if◌then◌else◌}

-- bytes b with a number of 16 bits at an index, in network byte order
abbrev pub with_word : List ℕ → ℕ → ℕ → List ℕ
with_word b i n = slice_set (slice_set b i (n / 256)) (i + 1) (n % 256)

-- the one's complement sum of two numbers of 16 bits: a carry is added at the other end
abbrev pub add_ones : ℕ → ℕ → ℕ
add_ones a b = if nat_lt 65535 (a + b) then a + b - 65535 else a + b

-- the word of 2 bytes with this index, in network byte order; a zero follows the last byte of an odd number
abbrev pub word_of : List ℕ → ℕ → ℕ
word_of b i = 256 * slice_index b (2 * i) + slice_index b (2 * i + 1)

-- the one's complement sum of the first n words
abbrev pub sum_of : List ℕ → ℕ → ℕ
sum_of b zero = 0
sum_of b (suc n) = add_ones (sum_of b n) (word_of b n)

-- the one's complement sum of all words
abbrev pub ones_sum : List ℕ → ℕ
ones_sum b = sum_of b ((length b + 1) / 2)

-- its one's complement
abbrev pub checksum_of : List ℕ → ℕ
checksum_of b = 65535 - ones_sum b
