-- The words of a filter's text: runs of bytes between white space, where a sign ends a word.
use Rattle.std.specs.Prelude.{ℕ, suc, List, [], ◌∷◌, Bool, not, ◌==◌, ◌&&◌, ◌||◌, if◌then◌else◌}

abbrev pub Word : Type 0
Word = List ℕ

-- a tab, a line feed, a carriage return or a space
abbrev pub is_white_space : ℕ → Bool
is_white_space c = (c == 9) || (c == 10) || (c == 13) || (c == 32)

-- one of ! & ( ) < = > |
abbrev pub is_sign : ℕ → Bool
is_sign c = (c == 33) || (c == 38) || (c == 40) || (c == 41) || (c == 60) || (c == 61) || (c == 62) || (c == 124)

-- the signs c and d are one word: && || != <= == >=
abbrev pub is_double_sign : ℕ → ℕ → Bool
is_double_sign c d = ((c == d) && ((c == 38) || (c == 124))) || ((d == 61) && ((c == 33) || (c == 60) || (c == 61) || (c == 62)))

-- the byte c, which is no white space, and the byte d after it are in one word
abbrev pub joins : ℕ → ℕ → Bool
joins c d = if is_sign c then is_double_sign c d else not (is_white_space d) && not (is_sign d)

-- the words of the bytes c ∷ s, of which those of s are given
abbrev pub with_byte : ℕ → List ℕ → List Word → List Word
with_byte c (d ∷ s) (w ∷ ws) = if joins c d then (c ∷ w) ∷ ws else (c ∷ []) ∷ w ∷ ws
with_byte c s ws = (c ∷ []) ∷ ws

unfoldable pub words : List ℕ → List Word
words [] = []
words (c ∷ s) = if is_white_space c then words s else with_byte c s (words s)

-- the length of the word that the bytes begin with
unfoldable pub word_len : List ℕ → ℕ
word_len [] = 0
word_len (c ∷ []) = 1
word_len (c ∷ d ∷ s) = if joins c d then suc (word_len (d ∷ s)) else 1
