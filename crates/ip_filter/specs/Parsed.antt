-- What a text is parsed as, and where it is refused.
use Rattle.std.specs.Prelude.{◌≡◌, ◌≤◌, ◌-◌, ◌⊎◌, ℕ, List, [], ◌∷◌, ◌++◌, length, take, drop, codes, Option, None}
use Rattle.ip_filter.specs.declared.filter.Filter.{Filter}
use Rattle.ip_filter.specs.declared.parse_error.Expected.{Expected}
use Rattle.ip_filter.specs.declared.parse_error.Expected.TheVariants as expects
use Rattle.ip_filter.specs.Words.{Word, words}
use Rattle.ip_filter.specs.Formula.{truth}
use Rattle.ip_filter.specs.Tests.{frame_meets}
use Rattle.ip_filter.specs.Frames.{meets_in, holds_in}
use Rattle.ip_filter.specs.declared.frame.Frame.{Frame}
use Rattle.ip_filter.specs.Program.{tests_of, passes, frame_holds}
use Rattle.ip_filter.specs.Grammar.{Disjunction, filter_words, formula_of, terms_in, depth_of, IsDisjunction, IsFilter}
use Rattle.ip_filter.specs.Reading.{IsPlace, WantsArgument, IsOperator}

-- The words of the text are a filter, in one way, and x lets those frames pass of which its formula holds. It has one test at
-- most for each term.
pub record IsParsedFilter (text : List ℕ) (x : Filter) : Type 0 where
  pub written : Disjunction
  pub filter : IsFilter written
  pub words_of : filter_words written ≡ words text
  pub only : (d : Disjunction) → IsFilter d → filter_words d ≡ words text → d ≡ written
  pub formula : (frame : Option (List ℕ)) → passes (tests_of x) (frame_meets frame) ≡ truth (formula_of written) (frame_holds frame)
  pub framed : (frame : Frame) (packet : Option (List ℕ)) → passes (tests_of x) (meets_in frame packet) ≡ truth (formula_of written) (holds_in frame packet)
  pub tests : x.count ≤ terms_in written

-- the words are a filter
abbrev pub AreFilter : List Word → Type 0
AreFilter ws = (d : Disjunction) × IsFilter d × (filter_words d ≡ ws)

-- some filter begins with the words
abbrev pub BeginFilter : List Word → Type 0
BeginFilter ws = (d : Disjunction) × (rest : List Word) × IsFilter d × (filter_words d ≡ ws ++ rest)

-- some filter begins with the words, however many terms it has
abbrev pub BeginLongFilter : List Word → Type 0
BeginLongFilter ws = (d : Disjunction) × (rest : List Word) × IsDisjunction None d × (depth_of d ≤ 16) × (filter_words d ≡ ws ++ rest)

-- What is expected after the words `front` instead of `next`, which is the next word, or nothing at the end of the text.
-- An operator, or a word of a primitive of several terms, is refused for the number of terms, and a parenthesis for the nesting.
abbrev pub IsExpected : List Word → List Word → Expected → Type 0
IsExpected front next expects.Operand = BeginFilter (front ++ codes "not" ∷ []) × ¬ (next ≡ codes "(" ∷ [])
IsExpected front next expects.LessNesting = BeginFilter (front ++ codes "not" ∷ []) × (next ≡ codes "(" ∷ [])
IsExpected front next expects.OperatorOrEnd = AreFilter front × ¬ IsOperator next
IsExpected front next expects.OperatorOrClose = BeginFilter (front ++ codes ")" ∷ []) × ¬ IsOperator next
IsExpected front next expects.FewerTerms =
    ((AreFilter front ⊎ BeginFilter (front ++ codes ")" ∷ [])) × IsOperator next) ⊎ BeginLongFilter (front ++ next)
IsExpected front next e = WantsArgument front e

-- A word begins at this offset, or the text ends there. A filter begins with the words before it, but none with these
-- words and that one, or with these words alone if the text ends there. There e is expected.
pub record IsFirstError (text : List ℕ) (offset : ℕ) (e : Expected) : Type 0 where
  pub within : offset ≤ length text
  pub front : List Word
  pub place : IsPlace text front (length text - offset)
  pub begins : BeginFilter front
  pub none : (d : Disjunction) (ws : List Word) → IsFilter d → filter_words d ≡ front ++ ws → take 1 ws ≡ take 1 (words (drop offset text)) → ⊥
  pub expected : IsExpected front (take 1 (words (drop offset text))) e
