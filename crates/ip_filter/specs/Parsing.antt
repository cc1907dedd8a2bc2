-- How the parser puts a filter together, word by word.
use Rattle.std.specs.Prelude.{◌≡◌, ◌≤◌, ◌<◌, ◌+◌, ℕ, List, [], ◌∷◌, ◌++◌, length, take, drop, Bool, true, false, Option, Some, None, is_some, ⊤, ◌⊎◌, ◌-◌, ◌^◌, IsTrue, codes}
use Rattle.std.specs.Option.{option_map_or}
use Rattle.ip_filter.specs.declared.compile.Compiler.{Compiler}
use Rattle.ip_filter.specs.declared.builder.Level.{Level}
use Rattle.ip_filter.specs.declared.builder.Builder.{Builder}
use Rattle.ip_filter.specs.declared.parse_error.Expected.{Expected}
use Rattle.ip_filter.specs.declared.parse_error.Expected.TheVariants as expects
use Rattle.ip_filter.specs.declared.qualifiers.Qualifiers.{Qualifiers}
use Rattle.ip_filter.specs.declared.qualifiers.Primitive.{Primitive}
use Rattle.ip_filter.specs.Words.{Word, words}
use Rattle.ip_filter.specs.Formula.{Formula, terms_of}
use Rattle.ip_filter.specs.Qualifiers.{says}
use Rattle.ip_filter.specs.Compiled.{HasCompiled}
use Rattle.ip_filter.specs.Operators.{is_not, is_and, is_or}
use Rattle.ip_filter.specs.Grammar.{Operand, Conjunction, Disjunction, a_primitive, a_negation, a_group, an_operand, an_and, a_conjunction, an_or, IsPrimitive, operand_leaves, conjunction_leaves, leaves_of, conjunction_words, filter_words, operand_terms, conjunction_terms, terms_in, operand_formula, conjunction_formula, formula_of}
use Rattle.ip_filter.specs.Reading.{ends_term, IsSuffix, IsPlace, WantsArgument, IsOperator, BeginsPrimitive}

-- ---- the parts that are read

-- What was read since the text or a group began: a disjunction and its `or`, a conjunction and its `and`, and words `not`.
pub record Open : Type 0 where
  pub or_left : Option (Disjunction × Word)
  pub and_left : Option (Conjunction × Word)
  pub nots : List Word

abbrev pub nothing_open : Open
nothing_open = record { or_left = None; and_left = None; nots = [] }

-- Open groups, the innermost first, and what was read in the last one: an operand follows, or a conjunction was read.
pub data State : Type 0 where
  before : List Open → Open → State
  after : List Open → Option (Disjunction × Word) → Conjunction → State

abbrev pub negate : List Word → Operand → Operand
negate [] u = u
negate (w ∷ ws) u = a_negation w (negate ws u)

abbrev pub and_joined : Option (Conjunction × Word) → Operand → Conjunction
and_joined None u = an_operand u
and_joined (Some p) u = an_and p.0 p.1 u

abbrev pub or_joined : Option (Disjunction × Word) → Conjunction → Disjunction
or_joined None c = a_conjunction c
or_joined (Some p) c = an_or p.0 p.1 c

-- an operand was read
abbrev pub with_operand : List Open → Open → Operand → State
with_operand fs f u = after fs f.or_left (and_joined f.and_left (negate f.nots u))

-- the qualifiers of the last primitive that was read, after one with the qualifiers x
abbrev pub or_leaves : Option Qualifiers → Option (Disjunction × Word) → Option Qualifiers
or_leaves x None = x
or_leaves x (Some p) = leaves_of p.0

abbrev pub and_leaves : Option Qualifiers → Option (Conjunction × Word) → Option Qualifiers
and_leaves x None = x
and_leaves x (Some p) = conjunction_leaves p.0

abbrev pub group_leaves : List Open → Option Qualifiers
group_leaves [] = None
group_leaves (f ∷ fs) = and_leaves (or_leaves (group_leaves fs) f.or_left) f.and_left

abbrev pub state_leaves : State → Option Qualifiers
state_leaves (before fs f) = group_leaves (f ∷ fs)
state_leaves (after fs o c) = conjunction_leaves c

-- how many terms were read
abbrev pub open_terms : Open → ℕ
open_terms f = option_map_or (λ p. terms_in p.0) f.or_left 0 + option_map_or (λ p. conjunction_terms p.0) f.and_left 0

abbrev pub group_terms : List Open → ℕ
group_terms [] = 0
group_terms (f ∷ fs) = group_terms fs + open_terms f

abbrev pub state_terms : State → ℕ
state_terms (before fs f) = group_terms fs + open_terms f
state_terms (after fs o c) = group_terms fs + option_map_or (λ p. terms_in p.0) o 0 + conjunction_terms c

-- the words that were read
abbrev pub open_words : Open → List Word
open_words f = option_map_or (λ p. filter_words p.0 ++ p.1 ∷ []) f.or_left [] ++ option_map_or (λ p. conjunction_words p.0 ++ p.1 ∷ []) f.and_left [] ++ f.nots

abbrev pub group_words : List Open → List Word
group_words [] = []
group_words (f ∷ fs) = group_words fs ++ open_words f ++ codes "(" ∷ []

abbrev pub state_words : State → List Word
state_words (before fs f) = group_words fs ++ open_words f
state_words (after fs o c) = group_words fs ++ option_map_or (λ p. filter_words p.0 ++ p.1 ∷ []) o [] ++ conjunction_words c

-- there aren't too many terms, also with the one that has to follow
abbrev pub HasRoom : State → Type 0
HasRoom (before fs f) = state_terms (before fs f) < 64
HasRoom (after fs o c) = state_terms (after fs o c) ≤ 64

-- no count is too large
pub record CountsFit (s : State) : Type 0 where
  pub terms : HasRoom s
  pub words : length (state_words s) < 2 ^ 63

-- The words lead from one state to the next.
pub data Moves : State → List Word → State → Type 0 where
  by_not : (fs : List Open) (f : Open) (w : Word) → IsTrue (is_not w) → Moves (before fs f) (w ∷ []) (before fs (record f { nots = f.nots ++ w ∷ [] }))
  by_open : (fs : List Open) (f : Open) → length fs < 16 → Moves (before fs f) (codes "(" ∷ []) (before (f ∷ fs) nothing_open)
  by_primitive : (fs : List Open) (f : Open) (w : Word) (us : List Word) (p : Primitive) → IsPrimitive (group_leaves (f ∷ fs)) w us p
      → state_terms (before fs f) + terms_of (says p) ≤ 64 → Moves (before fs f) (w ∷ us) (with_operand fs f (a_primitive w us p))
  by_and : (fs : List Open) (o : Option (Disjunction × Word)) (c : Conjunction) (w : Word) → IsTrue (is_and w) → state_terms (after fs o c) < 64
      → Moves (after fs o c) (w ∷ []) (before fs (record { or_left = o; and_left = Some (c, w); nots = [] }))
  by_or : (fs : List Open) (o : Option (Disjunction × Word)) (c : Conjunction) (w : Word) → IsTrue (is_or w) → state_terms (after fs o c) < 64
      → Moves (after fs o c) (w ∷ []) (before fs (record { or_left = Some (or_joined o c, w); and_left = None; nots = [] }))
  by_close : (fs : List Open) (f : Open) (o : Option (Disjunction × Word)) (c : Conjunction)
      → Moves (after (f ∷ fs) o c) (codes ")" ∷ []) (with_operand fs f (a_group (or_joined o c)))

-- what may follow a state
abbrev pub may_follow : State → List Word → Type 0
may_follow (before fs f) ws = ⊤
may_follow (after fs o c) ws = IsTrue (ends_term ws)

-- From the state, the words lead to the whole filter d.
pub data LeadsTo : State → List Word → Disjunction → Type 0 where
  ends : (o : Option (Disjunction × Word)) (c : Conjunction) → LeadsTo (after [] o c) [] (or_joined o c)
  goes_on : (s t : State) (us ws all : List Word) (d : Disjunction) → all ≡ us ++ ws → Moves s us t → may_follow t ws → LeadsTo t ws d → LeadsTo s all d

-- ---- what is expected

-- an operand follows
abbrev pub NeedsOperand : State → Type 0
NeedsOperand (before fs f) = ⊤
NeedsOperand (after fs o c) = ⊥

-- what was read is a whole filter
abbrev pub IsWhole : State → Type 0
IsWhole (after [] o c) = ⊤
IsWhole s = ⊥

-- the last group may end here
abbrev pub EndsGroup : State → Type 0
EndsGroup (after (f ∷ fs) o c) = ⊤
EndsGroup s = ⊥

-- an operand follows, and a primitive begins with these words, however many terms it has
abbrev pub GoesOnWith : State → List Word → Type 0
GoesOnWith (before fs f) ws = BeginsPrimitive (group_leaves (f ∷ fs)) ws (λ p. ⊤)
GoesOnWith (after fs o c) ws = ⊥

-- what is expected after this state and the words `front` instead of `next`
abbrev pub IsDue : State → List Word → List Word → Expected → Type 0
IsDue s front next expects.Operand = NeedsOperand s × (front ≡ []) × ¬ (next ≡ codes "(" ∷ [])
IsDue s front next expects.LessNesting = NeedsOperand s × (front ≡ []) × (next ≡ codes "(" ∷ [])
IsDue s front next expects.OperatorOrEnd = IsWhole s × (front ≡ []) × ¬ IsOperator next
IsDue s front next expects.OperatorOrClose = EndsGroup s × (front ≡ []) × ¬ IsOperator next
IsDue s front next expects.FewerTerms = ((IsWhole s ⊎ EndsGroup s) × (front ≡ []) × IsOperator next) ⊎ GoesOnWith s (front ++ next)
IsDue s front next e = WantsArgument front e

-- ---- the formulas of the parts

-- In a list of formulas the last one is first. The left operand of an `or` or `and`, if there is one, precedes `fs`.
abbrev pub or_formulas : Option (Disjunction × Word) → List Formula → List Formula
or_formulas None fs = fs
or_formulas (Some p) fs = formula_of p.0 ∷ fs

abbrev pub and_formulas : Option (Conjunction × Word) → List Formula → List Formula
and_formulas None fs = fs
and_formulas (Some p) fs = conjunction_formula p.0 ∷ fs

abbrev pub group_formulas : List Open → List Formula
group_formulas [] = []
group_formulas (f ∷ fs) = and_formulas f.and_left (or_formulas f.or_left (group_formulas fs))

abbrev pub state_formulas : State → List Formula
state_formulas (before fs f) = group_formulas (f ∷ fs)
state_formulas (after fs o c) = conjunction_formula c ∷ or_formulas o (group_formulas fs)

-- ---- the parser's values

abbrev pub level_of : Open → Level
level_of f = record { nots = length f.nots; or_waits = is_some f.or_left; and_waits = is_some f.and_left }

abbrev pub levels_of : List Open → List Level
levels_of [] = []
levels_of (f ∷ fs) = levels_of fs ++ level_of f ∷ []

abbrev pub outer_of : State → List Level
outer_of (before fs f) = levels_of fs
outer_of (after fs o c) = levels_of fs

abbrev pub last_level : State → Level
last_level (before fs f) = level_of f
last_level (after fs o c) = record { nots = 0; or_waits = is_some o; and_waits = false }

abbrev pub has_operand : State → Bool
has_operand (before fs f) = false
has_operand (after fs o c) = true

-- b holds what was read before the operand u, and the formula of u
pub record HoldsOperand (fs : List Open) (f : Open) (u : Operand) (b : Builder) : Type 0 where
  pub compiled : HasCompiled (operand_formula u ∷ group_formulas (f ∷ fs)) b.compiler
  pub terms : b.terms ≡ group_terms fs + open_terms f + operand_terms u
  pub outer : b.outer.items ≡ levels_of fs
  pub level : b.level ≡ level_of f
  pub leaves : b.leaves ≡ operand_leaves u

-- b holds what was read in a group before its end, but for the level around the group
pub record HoldsGroup (fs : List Open) (f : Open) (o : Option (Disjunction × Word)) (c : Conjunction) (level : Level) (b : Builder) : Type 0 where
  pub compiled : HasCompiled (state_formulas (after (f ∷ fs) o c)) b.compiler
  pub terms : b.terms ≡ state_terms (after (f ∷ fs) o c)
  pub outer : b.outer.items ≡ levels_of fs
  pub around : level ≡ level_of f
  pub or_waits : b.level.or_waits ≡ is_some o
  pub leaves : b.leaves ≡ conjunction_leaves c

-- b holds what was read in the state s
pub record Holds (s : State) (b : Builder) : Type 0 where
  pub compiled : HasCompiled (state_formulas s) b.compiler
  pub terms : b.terms ≡ state_terms s
  pub outer : b.outer.items ≡ outer_of s
  pub level : b.level ≡ last_level s
  pub operand : b.has_operand ≡ has_operand s
  pub leaves : b.leaves ≡ state_leaves s

-- ---- what is read next

-- From the state s, the first words of the text lead to one next state, which b holds, and `rest` follows them. Other words
-- that begin like these, up to the next one, lead nowhere else.
pub record ReadsOn (s : State) (text rest : List ℕ) (b : Builder) : Type 0 where
  pub next : State
  pub us : List Word
  pub moves : Moves s us next
  pub begins : words text ≡ us ++ words rest
  pub end : IsSuffix text rest
  pub holds : Holds next b
  pub only : (t : State) (vs ws more : List Word) → Moves s vs t → may_follow t more → vs ++ more ≡ us ++ ws → take 1 ws ≡ take 1 (words rest) → (t ≡ next) × (vs ≡ us)

-- From the state s, no words lead on that begin like those of the text, up to that at the place `left`. Some filter begins
-- with the words before that place, after which e is expected.
pub record RefusesFrom (s : State) (text : List ℕ) (left : ℕ) (e : Expected) : Type 0 where
  pub front : List Word
  pub place : IsPlace text front left
  pub begins : HasRoom s → (d : Disjunction) × (ws : List Word) × LeadsTo s (front ++ ws) d
  pub none : (t : State) (vs ws more : List Word) → Moves s vs t → may_follow t more → vs ++ more ≡ front ++ ws
      → take 1 ws ≡ take 1 (words (drop (length text - left) text)) → ⊥
  pub expected : IsDue s front (take 1 (words (drop (length text - left) text))) e

-- The state is that of a whole filter, whose formula the compiler has compiled.
pub record IsFinished (s : State) (compiler : Compiler) : Type 0 where
  pub or_left : Option (Disjunction × Word)
  pub last : Conjunction
  pub whole : s ≡ after [] or_left last
  pub compiled : HasCompiled (formula_of (or_joined or_left last) ∷ []) compiler
