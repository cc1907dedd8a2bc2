-- The tests that formulas are compiled to.
use Rattle.std.specs.Prelude.{◌≡◌, ◌+◌, ◌<◌, ◌≤◌, ℕ, List, [], ◌∷◌, ◌++◌, length, take, drop, map, ◌==◌, if◌then◌else◌, nat_lt, Bool, Option}
use Rattle.ip_filter.specs.Formula.{Formula, both, either, truth, terms_of}
use Rattle.ip_filter.specs.Tests.{frame_meets}
use Rattle.ip_filter.specs.Frames.{meets_in, holds_in}
use Rattle.ip_filter.specs.Program.{led_to, tests_of, frame_holds}
use Rattle.ip_filter.specs.declared.compile.Compiler.{Compiler}
use Rattle.ip_filter.specs.declared.filter.Test.{Test}
use Rattle.ip_filter.specs.declared.frame.Frame.{Frame}
use Rattle.ip_filter.specs.declared.term.Term.{Term}

-- what a filter is asked of: a packet alone, if there is one, or a frame with the packet in it
pub data Subject : Type 0 where
  alone : Option (List ℕ) → Subject
  framed : Frame → Option (List ℕ) → Subject

-- it meets a test, and a term holds of it
abbrev pub subject_meets : Subject → Test → Bool
subject_meets (alone packet) x = frame_meets packet x
subject_meets (framed f packet) x = meets_in f packet x

abbrev pub subject_holds : Subject → Term → Bool
subject_holds (alone packet) t = frame_holds packet t
subject_holds (framed f packet) t = holds_in f packet t

-- how many terms formulas have
abbrev pub terms_of_all : List Formula → ℕ
terms_of_all [] = 0
terms_of_all (f ∷ fs) = terms_of f + terms_of_all fs

-- the last two formulas, joined
abbrev pub joined_by : Bool → Formula → Formula → Formula
joined_by is_and f g = if is_and then both f g else either f g

-- the index to which an operand leads that decides: a false one of `and`, a true one of `or`
abbrev pub decided : Bool → ℕ
decided is_and = if is_and then 65 else 64

-- the index to which a test leads the subject
abbrev pub led_by : Subject → Test → ℕ
led_by subject x = if subject_meets subject x then x.if_met else x.if_not

-- The tests `xs`, of which the first has the index i, lead the subject to index 64 if the formula holds of it, otherwise to 65.
abbrev pub Decide : Subject → Formula → ℕ → List Test → Type 0
Decide subject f i xs = led_to (subject_meets subject) i i xs ≡ (if truth f (subject_holds subject) then 64 else 65)

-- The tests `xs` are those of the formulas, the last formula first: each formula's start at an index of `starts`. A formula
-- has at least one test, and at most one for each of its terms.
abbrev pub AreCompiled : Subject → List Formula → List ℕ → List Test → Type 0
AreCompiled subject [] starts xs = (starts ≡ []) × (xs ≡ [])
AreCompiled subject (f ∷ fs) starts xs =
    (rest : List ℕ) × (i : ℕ) × (starts ≡ rest ++ i ∷ []) × (i < length xs) × (length xs ≤ i + terms_of f) × Decide subject f i (drop i xs)
    × AreCompiled subject fs rest (take i xs)

-- c has compiled the formulas, the last formula first.
abbrev pub HasCompiled : List Formula → Compiler → Type 0
HasCompiled fs c = (subject : Subject) → AreCompiled subject fs c.starts.items (tests_of c.filter)

-- Of the tests that led to 64 or 65, those lead to a or b.
abbrev pub index_moved : ℕ → ℕ → ℕ → ℕ
index_moved a b n = if n == 64 then a else if n == 65 then b else n

abbrev pub redirected : ℕ → ℕ → Test → Test
redirected a b x = record x { if_met = index_moved a b x.if_met; if_not = index_moved a b x.if_not }

-- The tests from index i on are redirected.
abbrev pub redirected_from : ℕ → ℕ → ℕ → List Test → List Test
redirected_from i a b xs = take i xs ++ map (redirected a b) (drop i xs)

-- A test that has moved on by one, with the tests to which it leads.
abbrev pub index_shifted : ℕ → ℕ
index_shifted n = if nat_lt n 64 then n + 1 else n

abbrev pub shifted : Test → Test
shifted x = record x { if_met = index_shifted x.if_met; if_not = index_shifted x.if_not }

-- The tests after x has been put before them: each has moved on by one, and the last one is gone.
unfoldable pub put_first : Test → List Test → List Test
put_first x [] = []
put_first x (y ∷ ys) = x ∷ put_first (shifted y) ys
